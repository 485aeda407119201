-- The value of digits, digit by digit.
use Rattle.std.proofs.Common.{◌≡◌, ℕ, zero, suc, ◌+◌, ◌-◌, ◌*◌, ◌^◌, ◌<◌, ◌≤◌, List, [], ◌∷◌, ◌++◌, length, take, drop, get_or, refl, sym, ap, ◌∙◌, arith}
use Rattle.std.proofs.lemmas.List.{length-append, take-append-drop, take_more}
use Rattle.std.proofs.lemmas.Nat.{pow-add}
use Rattle.std.proofs.lemmas.List.Elements.{All-cons, All-nil}
use Rattle.sheets.specs.Fields.{IsDigit, value, Writes}

spread : (a p q v w r : ℕ) → r ≡ v * q + w → a * (p * q) + r ≡ (a * p + v) * q + w
spread a p q v w r e = grind arith

-- the digits of two lists, one behind the other
pub value-append : (xs ys : List ℕ) → value (xs ++ ys) ≡ value xs * 10 ^ length ys + value ys
unfolding value
value-append [] ys = grind arith
value-append (x ∷ xs) ys =
    ap (λ n. (x - 48) * n + value (xs ++ ys)) (ap (λ n. 10 ^ n) (length-append xs ys) ∙ pow-add 10 (length xs) (length ys))
    ∙ spread (x - 48) (10 ^ length xs) (10 ^ length ys) (value xs) (value ys) (value (xs ++ ys)) (value-append xs ys)

-- with one more digit
pub value_more : (xs : List ℕ) (i : ℕ) → i < length xs → value (take (i + 1) xs) ≡ 10 * value (take i xs) + (get_or xs i 0 - 48)
unfolding value
value_more xs i h =
    ap value (take_more xs i 0 h) ∙ value-append (take i xs) (get_or xs i 0 ∷ []) ∙ omega arith

grown : (v w p : ℕ) → 1 ≤ p → v ≤ v * p + w
grown v w p h = grind arith

pow-pos : (n : ℕ) → 1 ≤ 10 ^ n
pow-pos zero = omega arith
pow-pos (suc n) = omega (arith, pow-pos n)

-- the first digits write no more than all
pub value-take-le : (xs : List ℕ) (i : ℕ) → value (take i xs) ≤ value xs
value-take-le xs i =
    let whole = ap value (sym (take-append-drop i xs)) ∙ value-append (take i xs) (drop i xs) in
    omega (arith, whole, grown (value (take i xs)) (value (drop i xs)) (10 ^ length (drop i xs)) (pow-pos (length (drop i xs))))

pub value-none : value [] ≡ 0
unfolding value
value-none = refl

-- a lone zero
pub zero_writes : (field : List ℕ) → 1 ≤ length field → length field < 2 → get_or field 0 0 ≡ 48 → Writes field 0
unfolding value
zero_writes [] low high is = absurd (omega arith)
zero_writes (b ∷ []) low high is = record {
  some = omega arith;
  digits = All-cons IsDigit b [] (omega arith, omega arith) (All-nil IsDigit);
  plain = λ _. omega arith;
  number = omega arith;
  small = omega arith;
}
zero_writes (b ∷ c ∷ more) low high is = absurd (omega arith)
