-- A text is of just the lines and fields that its line feeds and spaces cut.
use Rattle.std.proofs.Common.{◌≡◌, ◌≢◌, ◌==◌, ℕ, ◌+◌, ◌≤◌, Bool, true, false, cond, List, [], ◌∷◌, ◌++◌, map, length, get_or, refl, sym, ap, subst, ◌∙◌, arith}
use Rattle.std.proofs.lemmas.Bool.Decides.{nat_tests}
use Rattle.std.proofs.lemmas.List.{append-nil, get_or_at, append_assoc, append_cancel_right, length-append}
use Rattle.std.proofs.lemmas.List.Elements.{All-nil, All-cons, All-head, All-tail, All-append, All-weaker, All-map}
use Rattle.std.proofs.lemmas.List.Splits.{slice_split_at, slice_split_none, length-slice_split, join_with_byte-slice_split}
use Rattle.std.specs.List.{All, flat_map, join_with_byte, onto_first}
use Rattle.table.specs.Places.{nth}
use Rattle.table.proofs.Placed.{nth_next}
use Rattle.sheets.specs.Texts.{fields_in, parts, IsField, line_of, text_of, IsText}

abbrev pub ended : List ℕ → List ℕ
ended line = line ++ 10 ∷ []

-- the lines of a text, without its last line feed, as their fields
abbrev pub cut : List ℕ → List (List (List ℕ))
cut body = map fields_in (parts 10 body)

-- there is always a part
pub some_part : (m : ℕ) (xs : List ℕ) → 1 ≤ length (parts m xs)
some_part m xs = omega (arith, length-slice_split (λ b. b == m) xs)

module _ (P : ℕ → Type 0) (m : ℕ) where
  onto : (x : ℕ) (ps : List (List ℕ)) → P x → All (All P) ps → All (All P) (onto_first x ps)
  onto x [] p h = All-cons (All P) (x ∷ []) [] (All-cons P x [] p (All-nil P)) (All-nil (All P))
  onto x (y ∷ ps) p h = All-cons (All P) (x ∷ y) ps (All-cons P x y p (All-head (All P) y ps h)) (All-tail (All P) y ps h)

  -- what holds of each byte but the separator holds of each byte of the parts
  pub parts_hold : (xs : List ℕ) → All (λ b. b ≢ m → P b) xs → All (All P) (parts m xs)
  parts_hold [] h = All-cons (All P) [] [] (All-nil P) (All-nil (All P))
  parts_hold (x ∷ xs) h =
      let rest = parts_hold xs (All-tail (λ b. b ≢ m → P b) x xs h) in
      go (x == m) refl rest where
        go : (b : Bool) → (x == m) ≡ b → All (All P) (parts m xs) → All (All P) (cond b ([] ∷ parts m xs) (onto_first x (parts m xs)))
        go true e rest = All-cons (All P) [] (parts m xs) (All-nil P) rest
        go false e rest = onto x (parts m xs) (All-head (λ b. b ≢ m → P b) x xs h (grind (arith, nat_tests))) rest

-- lines that are joined by line feeds, with one more behind
ended_lines : (ls : List (List ℕ)) → 1 ≤ length ls → flat_map ended ls ≡ ended (join_with_byte 10 ls)
ended_lines [] some = absurd (omega arith)
ended_lines (l ∷ []) some = append-nil (ended l)
ended_lines (l ∷ k ∷ ls) some =
    let rest = join_with_byte 10 (k ∷ ls) in
    ap (λ t. ended l ++ t) (ended_lines (k ∷ ls) (omega arith))
    ∙ append_assoc l (10 ∷ []) (ended rest) ∙ sym (append_assoc l (10 ∷ rest) (10 ∷ []))

lacks : (m : ℕ) (p : List ℕ) → All (λ b. b ≢ m) p → All (λ b. (b == m) ≡ false) p
lacks m p h = All-weaker (λ b. b ≢ m) (λ b. (b == m) ≡ false) (λ b d. grind (arith, nat_tests)) p h

-- parts that lack the separator are cut where they were joined
pub parts-join : (m : ℕ) (ps : List (List ℕ)) → 1 ≤ length ps → All (All (λ b. b ≢ m)) ps → parts m (join_with_byte m ps) ≡ ps
parts-join m [] some h = absurd (omega arith)
parts-join m (p ∷ []) some h = slice_split_none (λ b. b == m) p (lacks m p (All-head (All (λ b. b ≢ m)) p [] h))
parts-join m (p ∷ q ∷ ps) some h =
    slice_split_at (λ b. b == m) p m (join_with_byte m (q ∷ ps)) (lacks m p (All-head (All (λ b. b ≢ m)) p (q ∷ ps) h)) (grind (arith, nat_tests))
    ∙ ap (λ l. p ∷ l) (parts-join m (q ∷ ps) (omega arith) (All-tail (All (λ b. b ≢ m)) p (q ∷ ps) h))

-- the lines of a text, as bytes
text_lines : (lines : List (List (List ℕ))) → text_of lines ≡ flat_map ended (map line_of lines)
text_lines [] = refl
text_lines (l ∷ ls) = ap (λ t. ended (line_of l) ++ t) (text_lines ls)

joined : (ls : List (List ℕ)) → map line_of (map fields_in ls) ≡ ls
joined [] = refl
joined (l ∷ ls) = ap (λ (k : List ℕ). k ∷ map line_of (map fields_in ls)) (join_with_byte-slice_split 32 l) ∙ ap (λ (ks : List (List ℕ)). l ∷ ks) (joined ls)

abbrev Line : List (List ℕ) → Type 0
Line fields = (1 ≤ length fields) × All IsField fields

-- a text that ends in a line feed is of the lines that it is cut into
pub cut_is_text : (body : List ℕ) → IsText (ended body) (cut body)
cut_is_text body = record {
  whole = sym (text_lines (cut body) ∙ ap (flat_map ended) (joined (parts 10 body)) ∙ ended_lines (parts 10 body) (some_part 10 body) ∙ ap ended (join_with_byte-slice_split 10 body));
  each = All-map Line fields_in (parts 10 body)
      (All-weaker (All (λ b. b ≢ 10)) (λ l. Line (fields_in l)) (λ l h. (some_part 32 l, parts_hold (λ b. (b ≢ 10) × (b ≢ 32)) 32 l (All-weaker (λ b. b ≢ 10) (λ b. b ≢ 32 → (b ≢ 10) × (b ≢ 32)) (λ b x y. (x, y)) l h))) (parts 10 body)
      (parts_hold (λ b. b ≢ 10) 10 body (λ k d l e. e)));
}

line_lacks : (fields : List (List ℕ)) → All IsField fields → All (λ b. b ≢ 10) (line_of fields)
line_lacks [] h = All-nil (λ b. b ≢ 10)
line_lacks (f ∷ []) h = All-weaker (λ b. (b ≢ 10) × (b ≢ 32)) (λ b. b ≢ 10) (λ b e. e.0) f (All-head IsField f [] h)
line_lacks (f ∷ g ∷ fs) h =
    All-append (λ b. b ≢ 10) f (32 ∷ line_of (g ∷ fs)) (All-weaker (λ b. (b ≢ 10) × (b ≢ 32)) (λ b. b ≢ 10) (λ b e. e.0) f (All-head IsField f (g ∷ fs) h))
    (All-cons (λ b. b ≢ 10) 32 (line_of (g ∷ fs)) (omega arith) (line_lacks (g ∷ fs) (All-tail IsField f (g ∷ fs) h)))

parted : (lines : List (List (List ℕ))) → All Line lines → map fields_in (map line_of lines) ≡ lines
parted [] h = refl
parted (l ∷ ls) h =
    let line = All-head Line l ls h in
    ap (λ (k : List (List ℕ)). k ∷ map fields_in (map line_of ls)) (parts-join 32 l line.0 (All-weaker IsField (All (λ b. b ≢ 32)) (λ f e. All-weaker (λ b. (b ≢ 10) × (b ≢ 32)) (λ b. b ≢ 32) (λ b x. x.1) f e) l line.1))
    ∙ ap (λ (ks : List (List (List ℕ))). l ∷ ks) (parted ls (All-tail Line l ls h))

-- and of no others
pub only_cut : (body : List ℕ) (lines : List (List (List ℕ))) → IsText (ended body) lines → lines ≡ cut body
only_cut body [] t = absurd (omega (arith, ap length t.whole, length-append body (10 ∷ [])))
only_cut body (l ∷ ls) t =
    let lines = l ∷ ls in
    let same : body ≡ join_with_byte 10 (map line_of lines) =
    append_cancel_right body (join_with_byte 10 (map line_of lines)) (10 ∷ []) (t.whole ∙ text_lines lines ∙ ended_lines (map line_of lines) (omega arith)) in
    sym (ap cut same
    ∙ ap (map fields_in) (parts-join 10 (map line_of lines) (omega arith) (All-map (All (λ b. b ≢ 10)) line_of lines (All-weaker Line (λ fields. All (λ b. b ≢ 10) (line_of fields)) (λ fields h. line_lacks fields h.1) lines t.each)))
    ∙ parted lines t.each)

-- the last byte of a text
pub last_byte : (text body : List ℕ) (last : ℕ) → text ≡ body ++ last ∷ [] → nth text (length text) 0 ≡ last
last_byte text body last e =
    let long : length text ≡ length body + 1 = ap length e ∙ length-append body (last ∷ []) in
    ap (λ k. nth text k 0) long ∙ nth_next text (length body) 0 ∙ ap (λ l. get_or l (length body) 0) e ∙ get_or_at body last [] 0 (length body) refl

-- two ways of seeing a text as lines are one
pub one_text : (text : List ℕ) (lines others : List (List (List ℕ))) → IsText text lines → IsText text others → lines ≡ others
one_text text [] [] s t = refl
one_text text [] (m ∷ ms) s t = absurd (omega (arith, ap length (sym s.whole ∙ t.whole), length-append (ended (line_of m)) (text_of ms), length-append (line_of m) (10 ∷ [])))
one_text text (l ∷ ls) others s t =
    let body = join_with_byte 10 (map line_of (l ∷ ls)) in
    let whole : text ≡ ended body = s.whole ∙ text_lines (l ∷ ls) ∙ ended_lines (map line_of (l ∷ ls)) (omega arith) in
    only_cut body (l ∷ ls) (at whole s) ∙ sym (only_cut body others (at whole t)) where
      at : {ds bs : List ℕ} {ks : List (List (List ℕ))} → ds ≡ bs → IsText ds ks → IsText bs ks
      at {ds} {bs} {ks} e k = subst (λ b. IsText b ks) e k
