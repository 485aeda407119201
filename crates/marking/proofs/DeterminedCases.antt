-- Sheets that are alike have one test and one list of rows.
use Rattle.std.proofs.Common.{◌≡◌, ℕ, ◌+◌, ◌≤◌, List, get_or, sym, ap, subst, ◌∙◌, arith}
use Rattle.std.proofs.Props.{props}
use Rattle.std.proofs.lemmas.List.{ext_get_or}
use Rattle.table.specs.declared.row.Row.{Row}
use Rattle.table.specs.Rows.{row, filler}
use Rattle.table.proofs.Placed.{nth_next}
use Rattle.table.proofs.Equal.{same_row}
use Rattle.bounds.specs.declared.processors.Processors.{Processors}
use Rattle.bounds.specs.declared.overhead.Overhead.{Overhead}
use Rattle.bounds.specs.declared.named.NamedTest.{NamedTest}
use Rattle.bounds.specs.declared.named.NamedTest.TheVariants.{ByDeadline, ByResponse, ByLimited}
use Rattle.bounds.specs.Named.{IsNamed}
use Rattle.sheets.specs.declared.form.Column.TheVariants.{Processors as M, Overhead as V, Test, Wcet, Period, Deadline}
use Rattle.sheets.specs.declared.sheet.Sheet.{Sheet}
use Rattle.sheets.specs.Sheets.{field_of}
use Rattle.sheets.specs.Pairs.{count_of}
use Rattle.marking.specs.Questions.{number_under, IsTest}
use Rattle.marking.specs.Reports.{RowsOf}
use Rattle.marking.proofs.Alike.{Alike, count, field, number}

abbrev InRange : ℕ → Type 0
InRange count = (1 ≤ count) × (count ≤ 16)

one_proof : (count : ℕ) → IsProp (InRange count)
one_proof count = Prim.hlevel props

processors : (count : ℕ) → InRange count → Processors
processors count ok = record { count = count; ok = ok }

same_processors : (p q : Processors) → p.count ≡ q.count → p ≡ q
unfolding processors
same_processors p q same = subst (λ c. (ok : InRange c) → p ≡ processors c ok) same (λ ok. ap (processors p.count) (one_proof p.count p.ok ok)) q.ok

da_on : Processors → NamedTest
da_on p = ByDeadline (record { processors = p })

rta_on : Processors → NamedTest
rta_on p = ByResponse (record { processors = p })

lc_on : Processors → NamedTest
lc_on p = ByLimited (record { processors = p })

-- a name's first letter tells which test it is
apart : (name : List ℕ) (a b : ℕ) → get_or name 0 0 ≡ a → get_or name 0 0 ≡ b → (a ≡ b → ⊥) → ⊥
apart name a b is also not_same = not_same (sym is ∙ also)

letter : (name other : List ℕ) → name ≡ other → get_or name 0 0 ≡ get_or other 0 0
letter name other is = ap (λ (x : List ℕ). get_or x 0 0) is

one_named : (name : List ℕ) (m : ℕ) (t u : NamedTest) → IsNamed name m t → IsNamed name m u → t ≡ u
unfolding da_on rta_on lc_on
one_named name m (ByDeadline t) (ByDeadline u) a b = ap da_on (same_processors t.processors u.processors (a.1 ∙ sym b.1))
one_named name m (ByDeadline t) (ByResponse u) a b = absurd (apart name 100 114 (letter _ _ a.0) (letter _ _ b.0) (λ e. omega (arith, e)))
one_named name m (ByDeadline t) (ByLimited u) a b = absurd (apart name 100 108 (letter _ _ a.0) (letter _ _ b.0) (λ e. omega (arith, e)))
one_named name m (ByResponse t) (ByDeadline u) a b = absurd (apart name 114 100 (letter _ _ a.0) (letter _ _ b.0) (λ e. omega (arith, e)))
one_named name m (ByResponse t) (ByResponse u) a b = ap rta_on (same_processors t.processors u.processors (a.1 ∙ sym b.1))
one_named name m (ByResponse t) (ByLimited u) a b = absurd (apart name 114 108 (letter _ _ a.0) (letter _ _ b.0) (λ e. omega (arith, e)))
one_named name m (ByLimited t) (ByDeadline u) a b = absurd (apart name 108 100 (letter _ _ a.0) (letter _ _ b.0) (λ e. omega (arith, e)))
one_named name m (ByLimited t) (ByResponse u) a b = absurd (apart name 108 114 (letter _ _ a.0) (letter _ _ b.0) (λ e. omega (arith, e)))
one_named name m (ByLimited t) (ByLimited u) a b = ap lc_on (same_processors t.processors u.processors (a.1 ∙ sym b.1))

few_proof : (added : ℕ) → IsProp (added ≤ 1000000)
few_proof added = Prim.hlevel props

overhead : (added : ℕ) → NamedTest → added ≤ 1000000 → Overhead NamedTest
overhead added below ok = record { added = added; below = below; ok = ok }

same_overhead : (t u : Overhead NamedTest) → t.added ≡ u.added → t.below ≡ u.below → t ≡ u
unfolding overhead
same_overhead t u added below =
    subst (λ a. (ok : a ≤ 1000000) → t ≡ overhead a u.below ok) added
    (subst (λ b. (ok : t.added ≤ 1000000) → t ≡ overhead t.added b ok) below (λ ok. ap (overhead t.added t.below) (few_proof t.added t.ok ok))) u.ok

pub one_test : (s u : Sheet) → Alike s u → (t o : Overhead NamedTest) → IsTest s t → IsTest u o → t ≡ o
one_test s u same t o a b =
    same_overhead t o (a.0 ∙ number s u same 1 V ∙ sym b.0)
    (one_named (field_of u 1 Test) (number_under u 1 M) t.below o.below
    (subst (λ m. IsNamed (field_of u 1 Test) m t.below) (number s u same 1 M) (subst (λ name. IsNamed name (number_under s 1 M) t.below) (field s u same 1 Test) a.1))
    b.1)

pub one_rows : (s u : Sheet) → Alike s u → (rows others : List Row) → RowsOf s (count_of s) rows → RowsOf u (count_of u) others → rows ≡ others
one_rows s u same rows others a b =
    ext_get_or filler rows others (a.size ∙ count s u same ∙ sym b.size)
    (λ j inside.
    let of = a.each (j + 1) (omega arith) (omega (arith, a.size)) in
    let of' = b.each (j + 1) (omega arith) (omega (arith, a.size, count s u same)) in
    sym (nth_next rows j filler)
    ∙ same_row (row rows (j + 1)) (row others (j + 1))
    (λ i. record {
      wcet = (of.0 ∙ number s u same (j + 1) Wcet ∙ sym of'.0) i;
      period = (of.1 ∙ number s u same (j + 1) Period ∙ sym of'.1) i;
      deadline = (of.2 ∙ number s u same (j + 1) Deadline ∙ sym of'.2) i;
    })
    ∙ nth_next others j filler)
