-- What the board is asked.
use Rattle.std.proofs.Common.{◌≡◌, ℕ, ◌≤◌, List, Result, Ok, Err, ap, sym, subst, ◌∙◌}
use Rattle.std.specs.Result.{MatchResult}
use Rattle.table.specs.declared.fault.Fault.{Fault}
use Rattle.bounds.specs.Made.{Allowed, MadeProcessors}
use Rattle.bounds.specs.declared.processors.Processors.{Processors as OneNumber}
use Rattle.bounds.specs.Named.{IsTestName, IsNamed, MadeNamed}
use Rattle.bounds.specs.declared.overhead.Overhead.{Overhead}
use Rattle.bounds.specs.declared.named.NamedTest.{NamedTest}
use Rattle.bounds.specs.Overheads.{MadeOverhead}
use Rattle.sheets.specs.declared.form.Column.{Column}
use Rattle.sheets.specs.declared.form.Column.TheVariants.{Processors, Overhead as V, Test, Task, Wcet, Period, Deadline, Estimate}
use Rattle.sheets.specs.declared.sheet.Sheet.{Sheet}
use Rattle.sheets.specs.Sheets.{field_of}
use Rattle.marking.specs.Questions.{number_under, Suits, HasTest, TestFails, IsTest}

-- only two columns are asked
pub all_suit : (b : Sheet) (P : Column → Type 0) → (P Processors → Suits b Processors) → (P Test → Suits b Test) → (d : Column) → P d → Suits b d
all_suit b P m t Processors h = m h
all_suit b P m t Test h = t h
all_suit b P m t V h = tt
all_suit b P m t Task h = tt
all_suit b P m t Wcet h = tt
all_suit b P m t Period h = tt
all_suit b P m t Deadline h = tt
all_suit b P m t Estimate h = tt

pub known_here : (b : Sheet) (name : List ℕ) → name ≡ field_of b 1 Test → HasTest b → IsTestName name
known_here b name n has = subst IsTestName (sym n) (has Test)

pub allowed_here : (b : Sheet) (m : ℕ) → m ≡ number_under b 1 Processors → HasTest b → Allowed m
allowed_here b m e has = subst Allowed (sym e) (has Processors)

-- processors that were made are so many
pub processors_made : (m : ℕ) (p : OneNumber) → MadeProcessors m (Ok p) → Allowed m → p.count ≡ m
processors_made m p made allowed = let is = made.1 allowed in let same : p ≡ is.0 = (let e = is.1 in cc) in ap (λ (x : OneNumber). x.count) same ∙ is.2

abbrev given : NamedTest → Result NamedTest Fault → NamedTest
given d (Ok t) = t
given d (Err fault) = d

pub named_made : (name : List ℕ) (p : OneNumber) (t : NamedTest) → MadeNamed name p (Ok t) → IsTestName name → IsNamed name p.count t
named_made name p t made known =
    let is = made.1 known in
    subst (IsNamed name p.count) (ap (given t) (sym is.1)) is.2

pub test_made : (b : Sheet) (name : List ℕ) (m v : ℕ) (t : NamedTest) (r : Result (Overhead NamedTest) Fault) → name ≡ field_of b 1 Test → m ≡ number_under b 1 Processors → v ≡ number_under b 1 V → v ≤ 1000000
    → HasTest b → IsNamed name m t → MadeOverhead v t r → MatchResult r (λ test. HasTest b × IsTest b test) (TestFails b)
test_made b name m v t r n e w small has named made =
    let o = made.1 small in
    let below : IsNamed name m o.0.below = subst (IsNamed name m) (sym o.3) named in
    subst (λ x. MatchResult x (λ test. HasTest b × IsTest b test) (TestFails b)) (sym o.1)
    (has, (o.2 ∙ w, subst (λ y. IsNamed y (number_under b 1 Processors) o.0.below) n (subst (λ y. IsNamed name y o.0.below) e below)))
