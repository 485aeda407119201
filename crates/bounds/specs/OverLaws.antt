-- An overhead keeps the laws, from the laws below.
use Rattle.std.specs.Prelude.{◌≡◌, ℕ, ◌+◌, ◌≤◌, Some, None, Option, refl}
use Rattle.std.proofs.Common.{ap, arith}
use Rattle.std.proofs.lemmas.Option.{none-some}
use Rattle.table.specs.declared.row.Row.{Row}
use Rattle.bounds.specs.declared.overhead.Overhead.{Overhead}
use Rattle.bounds.specs.Questions.{Meaning, own, NoMore, Laws, timely}
use Rattle.bounds.specs.Overheads.{over, over_answer}
use Rattle.bounds.specs.Compared.{no_more_late, timely_mono, timely_some}

over_mono : (x : ℕ) (r : Row) (a b : Option ℕ) → NoMore a b → NoMore (over x r a) (over x r b)
over_mono x r None None h = tt
over_mono x r None (Some b) h = absurd h
over_mono x r (Some a) None h = no_more_late (timely r.deadline (a + x))
over_mono x r (Some a) (Some b) h = timely_mono r.deadline (a + x) (b + x) (omega arith)

over_some : (x : ℕ) (r : Row) (a : Option ℕ) (b : ℕ) → over x r a ≡ Some b → (d : ℕ) × (a ≡ Some d) × (d + x ≡ b) × (b ≤ r.deadline)
over_some x r None b is = absurd (none-some b is)
over_some x r (Some d) b is = let both = timely_some r.deadline (d + x) b is in (d, refl, both.0, both.1)

pub over_laws : {T : Type 0} {answer : T → Meaning} → ((t : T) → Laws (answer t)) → (o : Overhead T) → Laws (over_answer answer o)
over_laws {T} {answer} below o =
    let meaning = answer o.below in
    let laws = below o.below in
    let x = o.added in
    record {
      bound = λ q b is.
          let got = over_some x (own q) (meaning q) b is in
          let low = laws.bound q got.0 got.1 in
          (low.0, (omega (arith, low.1.0, got.2), got.3));
      reads = λ q f h k same. ap (over x (own q)) (laws.reads q f h k same);
      more = λ q u h k sub. over_mono x (own q) _ _ (laws.more q u h k sub);
      greater = λ q f h k le. over_mono x (own q) _ _ (laws.greater q f h k le);
    }
