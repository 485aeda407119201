-- The deadline analysis keeps the laws.
use Rattle.std.specs.Prelude.{◌≡◌, ℕ, ◌+◌, ◌/◌, None}
use Rattle.std.proofs.Common.{sym, ◌∙◌, arith}
use Rattle.std.proofs.lemmas.Bool.{cond-true}
use Rattle.bounds.specs.declared.processors.Processors.{Processors}
use Rattle.bounds.specs.Questions.{Asked, own, Sound, Laws, soundb}
use Rattle.bounds.specs.Loads.{da, deadline_answer, deadline_load}
use Rattle.bounds.specs.Compared.{given_when, no_more_same, timely_mono, timely_some}
use Rattle.bounds.specs.Sounds.{sound_from, sound_test}
use Rattle.bounds.specs.Works.{div_mono, deadline_load_mono}

-- the answer to a sound question
pub da_sound : (m : ℕ) (q : Asked) → Sound q → da m q ≡ deadline_answer m q
da_sound m q h = cond-true (soundb q) _ None (sound_test q h)

pub da_laws : (p : Processors) → Laws (da p.count)
da_laws p = record {
  bound = λ q b is.
      let given = given_when (soundb q) _ b is in
      let fact = timely_some (own q).deadline ((own q).wcet + deadline_load q / p.count) b given.1 in
      (sound_from q given.0, (omega (arith, fact), omega (arith, fact)));
  reads = λ q f h k same. da_sound p.count q h ∙ sym (da_sound p.count _ k);
  more = λ q u h k sub.
      rw (da_sound p.count q h, da_sound p.count _ k)
      (timely_mono (own q).deadline _ _ (omega (arith, div_mono _ _ p.count (omega (arith, p.ok)) (deadline_load_mono q u sub))));
  greater = λ q f h k le. no_more_same _ _ (da_sound p.count q h ∙ sym (da_sound p.count _ k));
}
