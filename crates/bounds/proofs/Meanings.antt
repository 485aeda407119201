-- What the answers of the tests to a sound question are.
use Rattle.std.proofs.Common.{ℕ, ◌-◌, length, sym, subst}
use Rattle.bounds.specs.Questions.{Asked, Sound, own}
use Rattle.bounds.specs.Loads.{DaMeaning}
use Rattle.bounds.specs.Responses.{answer_by, carried_loads, greatest, extra, limited_load, Least, RtaMeaning, LcMeaning}
use Rattle.bounds.specs.DaLaws.{da_sound}
use Rattle.bounds.specs.Sounds.{sound_test}
use Rattle.bounds.proofs.Firsts.{fit_least}
use Rattle.bounds.proofs.Greatests.{greatest_is}
use Rattle.std.proofs.lemmas.Bool.{cond-true}

pub da_means : DaMeaning
da_means = da_sound

-- the answer by a load to a sound question is the least window that fits it
least_by : (m : ℕ) (load : Asked → ℕ → ℕ) (q : Asked) → Sound q → Least m (own q) (load q) (answer_by m load q)
least_by m load q sound = subst (Least m (own q) (load q)) (sym (cond-true _ _ _ (sound_test q sound))) (fit_least m (own q) (load q))

pub rta_means : RtaMeaning
rta_means m q sound = least_by m carried_loads q sound

pub lc_means : LcMeaning
lc_means m q sound = (
  (λ l. greatest q.above (extra q l) (m - 1) (length q.rows)),
  (λ l. greatest_is q.above (extra q l) (m - 1) (length q.rows)),
  least_by m (limited_load (m - 1)) q sound,
)
