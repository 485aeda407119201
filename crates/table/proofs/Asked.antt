-- A question that a call asks holds, and what a call says is said in other words.
use Rattle.std.proofs.Common.{Ok, Err, ◌≡◌, ap}
use Rattle.std.proofs.lemmas.Bool.{true≢false}
use Rattle.std.specs.Result.{is_ok}
use Rattle.table.specs.Asking.{Asks}

pub met : {question refused on : Type 0} → question → on → Asks question refused on
met h x = ((λ bad. absurd (bad h)), (λ _. x))

-- what is said of either outcome may be said in other words
pub asks_map : {question refused on refused' on' : Type 0} → (refused → refused') → (on → on') → Asks question refused on → Asks question refused' on'
asks_map f g a = ((λ bad. f (a.0 bad)), (λ h. g (a.1 h)))

-- what is accepted is not refused
pub ok_err : {A E : Type 0} (x : A) (e : E) → Ok x ≡ Err e → ⊥
ok_err x e is = true≢false (ap is_ok is)
