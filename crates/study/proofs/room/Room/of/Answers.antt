use Rattle.std.proofs.Common.{IfNone, sym, subst}
use Rattle.study.specs.declared.room.Room.{Room}
use Rattle.study.specs.Slots.{HasSlots}
use Rattle.study.proofs.room.Room.of.Goals as goal

pub returns-in_err-slots_in-clause-none : goal.returns-in_err-slots_in-clause-none
returns-in_err-slots_in-clause-none c =
    subst (λ r. IfNone r ((room : Room) → HasSlots c.args.ledger.now room.ledger → HasSlots c.args.pending.now room.pending → ⊥)) (sym c.from_residual.ensures)
    (λ room a b. c.in_err-slots_in.ensures.none room.ledger a)

pub returns-in_err-slots_in-2-clause-none : goal.returns-in_err-slots_in-2-clause-none
returns-in_err-slots_in-2-clause-none c =
    subst (λ r. IfNone r ((room : Room) → HasSlots c.args.ledger.now room.ledger → HasSlots c.args.pending.now room.pending → ⊥)) (sym c.from_residual-in_err-slots_in-2.ensures)
    (λ room a b. c.in_err-slots_in-2.ensures.none room.pending b)
