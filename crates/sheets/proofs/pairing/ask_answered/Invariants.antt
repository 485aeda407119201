use Rattle.sheets.specs.Pairs.{IsAnswered, EachLine}
use Rattle.sheets.proofs.pairing.ask_answered.Given as goal

abbrev pub invariant-loop-i : goal.invariant-loop-i
invariant-loop-i l = EachLine (IsAnswered l.tasks l.answer) l.i
