use Rattle.sheets.specs.Pairs.{IsNewName, EachLine}
use Rattle.sheets.proofs.pairing.ask_names.Given as goal

abbrev pub invariant-loop-i : goal.invariant-loop-i
invariant-loop-i l = EachLine (IsNewName l.tasks) l.i
