use Rattle.std.specs.Io.KnownBytes.{Keeps}
use Rattle.std.specs.declared.io.Error.{Error}
use Rattle.folder.proofs.read.read_some.Given as goal

-- no read has given a byte yet
abbrev pub invariant-loop : goal.invariant-loop
invariant-loop g l =
    Keeps (g.S.Stream.remaining l.initial.stream) (g.S.Stream.remaining l.stream)
    × ((error : Error) → g.S.Stream.fails l.stream error → g.S.Stream.fails l.initial.stream error)
