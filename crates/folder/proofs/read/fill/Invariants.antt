use Rattle.std.proofs.Common.{length, take, ◌-◌, ◌≤◌}
use Rattle.std.specs.Io.KnownBytes.{Consumes}
use Rattle.std.specs.declared.io.Error.{Error}
use Rattle.folder.proofs.read.fill.Given as goal

-- the front of the room that is filled has what was read
abbrev pub invariant-loop-filled : goal.invariant-loop-filled
invariant-loop-filled g l = record {
  within : l.filled ≤ length l.room;
  read : Consumes (g.S.Stream.remaining l.initial.stream) (g.S.Stream.remaining l.stream) (take l.filled l.room);
  later : (error : Error) → g.S.Stream.fails l.stream error → g.S.Stream.fails l.initial.stream error;
}

abbrev pub decreases-loop-filled : goal.decreases-loop-filled
decreases-loop-filled g l = length l.initial.room - l.filled
