use Rattle.std.proofs.Common.{◌+◌, arith}
use Rattle.bounds.specs.Posing.{question_of}
use Rattle.bounds.proofs.UncappedLoads.{work_past}
use Rattle.bounds.proofs.Writes.{written_none, written_more, written_all}
use Rattle.bounds.proofs.window.Window.works.Goals as goal

pub loop-place-init : goal.loop-place-init
loop-place-init c = written_none _

pub loop-place-preserved : goal.loop-place-preserved
loop-place-preserved c = written_more _ c.loop-place.works c.loop-place.place c.loop-place.invariant (omega (arith, c.args.self.now.posed.sound.few)) c.work_of.result c.work_of.ensures

pub returns : goal.returns
returns c =
    let posed = c.args.self.now.posed in
    written_all _ c.loop-place.works c.loop-place.place _ c.loop-place.invariant (omega arith) (work_past (question_of posed) posed.sound c.args.self.now.length c.args.carries)
