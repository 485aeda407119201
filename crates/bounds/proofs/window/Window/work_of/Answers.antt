use Rattle.std.proofs.Common.{sym, ◌∙◌, rules}
use Rattle.bounds.specs.Posing.{question_of}
use Rattle.bounds.proofs.UncappedLoads.{above_row, estimate_read, work_carried, work_plain, work_not_above}
use Rattle.bounds.proofs.window.Window.work_of.Goals as goal

pub returns-then-not-q-place : goal.returns-then-not-q-place
returns-then-not-q-place c = sym (work_not_above (question_of c.args.self.now.posed) c.args.self.now.posed.sound c.args.self.now.length c.args.carries c.args.place (search rules))

pub bounds-q-place-2 : goal.bounds-q-place-2
bounds-q-place-2 c = above_row (question_of c.args.self.now.posed) c.args.self.now.posed.sound c.args.place c.requires.place (search rules)

pub work_with-requires : goal.work_with-requires
work_with-requires c = estimate_read (question_of c.args.self.now.posed) c.args.self.now.posed.sound c.args.place c.requires.place (search rules) _

pub returns-then-carries : goal.returns-then-carries
returns-then-carries c = c.work_with.ensures ∙ work_carried (question_of c.args.self.now.posed) c.args.self.now.posed.sound c.args.place c.requires.place (search rules) _ c.args.self.now.length c.args.carries c.if-carries.true

pub returns-else-carries : goal.returns-else-carries
returns-else-carries c = c.work_in.ensures ∙ work_plain (question_of c.args.self.now.posed) c.args.self.now.posed.sound c.args.place c.requires.place (search rules) _ c.args.self.now.length c.args.carries c.if-carries.false
