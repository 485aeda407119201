use Rattle.std.proofs.Common.{refl, sym, ◌∙◌}
use Rattle.explain.proofs.Ending.{some_byte, last_at, no_cause, unended}
use Rattle.explain.proofs.cause.cause_in.Goals as goal

pub returns-in-Some-eq10-clause-cause : goal.returns-in-Some-eq10-clause-cause
returns-in-Some-eq10-clause-cause c = no_cause c.args.text.now c.in-Some.field-0.now c.in-Some.ensures.value c.if-text-gt-LONGEST.false c.in-Some-eq10.field-0-test

pub returns-in-Some-eq10-clause-sized : goal.returns-in-Some-eq10-clause-sized
returns-in-Some-eq10-clause-sized c = (
  λ _. (some_byte c.args.text.now _ c.in-Some.ensures.value, c.if-text-gt-LONGEST.false, last_at c.args.text.now _ c.in-Some.ensures.value ∙ c.in-Some-eq10.field-0-test),
  λ _. refl,
)

pub returns-in-Some-2-clause-cause : goal.returns-in-Some-2-clause-cause
returns-in-Some-2-clause-cause c = unended c.args.text.now c.in-Some.field-0.now c.in-Some.ensures.value c.if-text-gt-LONGEST.false c.in-Some-2.field-0-test.1

pub returns-in-Some-2-clause-sized : goal.returns-in-Some-2-clause-sized
returns-in-Some-2-clause-sized c = (
  λ no. absurd (cc),
  λ sized. absurd (c.in-Some-2.field-0-test.1 (sym (last_at c.args.text.now _ c.in-Some.ensures.value) ∙ sized.2)),
)
