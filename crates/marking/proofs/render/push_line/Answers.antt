use Rattle.std.proofs.Common.{[], ◌∷◌, ◌++◌, ap, sym, ◌∙◌, append-nil}
use Rattle.marking.proofs.Written.{line-empty, line-written, spaced-more}
use Rattle.marking.proofs.render.push_line.Goals.{in_default, in-len1-up+in_ok-extend_from_slice+else-loop-field-test}
use Rattle.marking.proofs.render.push_line.Goals as goal

pub loop-field-init : goal.loop-field-init
loop-field-init c = sym (append-nil _)

pub loop-field-preserved : goal.loop-field-preserved
loop-field-preserved c = c.in_ok-extend_from_slice-2.ensures.items ∙ spaced-more _ _ _ _ c.loop-field.field-index _ c.loop-field-test.true c.loop-field.invariant c.in_ok-push.ensures.items

pub returns : goal.returns
returns c =
    c.in_ok-push-2.ensures.items
    ∙ ap (λ l. l ++ 10 ∷ [])
    (elim c.if-fields-lt1.branch [
      | in_default w ↦ ap (λ v. v.items) w.out-is ∙ sym (append-nil _) ∙ ap (λ l. c.args.out.now.items ++ l) (sym (line-empty c.args.fields.now w.in_default.len_below))
      | in-len1-up+in_ok-extend_from_slice+else-loop-field-test w ↦ ap (λ v. v.items) w.out-is ∙ line-written c.args.out.now.items _ _ c.args.fields.now w.loop-field.field-index _ w.in-len1-up.len_at_least w.loop-field-test.false w.in_ok-extend_from_slice.ensures.items w.loop-field.invariant
    ])
