use Rattle.std.proofs.Common.{◌∙◌, ap, sym}
use Rattle.std.specs.Prelude.{◌==◌}
use Rattle.xt_core.proofs.StruckLemmas.{strike_less, strike_more}
use Rattle.xt_core.proofs.run.copies.Goals as goal
use Rattle.xt_core.proofs.run.copies.Goals.{then-eq+in_ok-copy+in_ok-push, else-eq}

pub loop-step-preserved : goal.loop-step-preserved
loop-step-preserved c =
    elim c.if-eq.branch [
      | then-eq+in_ok-copy+in_ok-push w ↦
          let more = strike_more c.args.steps.now c.loop-step.step-index c.step-item.result c.args.slot c.loop-step-test.true c.step-item.is (sym (ap (λ k. k == c.args.slot) c.slot.ensures) ∙ sym c.eq.ensures ∙ w.if-eq.true) in
          let is = w.struck-is in
          let pushed = w.in_ok-push.ensures.items in
          let copied = w.in_ok-copy.ensures in
          let kept = c.loop-step.invariant in
          cc
      | else-eq w ↦
          let less = strike_less c.args.steps.now c.loop-step.step-index c.step-item.result c.args.slot c.loop-step-test.true c.step-item.is (sym (ap (λ k. k == c.args.slot) c.slot.ensures) ∙ sym c.eq.ensures ∙ w.if-eq.false) in
          let is = w.struck-is in
          let kept = c.loop-step.invariant in
          cc
    ]
