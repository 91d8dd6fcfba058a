use Rattle.std.proofs.Common.{◌≡◌, ◌∙◌, ◌+◌, None, ap, arith, subst, sym}
use Rattle.std.specs.Prelude.{slice_set}
use Rattle.xt_core.proofs.PlaceLemmas.{unused_more}
use Rattle.xt_core.proofs.host.empty_cells.Goals as goal
use Rattle.xt_core.specs.InPlace.{AreUnused, unused}
use Rattle.xt_frames.proofs.TableLemmas.{there_after}

pub loop-number-preserved : goal.loop-number-preserved
loop-number-preserved c =
    let own : c.in-Some.share.slot ≡ c.loop-number.number = c.in-Some.ensures.own ∙ c.slot_at.ensures in
    record {
      cells = subst (AreUnused (c.loop-number.number + 1)) (sym c.in_ok-push.ensures.items)
          (unused_more c.loop-number.number c.loop-number.cells.items c.new-in-loop-number.result c.loop-number.invariant.cells (c.new-in-loop-number.ensures ∙ ap unused own));
      shares = there_after c.loop-number.table c.take_share.new.self c.loop-number.number 16 c.loop-number.invariant.shares
          (c.take_share.ensures.rest ∙ ap (λ n. slice_set c.loop-number.table n None) c.slot_at.ensures);
    }

pub returns : goal.returns
returns c =
    let all : c.loop-number.number ≡ 16 = omega (arith, c.loop-number-test.false, c.loop-number.auto.number-end) in
    subst (λ n. AreUnused n c.loop-number.cells.items) all c.loop-number.invariant.cells
