use Rattle.std.proofs.Common.{ap, ◌∙◌}
use Rattle.xt_queue.specs.Seats.{SeatView}
use Rattle.xt_service.proofs.SeatLemmas.{used_both, used_none, used_still}
use Rattle.xt_service.proofs.UnmountLemmas.{unmounts_more}
use Rattle.xt_service.proofs.service.unmount_each.Goals as goal
use Rattle.xt_service.specs.Seats.{Unmounts.none}

-- no mount was asked for yet
pub loop-at-init : goal.loop-at-init
loop-at-init g c = record { board = c.requires.board; unmounts = none; used = used_none c.args.seat.now }

-- one more was
pub loop-at-preserved : goal.loop-at-preserved
loop-at-preserved g c =
    let held = c.loop-at.invariant in
    let told = c.unmount.ensures.told in
    record {
      board = ap (λ (b : SeatView). b.board) c.unmount.ensures.board ∙ held.board;
      unmounts = unmounts_more _ _ _ _ _ _ _ _ _ c.loop-at-test.true c.at-item.is c.index.ensures.value held.unmounts told;
      used = used_both _ _ _ held.used (used_still _ _ _ _ _ told c.unmount.ensures.board);
    }
