use Rattle.std.proofs.Common.{◌≡◌, ◌≤◌}
use Rattle.std.specs.Prelude.{sum_by}
use Rattle.std.specs.VecDeque.{deque_len, deque_capacity}
use Rattle.xt_base.specs.Sound.{IsRising}
use Rattle.xt_resv.specs.Ledgers.{still_counted}
use Rattle.xt_resv.proofs.space.prune.Given as goal

abbrev pub invariant-loop-least : goal.invariant-loop-least
invariant-loop-least l = record {
  rising : IsRising l.landed.items;
  total : l.total ≡ sum_by (λ e. e.1) l.landed.items;
  left : still_counted l.least l.landed.items ≡ still_counted l.least l.fn.landed.items;
  less : l.total ≤ l.fn.total;
  count : deque_len l.landed ≤ deque_len l.fn.landed;
  room : deque_capacity l.landed ≡ deque_capacity l.fn.landed;
}

abbrev pub decreases-loop-least : goal.decreases-loop-least
decreases-loop-least l = deque_len l.landed
