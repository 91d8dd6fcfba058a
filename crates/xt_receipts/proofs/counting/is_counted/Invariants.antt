use Rattle.std.proofs.Common.{length, ◌+◌, ◌≡◌}
use Rattle.xt_receipts.specs.Closing.{counted_by}
use Rattle.xt_receipts.proofs.counting.is_counted.Given as goal

-- what is left to count is as far from what is left as all is from the whole
abbrev pub invariant-loop-seat : goal.invariant-loop-seat
invariant-loop-seat g l = l.count + counted_by l.slot l.rest ≡ l.left + counted_by l.slot l.fn.seats

abbrev pub decreases-loop-seat : goal.decreases-loop-seat
decreases-loop-seat g l = length l.rest
