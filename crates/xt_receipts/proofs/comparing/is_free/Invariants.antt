use Rattle.std.proofs.Common.{length}
use Rattle.xt_receipts.specs.Closing.{IsFree}
use Rattle.xt_receipts.proofs.comparing.is_free.Given as goal

-- what holds of the seats that are left holds of all, and the other way round
abbrev pub invariant-loop-seat : goal.invariant-loop-seat
invariant-loop-seat g l = (IsFree l.caller l.rest → IsFree l.caller l.fn.seats) × (IsFree l.caller l.fn.seats → IsFree l.caller l.rest)

abbrev pub decreases-loop-seat : goal.decreases-loop-seat
decreases-loop-seat g l = length l.rest
