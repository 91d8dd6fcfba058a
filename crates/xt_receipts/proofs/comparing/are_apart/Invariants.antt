use Rattle.std.proofs.Common.{length}
use Rattle.xt_receipts.specs.Closing.{AreApart}
use Rattle.xt_receipts.proofs.comparing.are_apart.Given as goal

-- what holds of the seats that are left holds of all, and the other way round
abbrev pub invariant-loop-seat : goal.invariant-loop-seat
invariant-loop-seat g l = (AreApart l.rest → AreApart l.fn.seats) × (AreApart l.fn.seats → AreApart l.rest)

abbrev pub decreases-loop-seat : goal.decreases-loop-seat
decreases-loop-seat g l = length l.rest
