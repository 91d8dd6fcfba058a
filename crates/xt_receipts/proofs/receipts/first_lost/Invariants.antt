use Rattle.std.proofs.Common.{length}
use Rattle.xt_cell.specs.declared.records.Receipt.{Receipt}
use Rattle.xt_receipts.specs.Closing.{AreKept, IsFirstLost}
use Rattle.xt_receipts.proofs.receipts.first_lost.Given as goal

-- what holds of the seats that are left holds of all
abbrev pub invariant-loop-seat : goal.invariant-loop-seat
invariant-loop-seat g l = (AreKept l.books l.rest → AreKept l.books l.fn.seats) × ((x : Receipt) → IsFirstLost l.books l.rest x → IsFirstLost l.books l.fn.seats x)

abbrev pub decreases-loop-seat : goal.decreases-loop-seat
decreases-loop-seat g l = length l.rest
