use Rattle.std.proofs.Common.{length, ℕ, ◌+◌, ◌≤◌}
use Rattle.xt_receipts.specs.Closing.{AreEven, IsFirstUneven}
use Rattle.xt_receipts.proofs.counting.first_uneven.Given as goal

-- what holds of the books that are left holds of all
abbrev pub invariant-loop-book : goal.invariant-loop-book
invariant-loop-book g l =
    (l.index + length l.rest ≤ 16) × (AreEven l.index l.rest l.seats → AreEven 0 l.fn.books l.seats)
    × ((x : ℕ) → IsFirstUneven l.index l.rest l.seats x → IsFirstUneven 0 l.fn.books l.seats x)

abbrev pub decreases-loop-book : goal.decreases-loop-book
decreases-loop-book g l = length l.rest
