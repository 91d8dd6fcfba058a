use Rattle.std.proofs.Common.{length, replicate, ◌≡◌}
use Rattle.xt_cell.specs.declared.records.Receipt.{Receipt}
use Rattle.xt_receipts.specs.Closing.{IsFirstStray, MayAllStand}
use Rattle.xt_receipts.proofs.receipts.first_stray.Given as goal

-- what holds of the receipts that are left holds of all
abbrev pub invariant-loop-receipt : goal.invariant-loop-receipt
invariant-loop-receipt l =
    (length l.next ≡ 16) × (MayAllStand l.books l.caller l.next l.rest → MayAllStand l.books l.caller (replicate 16 0) l.fn.receipts)
    × ((x : Receipt) → IsFirstStray l.books l.caller l.next l.rest x → IsFirstStray l.books l.caller (replicate 16 0) l.fn.receipts x)

abbrev pub decreases-loop-receipt : goal.decreases-loop-receipt
decreases-loop-receipt l = length l.rest
