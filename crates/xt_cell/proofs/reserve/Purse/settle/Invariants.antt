use Rattle.std.proofs.Common.{length, sum, ◌+◌, ◌≡◌}
use Rattle.xt_cell.proofs.reserve.Purse.settle.Given as goal

-- no part and no amount is lost between the share and what is left to merge
abbrev pub invariant-loop-tally : goal.invariant-loop-tally
invariant-loop-tally g l = (l.share.parts + length l.rest.items ≡ l.fn.self + length l.fn.tallies.items) × (l.share.amount + sum l.rest.items ≡ sum l.fn.tallies.items)

abbrev pub decreases-loop-tally : goal.decreases-loop-tally
decreases-loop-tally g l = goal.left-loop-tally g l
