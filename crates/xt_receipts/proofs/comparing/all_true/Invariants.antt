use Rattle.std.proofs.Common.{length}
use Rattle.xt_receipts.specs.Closing.{AreTrue}
use Rattle.xt_receipts.proofs.comparing.all_true.Given as goal

-- what is told of those that are left is told of all
abbrev pub invariant-loop-book : goal.invariant-loop-book
invariant-loop-book l = AreTrue l.rest → AreTrue l.fn.books

abbrev pub decreases-loop-book : goal.decreases-loop-book
decreases-loop-book l = length l.rest
