use Rattle.std.proofs.Common.{length, ◌+◌, ◌≡◌, ◌≤◌}
use Rattle.xt_cell.specs.Books.{count_of}
use Rattle.xt_cell.proofs.book.count_events.Given as goal

-- what is counted and what is left make up all
abbrev pub invariant-loop-entry : goal.invariant-loop-entry
invariant-loop-entry l = (l.count + count_of l.rest ≡ count_of l.fn.entries) × (l.count + length l.rest ≤ length l.fn.entries)

abbrev pub decreases-loop-entry : goal.decreases-loop-entry
decreases-loop-entry l = length l.rest
