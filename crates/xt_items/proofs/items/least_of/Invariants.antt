use Rattle.std.proofs.Common.{◌≡◌, ◌≤◌, drop, length}
use Rattle.xt_base.specs.Space.{least_number}
use Rattle.xt_items.proofs.items.least_of.Given as goal

abbrev pub invariant-loop-index : goal.invariant-loop-index
invariant-loop-index l = (l.index ≤ length l.entries) × (l.least ≡ least_number (drop l.index l.entries))

abbrev pub decreases-loop-index : goal.decreases-loop-index
decreases-loop-index l = l.index
