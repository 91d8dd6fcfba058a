use Rattle.std.proofs.Common.{◌≡◌, length}
use Rattle.xt_items.proofs.items.keep_rooms.Given as goal

abbrev pub invariant-loop-count : goal.invariant-loop-count
invariant-loop-count l = l.count ≡ length l.vectors

abbrev pub decreases-loop-count : goal.decreases-loop-count
decreases-loop-count l = l.count
