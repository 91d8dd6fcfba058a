use Rattle.std.proofs.Common.{◌≡◌, ◌+◌, drop}
use Rattle.xt_items.specs.Plans.{rank}
use Rattle.xt_items.proofs.plan.rank_of.Given as goal

abbrev pub invariant-loop-i : goal.invariant-loop-i
invariant-loop-i l = l.i + rank l.number (drop l.i l.entries) ≡ rank l.number l.entries
