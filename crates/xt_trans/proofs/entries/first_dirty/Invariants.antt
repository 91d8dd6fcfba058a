use Rattle.std.proofs.Common.{◌≡◌, drop}
use Rattle.xt_trans.specs.LegItems.{leg_of}
use Rattle.xt_trans.proofs.entries.first_dirty.Given as goal

abbrev pub invariant-loop-e : goal.invariant-loop-e
invariant-loop-e l = (leg_of (drop l.e-index l.items)).changes ≡ (leg_of l.items).changes
