use Rattle.std.proofs.Common.{◌≡◌, ◌++◌, drop}
use Rattle.xt_trans.specs.LegItems.{leg_of}
use Rattle.xt_trans.proofs.entries.held_blocks.Given as goal

abbrev pub invariant-loop-e : goal.invariant-loop-e
invariant-loop-e l = l.blocks.items ++ (leg_of (drop l.e-index l.items)).holds ≡ (leg_of l.items).holds
