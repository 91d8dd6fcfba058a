use Rattle.std.proofs.Common.{◌≡◌, ◌++◌, drop}
use Rattle.xt_frames.specs.Fresh.{fresh_of}
use Rattle.xt_frames.proofs.fresh.fresh_blocks.Given as goal

abbrev pub invariant-loop-e : goal.invariant-loop-e
invariant-loop-e l = l.blocks.items ++ fresh_of (drop l.e-index l.marks) ≡ fresh_of l.marks
