use Rattle.std.proofs.Common.{length, replicate, ◌+◌, ◌++◌, ◌≡◌}
use Rattle.xt_base.proofs.content.count_blocks.Given as goal

abbrev pub invariant-loop-after : goal.invariant-loop-after
invariant-loop-after l = (l.fn.bytes ≡ replicate l.count l.fn.byte ++ l.rest) × (l.count + length l.rest ≡ length l.fn.bytes)

abbrev pub decreases-loop-after : goal.decreases-loop-after
decreases-loop-after l = length l.rest
