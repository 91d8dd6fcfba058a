use Rattle.std.proofs.Common.{◌≡◌, ◌≤◌, ◌+◌, length, vec_capacity, vec_len}
use Rattle.xt_service.specs.Names.{with_blocks}
use Rattle.xt_service.proofs.names.insert_blocks.Given as goal

abbrev pub invariant-loop-block : goal.invariant-loop-block
invariant-loop-block l = (with_blocks l.at l.rest l.names.items ≡ with_blocks l.at l.blocks l.fn.names.items) × (vec_len l.names + length l.rest ≤ vec_capacity l.names)

abbrev pub decreases-loop-block : goal.decreases-loop-block
decreases-loop-block l = length l.rest
