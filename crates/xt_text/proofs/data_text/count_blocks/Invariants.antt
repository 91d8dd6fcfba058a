use Rattle.std.proofs.Common.{◌≡◌, ◌+◌, length}
use Rattle.std.specs.Prelude.{◌==◌}
use Rattle.std.specs.List.{prefix_len}
use Rattle.xt_text.proofs.data_text.count_blocks.Given as goal

abbrev pub invariant-loop-after : goal.invariant-loop-after
invariant-loop-after l = (prefix_len (λ x. x == l.fn.byte) l.fn.bytes ≡ l.count + prefix_len (λ x. x == l.fn.byte) l.rest) × (l.count + length l.rest ≡ length l.fn.bytes)

abbrev pub decreases-loop-after : goal.decreases-loop-after
decreases-loop-after l = length l.rest
