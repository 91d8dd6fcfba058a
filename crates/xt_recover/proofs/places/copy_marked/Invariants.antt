use Rattle.std.proofs.Common.{◌≡◌, filter}
use Rattle.std.specs.Int.{bit_at}
use Rattle.std.specs.Prelude.{◌==◌}
use Rattle.xt_base.specs.Chunks.{below}
use Rattle.xt_recover.specs.Chunks.{merged}
use Rattle.xt_recover.proofs.places.copy_marked.Given as goal

abbrev pub invariant-loop-k : goal.invariant-loop-k
invariant-loop-k l = l.block ≡ merged (filter (λ k. bit_at l.word k == 1) (below l.k)) l.content l.fn.block
