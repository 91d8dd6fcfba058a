use Rattle.std.proofs.Common.{ap, arith, length, List, ℕ}
use Rattle.std.specs.Int.{bit_at}
use Rattle.std.specs.Prelude.{◌==◌}
use Rattle.xt_base.proofs.ChunkCounts.{length-union_newly}
use Rattle.xt_base.proofs.ChunkLemmas.{length-places_of}
use Rattle.xt_base.specs.Chunks.{union}
use Rattle.xt_base.proofs.chunks.Chunks.lacks.Goals as goal

pub overflow_sub-result : goal.overflow_sub-result
overflow_sub-result c =
    let other : List ℕ = c.args.other in
    let parts = length-union_newly (λ k. bit_at c.self.inside.bits k == 1) other in
    omega (arith, parts, length-places_of c.self.inside.bits c.self.invariant, c.count.ensures.value, ap length c.union.ensures, ap (λ (s : List ℕ). length (union s other)) c.self.view_is)

pub returns-clause-value : goal.returns-clause-value
returns-clause-value c =
    let other : List ℕ = c.args.other in
    let parts = length-union_newly (λ k. bit_at c.self.inside.bits k == 1) other in
    omega (arith, parts, length-places_of c.self.inside.bits c.self.invariant, c.count.ensures.value, ap length c.union.ensures, ap (λ (s : List ℕ). length (union s other)) c.self.view_is, ap length c.self.view_is)
