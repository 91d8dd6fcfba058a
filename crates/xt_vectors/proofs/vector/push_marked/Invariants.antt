use Rattle.std.proofs.Common.{◌≡◌, ◌≤◌, ◌*◌, length, filter}
use Rattle.std.specs.Prelude.{◌==◌, flat_map, vec_capacity}
use Rattle.std.specs.Int.{bit_at}
use Rattle.xt_base.specs.Chunks.{below}
use Rattle.xt_base.specs.Text.{chunk}
use Rattle.xt_vectors.proofs.vector.push_marked.Given as goal

abbrev pub invariant-loop-k : goal.invariant-loop-k
invariant-loop-k l = record {
  bytes : l.out.items ≡ flat_map (chunk l.content) (filter (λ k. bit_at l.word k == 1) (below l.k));
  form : length l.out.items ≡ 128 * length (filter (λ k. bit_at l.word k == 1) (below l.k));
  within : length l.out.items ≤ 128 * l.k;
  room : 4096 ≤ vec_capacity l.out;
}
