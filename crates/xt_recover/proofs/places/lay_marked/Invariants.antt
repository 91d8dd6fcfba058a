use Rattle.std.proofs.Common.{◌≡◌, ◌*◌, filter, length}
use Rattle.std.specs.Int.{bit_at}
use Rattle.std.specs.Prelude.{◌==◌}
use Rattle.xt_base.specs.Chunks.{below}
use Rattle.xt_recover.specs.Chunks.{with_chunks}
use Rattle.xt_recover.proofs.places.lay_marked.Given as goal

abbrev pub invariant-loop-k : goal.invariant-loop-k
invariant-loop-k l = record {
  content : l.content ≡ with_chunks (filter (λ k. bit_at l.word k == 1) (below l.k)) l.bytes l.fn.content;
  len : length l.content ≡ length l.fn.content;
  place : l.place ≡ 128 * length (filter (λ k. bit_at l.word k == 1) (below l.k));
}
