use Rattle.std.proofs.Common.{drop, length, ◌*◌, ◌+◌, ◌≡◌, ◌≤◌, ◌∷◌}
use Rattle.std.specs.Fmt.{decimal}
use Rattle.std.specs.List.{flat_map}
use Rattle.xt_text.specs.Buffer.{put}
use Rattle.xt_text.specs.Replies.{held_text}
use Rattle.xt_text.proofs.print_reply.then_held.Given as goal

abbrev pub invariant-loop-block : goal.invariant-loop-block
invariant-loop-block l = record {
  text : put l.out (flat_map (λ b. 32 ∷ decimal b) (drop l.block-index l.block-items)) ≡ put l.fn.out (held_text l.held);
  short : length (held_text l.held) ≤ 5 + 21 * l.block-index + length (flat_map (λ b. 32 ∷ decimal b) (drop l.block-index l.block-items));
}
