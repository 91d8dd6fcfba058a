use Rattle.std.proofs.Common.{◌∙◌, ◌==◌}
use Rattle.std.specs.Int.{bit_at}
use Rattle.xt_recover.proofs.PlaceLemmas.{merged_all, merged_next}
use Rattle.xt_recover.proofs.places.copy_marked.Goals as goal

pub loop-k-preserved : goal.loop-k-preserved
loop-k-preserved c = merged_next (λ k. bit_at c.args.word k == 1) c.loop-k.k c.args.content.now c.args.block.now c.loop-k.block _ c.loop-k.invariant c.copy_if_marked.ensures

pub returns : goal.returns
returns c = c.loop-k.invariant ∙ merged_all c.args.word c.loop-k.k c.args.content.now c.args.block.now c.loop-k-test.false c.loop-k.auto.k-end
