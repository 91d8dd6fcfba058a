use Rattle.std.proofs.Common.{refl, replicate, ◌+◌, ◌++◌, ◌≡◌}
use Rattle.xt_base.proofs.PartLemmas.{block_more, counted}
use Rattle.xt_base.proofs.content.count_blocks.Goals as goal

-- src/content.rt:305:5
pub loop-after-preserved : goal.loop-after-preserved
loop-after-preserved c =
    let more : c.args.bytes.now ≡ replicate (c.loop-after.count + 128) c.args.byte ++ c.in-Some.after.now = block_more c.args.byte c.loop-after.count c.args.bytes.now c.loop-after.rest.now (replicate 128 c.args.byte) c.in-Some.after.now c.loop-after.invariant.0 c.in-Some.ensures refl
    in (more, counted c.args.byte (c.loop-after.count + 128) c.args.bytes.now c.in-Some.after.now more)
