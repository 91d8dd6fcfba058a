use Rattle.xt_base.proofs.PartLemmas.{block_front}
use Rattle.xt_base.proofs.content.after_block.Goals as goal

pub returns-in-Some : goal.returns-in-Some
returns-in-Some c = block_front c.args.block.now c.args.bytes.now c.in-Some.after.now c.in-Some.ensures.cases.0 c.in-Some.ensures.cases.1
