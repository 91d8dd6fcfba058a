use Rattle.xt_text.proofs.RunLemmas.{block_front}
use Rattle.xt_text.proofs.data_text.after_block.Goals as goal

-- src/data_text.rt:204:1
pub returns-in-Some : goal.returns-in-Some
returns-in-Some c = block_front c.args.block.now c.args.bytes.now c.in-Some.after.now c.in-Some.ensures.cases.0 c.in-Some.ensures.cases.1
