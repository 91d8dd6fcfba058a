use Rattle.xt_frames.proofs.IdleLemmas.{fewer_first, none_first}
use Rattle.xt_frames.proofs.idle.IdleList.clear.Goals as goal

pub loop-block-smaller-in-Some : goal.loop-block-smaller-in-Some
loop-block-smaller-in-Some c = fewer_first c.loop-block.self c.take-content.new.self c.in-Some.block c.in-Some.ensures c.take-content.ensures.rest

pub loop-block-smaller : goal.loop-block-smaller
loop-block-smaller c = fewer_first c.loop-block.self c.take-content.new.self c.in-Some.block c.in-Some.ensures c.take-content.ensures.rest

pub returns : goal.returns
returns c = none_first c.loop-block.self c.in_default.ensures
