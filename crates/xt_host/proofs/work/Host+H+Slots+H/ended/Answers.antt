use Rattle.xt_host.proofs.WorkLemmas.{worked_same}
use Rattle.xt_host.proofs.work.Host+H+Slots+H.ended.Goals as goal

pub returns-in-Err-default-Stranger-clause-worked : goal.returns-in-Err-default-Stranger-clause-worked
returns-in-Err-default-Stranger-clause-worked g c = worked_same _ _ _ _ _ c.loop.invariant.0 c.in-Err-default-Stranger.ensures.back.1
