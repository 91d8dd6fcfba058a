use Rattle.xt_service.proofs.JobLemmas.{flushed}
use Rattle.xt_service.proofs.workplace.flush.Goals as goal

-- the flush was done, or refused memory
pub returns-in-Some-clause-worked : goal.returns-in-Some-clause-worked
returns-in-Some-clause-worked g c = flushed _ _ _ _ _ c.in-Some.ensures.refused c.in-Some.ensures.received
