use Rattle.xt_queue.proofs.RuleLemmas.{forks}
use Rattle.xt_queue.proofs.jobs.JobQueue.next_post.Goals as goal

pub another-requires-clause-rule : goal.another-requires-clause-rule
another-requires-clause-rule c = forks _ _ _ c.maker.invariant.1
