use Rattle.std.proofs.Common.{ap, arith}
use Rattle.xt_queue.proofs.RuleLemmas.{learns, pushes}
use Rattle.xt_queue.specs.Passes.{PostView}
use Rattle.xt_queue.proofs.jobs.JobQueue.post.Goals as goal

pub push_as-posted-requires-clause-rule : goal.push_as-posted-requires-clause-rule
push_as-posted-requires-clause-rule g c =
    let slot = ap (λ (p : PostView). p.slot) c.pass.view_is in
    (pushes _ _ _ _ c.self.invariant (omega arith) (omega arith) (rw (← c.pass.view_is) at c.requires.next), learns _ _)
