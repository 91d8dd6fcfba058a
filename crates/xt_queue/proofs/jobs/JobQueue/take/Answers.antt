use Rattle.std.proofs.Common.{ap, arith}
use Rattle.xt_queue.proofs.RuleLemmas.{learns, pops}
use Rattle.xt_queue.specs.Passes.{WorkView}
use Rattle.xt_queue.proofs.jobs.JobQueue.take.Goals as goal

pub pop_as-requires-clause-rule : goal.pop_as-requires-clause-rule
pop_as-requires-clause-rule g c =
    let worker = ap (λ (p : WorkView). p.worker) c.pass.view_is in
    (pops _ c.args.pass.now.worker _ (omega arith), learns _ _)
