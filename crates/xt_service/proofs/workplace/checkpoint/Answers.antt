use Rattle.std.proofs.Common.{rules, ◌≡◌}
use Rattle.xt_service.proofs.JobLemmas.{ended}
use Rattle.xt_service.proofs.workplace.checkpoint.Goals as goal

-- the checkpoint was begun, run and ended
pub returns-clause-worked : goal.returns-clause-worked
returns-clause-worked g c =
    let named : (c.in-Some-job.job.worker ≡ c.args.worker) × (c.in-Some-job.job.name ≡ c.args.name.now) = search rules in
    ended _ _ _ _ _ _ _ _ _ _ c.in-Some.ensures.refused c.in-Some.ensures.received c.run.ensures.worker named.0 c.run.ensures.name named.1 c.end_job.ensures.worked
