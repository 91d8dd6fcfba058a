use Rattle.std.proofs.Common.{◌∙◌}
use Rattle.xt_host.proofs.WorkLemmas.{worked_ended}
use Rattle.xt_host.proofs.work.Host+H+Slots+H.work_on.Goals as goal

pub returns-in_ok-job-in-Ckpt-clause-worked : goal.returns-in_ok-job-in-Ckpt-clause-worked
returns-in_ok-job-in-Ckpt-clause-worked g c =
    let named = c.in_ok-job-in-Ckpt.ensures.named in
    worked_ended _ _ _ _ _ _ _ (c.run.ensures.worker ∙ named.0) (c.run.ensures.name ∙ named.1) c.begun.ensures.worked c.ended.ensures.worked
