use Rattle.std.proofs.Common.{◌≡◌, subst, sym}
use Rattle.std.specs.Arc.{arc_value}
use Rattle.std.specs.List.{All}
use Rattle.xt_host_speed.proofs.WorkerLemmas.{some_works}
use Rattle.xt_host_speed.proofs.rig.run.Goals as goal
use Rattle.xt_queue.specs.Passes.{WorkView, fresh_work}

-- the passes are of the host's queue
pub time_plan-requires-clause-queues : goal.time_plan-requires-clause-queues
time_plan-requires-clause-queues g c κs within =
    subst (λ passes. All (λ (work : WorkView). work.queue ≡ arc_value c.in-Ok.made.0.queue) passes) (sym c.in-Ok.ensures.passes) (some_works (fresh_work (arc_value c.in-Ok.made.0.queue) 0) 8 c.workers.result)
