use Rattle.std.proofs.Common.{subst, sym, ◌≡◌}
use Rattle.std.specs.Arc.{arc_value}
use Rattle.std.specs.List.{All}
use Rattle.xt_queue.specs.Passes.{WorkView}
use Rattle.xt_cli.proofs.serve.running.serve_mounts.Goals as goal

-- the passes are of the host that is shared
pub start-requires-clause-queues : goal.start-requires-clause-queues
start-requires-clause-queues g c κs within =
    subst (λ host. All (λ (work : WorkView). work.queue ≡ arc_value host.queue) c.args.passes.items) (sym c.in_ok-host.ensures.ok) c.requires.queues
