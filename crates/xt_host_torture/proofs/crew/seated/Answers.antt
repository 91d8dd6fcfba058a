use Rattle.std.proofs.Common.{◌≡◌}
use Rattle.std.proofs.lemmas.List.Elements.{All-pop}
use Rattle.std.specs.Arc.{arc_value}
use Rattle.xt_host_torture.proofs.crew.seated.Goals as goal

-- what is left is of the host's queue as all was
pub returns-clause-queues : goal.returns-clause-queues
returns-clause-queues g c = (All-pop (λ pass. pass.queue ≡ arc_value c.args.host.now.queue) _ _ _ c.pop.ensures.items c.requires.queues).0
