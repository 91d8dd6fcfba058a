use Rattle.std.proofs.Common.{rules}
use Rattle.xt_host.proofs.WorkLemmas.{worked_flush, worked_same}
use Rattle.xt_host.proofs.work.Host+H+Slots+H.flushed.Goals as goal

pub returns-then-not-is_no_memory-clause-worked : goal.returns-then-not-is_no_memory-clause-worked
returns-then-not-is_no_memory-clause-worked g c = worked_flush _ _ _ _ _ _ c.loop.invariant c.in-Some-flush.ensures.refused c.in-Some-flush.ensures.received

pub returns-in_default-clause-worked : goal.returns-in_default-clause-worked
returns-in_default-clause-worked g c = worked_same _ _ _ _ _ c.loop.invariant (search rules)
