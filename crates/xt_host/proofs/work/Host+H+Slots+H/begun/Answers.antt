use Rattle.std.proofs.Common.{rules}
use Rattle.xt_host.proofs.WorkLemmas.{worked_begin, worked_same}
use Rattle.xt_host.proofs.work.Host+H+Slots+H.begun.Goals as goal

pub returns-in_err-reply-clause-worked : goal.returns-in_err-reply-clause-worked
returns-in_err-reply-clause-worked g c = worked_same _ _ _ _ _ c.loop.invariant (search rules)

pub returns-in-Some-job-clause-worked : goal.returns-in-Some-job-clause-worked
returns-in-Some-job-clause-worked g c = worked_begin _ _ _ _ _ _ c.loop.invariant c.in_ok-reply.ensures.refused c.in_ok-reply.ensures.received

pub returns-then-not-is_no_memory-clause-worked : goal.returns-then-not-is_no_memory-clause-worked
returns-then-not-is_no_memory-clause-worked g c = worked_begin _ _ _ _ _ _ c.loop.invariant c.in_ok-reply.ensures.refused c.in_ok-reply.ensures.received
