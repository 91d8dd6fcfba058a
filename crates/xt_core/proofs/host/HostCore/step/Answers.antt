use Rattle.std.proofs.Common.{◌∙◌, sym}
use Rattle.xt_base.specs.Isolation.{is_no_memory}
use Rattle.xt_core.proofs.CellLemmas.{by_false}
use Rattle.xt_core.proofs.HostLemmas.{may_come_is, reply_is}
use Rattle.xt_core.proofs.host.HostCore.step.Goals as goal
use Rattle.xt_core.specs.Host.{IsAfter, IsKept, IsTaken}

pub returns-then-not-can_take-clause-order : goal.returns-then-not-can_take-clause-order
returns-then-not-can_take-clause-order c = λ h a n. sym c.if-not-can_take.true ∙ c.can_take.ensures ∙ may_come_is h c.args.self.now c.args.step a n

pub returns-clause-history : goal.returns-clause-history
returns-clause-history c = λ h a. IsAfter.more h c.args.step c.serve.result c.serve.new.self c.args.self.now a c.serve.ensures.range c.serve.ensures.stepped

pub returns-clause-order : goal.returns-clause-order
returns-clause-order c = λ h a n. sym c.if-not-can_take.false ∙ c.can_take.ensures ∙ may_come_is h c.args.self.now c.args.step a n

pub returns-clause-reply : goal.returns-clause-reply
returns-clause-reply c = λ h a n went.
    reply_is h c.args.self.now c.args.step a n c.serve.result c.serve.new.self
    (by_false (is_no_memory c.serve.result) (IsKept c.args.step c.serve.new.self c.args.self.now) (IsTaken c.args.step c.serve.result c.serve.new.self c.args.self.now) went c.serve.ensures.stepped.went)
