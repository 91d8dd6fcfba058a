use Rattle.std.proofs.Common.{◌≡◌, Some, subst, sym, true}
use Rattle.xt_base.specs.Order.{has_size}
use Rattle.xt_base.specs.State.{State}
use Rattle.xt_mount.specs.Machines.{IsSameMount, state_of}
use Rattle.xt_mount.proofs.MountLemmas.{served_same, served_whole}
use Rattle.xt_mount.proofs.mount.Mount.serve.Goals as goal

pub invariant_of-self : goal.invariant_of-self
invariant_of-self c =
    served_whole (state_of c.self.inside.machine) (state_of c.serve.new.self) c.args.request.now c.args.answer.now c.serve.result
    (subst (λ (s : State). has_size c.args.answer.now (Some s) ≡ true) (sym c.self.view_is) c.requires.size) c.self.invariant c.serve.ensures.ok c.serve.ensures.err

pub returns-clause-same : goal.returns-clause-same
returns-clause-same c =
    subst (IsSameMount (state_of c.serve.new.self)) c.self.view_is
    (served_same (state_of c.serve.new.self) (state_of c.self.inside.machine) c.args.request.now c.args.answer.now c.serve.result c.serve.ensures.ok c.serve.ensures.err)
