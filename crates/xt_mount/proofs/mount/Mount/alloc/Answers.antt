use Rattle.std.proofs.Common.{refl, subst}
use Rattle.xt_base.specs.declared.steps.Answer.TheVariants as Answered
use Rattle.xt_base.specs.declared.steps.Request.TheVariants.{Alloc}
use Rattle.xt_mount.specs.Machines.{IsSameMount, state_of}
use Rattle.xt_mount.proofs.MountLemmas.{served_same, served_whole}
use Rattle.xt_mount.proofs.mount.Mount.alloc.Goals as goal

pub invariant_of-self : goal.invariant_of-self
invariant_of-self c =
    served_whole (state_of c.self.inside.machine) (state_of c.alloc.new.self) (Alloc c.args.unit c.args.count c.args.perm) Answered.None c.alloc.result
    refl c.self.invariant c.alloc.ensures.ok c.alloc.ensures.err

pub returns-clause-same : goal.returns-clause-same
returns-clause-same c =
    subst (IsSameMount (state_of c.alloc.new.self)) c.self.view_is
    (served_same (state_of c.alloc.new.self) (state_of c.self.inside.machine) (Alloc c.args.unit c.args.count c.args.perm) Answered.None c.alloc.result c.alloc.ensures.ok c.alloc.ensures.err)
