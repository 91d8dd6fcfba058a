use Rattle.std.proofs.Common.{refl, subst}
use Rattle.xt_base.specs.declared.steps.Answer.TheVariants as Answered
use Rattle.xt_base.specs.declared.steps.Request.TheVariants.{Commit}
use Rattle.xt_mount.specs.Machines.{IsSameMount, state_of}
use Rattle.xt_mount.proofs.MountLemmas.{served_same, served_whole}
use Rattle.xt_mount.proofs.mount.Mount.commit.Goals as goal

pub invariant_of-self : goal.invariant_of-self
invariant_of-self c =
    served_whole (state_of c.self.inside.machine) (state_of c.commit.new.self) (Commit c.args.trans) Answered.None c.commit.result
    refl c.self.invariant c.commit.ensures.ok c.commit.ensures.err

pub returns-clause-same : goal.returns-clause-same
returns-clause-same c =
    subst (IsSameMount (state_of c.commit.new.self)) c.self.view_is
    (served_same (state_of c.commit.new.self) (state_of c.self.inside.machine) (Commit c.args.trans) Answered.None c.commit.result c.commit.ensures.ok c.commit.ensures.err)
