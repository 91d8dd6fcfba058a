use Rattle.std.proofs.Common.{subst}
use Rattle.xt_mount.proofs.MountLemmas.{tried_same, tried_whole}
use Rattle.xt_mount.proofs.mount.Mount.try_read.Goals as goal
use Rattle.xt_mount.specs.Machines.{IsSameMount, state_of}

pub invariant_of-self : goal.invariant_of-self
invariant_of-self c = tried_whole (state_of c.self.inside.machine) (state_of c.try_read.new.self) _ _ c.try_read.result c.self.invariant c.try_read.ensures.served c.try_read.ensures.kept

pub returns-clause-same : goal.returns-clause-same
returns-clause-same c =
    subst (IsSameMount (state_of c.try_read.new.self)) c.self.view_is
    (tried_same (state_of c.try_read.new.self) (state_of c.self.inside.machine) _ _ c.try_read.result c.try_read.ensures.served c.try_read.ensures.kept)
