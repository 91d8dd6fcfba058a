use Rattle.std.proofs.Common.{subst}
use Rattle.xt_mount.specs.Machines.{IsSameMount, state_of}
use Rattle.xt_mount.proofs.MountLemmas.{ended_same, ended_whole}
use Rattle.xt_mount.proofs.mount.Mount.end.Goals as goal

pub invariant_of-self : goal.invariant_of-self
invariant_of-self c = ended_whole c.end.result (state_of c.self.inside.machine) (state_of c.end.new.self) c.args.answers c.end.ensures c.self.invariant

pub returns-clause-same : goal.returns-clause-same
returns-clause-same c =
    subst (IsSameMount (state_of c.end.new.self)) c.self.view_is
    (ended_same c.end.result (state_of c.end.new.self) (state_of c.self.inside.machine) c.args.answers c.end.ensures)
