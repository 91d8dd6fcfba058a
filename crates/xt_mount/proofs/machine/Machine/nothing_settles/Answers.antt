use Rattle.xt_mount.proofs.SettleLemmas.{settled_same}
use Rattle.xt_mount.proofs.machine.Machine.nothing_settles.Goals as goal
use Rattle.xt_mount.specs.Machines.{state_of}

pub returns : goal.returns
returns c = settled_same (state_of c.args.self.now) c.requires c.idle_is_short.ensures
