use Rattle.xt_mount.proofs.ChangedLemmas.{busy_released}
use Rattle.std.proofs.Common.{◌∙◌, sym}
use Rattle.xt_mount.specs.Machines.{state_of}
use Rattle.xt_mount.proofs.machine.Machine.release.Goals as goal

pub free-requires-clause-changed : goal.free-requires-clause-changed
free-requires-clause-changed c = busy_released (state_of c.args.self.now) c.requires c.args.block (sym c.is_held.ensures ∙ c.if-not-is_held.false)
