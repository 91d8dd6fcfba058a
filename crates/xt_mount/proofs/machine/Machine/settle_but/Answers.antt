use Rattle.std.proofs.Common.{subst}
use Rattle.xt_base.specs.Space.{is_busy}
use Rattle.xt_frames.specs.Settling.{AreOthersBusy}
use Rattle.xt_mount.proofs.machine.Machine.settle_but.Goals as goal
use Rattle.xt_mount.specs.Machines.{state_of}
use Rattle.xt_mount.specs.Settling.{OfRest}
use Rattle.xt_mount.specs.declared.settle.MayRest.{MayRest}

pub nothing_settles-requires : goal.nothing_settles-requires
nothing_settles-requires c =
    subst (λ (r : MayRest). OfRest r (λ block. AreOthersBusy (is_busy (state_of c.args.self.now)) block c.args.self.now.accounts.frames)) c.in-Nothing.is c.requires.others
