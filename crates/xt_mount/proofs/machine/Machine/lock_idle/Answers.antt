use Rattle.std.proofs.Common.{arith, subst, sym}
use Rattle.xt_base.proofs.SoundBounds.{few_contents}
use Rattle.xt_mount.proofs.ChangedLemmas.{idle_unchanged}
use Rattle.xt_mount.specs.Accounts.{IsUnchanged}
use Rattle.xt_mount.specs.Machines.{state_of}
use Rattle.xt_mount.proofs.machine.Machine.lock_idle.Goals as goal

pub bring_idle-requires-clause-committed : goal.bring_idle-requires-clause-committed
bring_idle-requires-clause-committed c = omega (arith, few_contents (state_of c.args.self.now) c.requires.sound)

pub bring_idle-requires-clause-unchanged : goal.bring_idle-requires-clause-unchanged
bring_idle-requires-clause-unchanged c =
    let s = state_of c.args.self.now in
    subst (λ b. IsUnchanged b s.transactions) (sym c.block.view_is) (idle_unchanged s c.requires.sound c.args.block c.requires.idle)
