use Rattle.std.proofs.Common.{subst}
use Rattle.xt_mount.proofs.ChangedLemmas.{idle_unchanged}
use Rattle.xt_mount.specs.Accounts.{IsUnchanged}
use Rattle.std.proofs.Common.{◌∙◌, ap, arith, sym}
use Rattle.xt_base.specs.Maps.{is_in}
use Rattle.xt_base.proofs.SoundBounds.{few_contents, few_fresh}
use Rattle.xt_mount.specs.Machines.{state_of}
use Rattle.xt_mount.proofs.KeepLemmas.{unlisted_free}
use Rattle.xt_mount.proofs.machine.Machine.lock_first.Goals as goal

pub bring-requires-clause-committed : goal.bring-requires-clause-committed
bring-requires-clause-committed c = omega (arith, few_contents (state_of c.args.self.now) c.requires.sound)

pub bring-requires-clause-fresh : goal.bring-requires-clause-fresh
bring-requires-clause-fresh c = omega (arith, few_fresh (state_of c.args.self.now) c.requires.sound)

pub bring-requires-clause-unlisted : goal.bring-requires-clause-unlisted
bring-requires-clause-unlisted c =
    λ live. ap (λ b. is_in b c.args.self.now.accounts.items.cil) c.block.view_is ∙ unlisted_free (state_of c.args.self.now) c.args.block (sym c.is_busy.ensures ∙ c.if-not-is_busy.true)

pub bring-requires-clause-unchanged : goal.bring-requires-clause-unchanged
bring-requires-clause-unchanged c =
    let s = state_of c.args.self.now in
    subst (λ b. IsUnchanged b s.transactions) (sym c.block.view_is) (idle_unchanged s c.requires.sound c.args.block (sym c.is_busy.ensures ∙ c.if-not-is_busy.true))
