use Rattle.std.proofs.Common.{subst, sym}
use Rattle.xt_mount.proofs.ChangedLemmas.{free_unchanged}
use Rattle.xt_mount.specs.Accounts.{IsUnchanged}
use Rattle.std.proofs.Common.{◌∙◌, ap, arith}
use Rattle.xt_base.specs.Maps.{is_in}
use Rattle.xt_base.proofs.SoundBounds.{few_contents}
use Rattle.xt_mount.specs.Machines.{state_of}
use Rattle.xt_mount.proofs.KeepLemmas.{unlisted_absent}
use Rattle.xt_mount.proofs.machine.Machine.take_content.Goals as goal

pub bring_content-requires-clause-room : goal.bring_content-requires-clause-room
bring_content-requires-clause-room c = omega (arith, few_contents (state_of c.args.self.now) c.requires.sound)

pub bring_content-requires-clause-unlisted : goal.bring_content-requires-clause-unlisted
bring_content-requires-clause-unlisted c =
    λ live. ap (λ b. is_in b c.args.self.now.accounts.items.cil) c.block.view_is ∙ unlisted_absent (state_of c.args.self.now) c.args.trans c.args.block c.requires.sound c.requires.absent live

pub bring_content-requires-clause-unchanged : goal.bring_content-requires-clause-unchanged
bring_content-requires-clause-unchanged c =
    let s = state_of c.args.self.now in
    subst (λ b. IsUnchanged b s.transactions) (sym c.block.view_is) (free_unchanged s c.requires.sound c.args.block c.requires.free)
