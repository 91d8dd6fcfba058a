use Rattle.std.proofs.Common.{subst, sym}
use Rattle.xt_mount.specs.Settling.{AreChangedBusy, is_busy_in}
use Rattle.xt_mount.proofs.SettleLemmas.{others_busy}
use Rattle.xt_mount.proofs.machine.Machine.free.Goals as goal

pub settle_block-requires-clause-others : goal.settle_block-requires-clause-others
settle_block-requires-clause-others c =
    others_busy c.args.self.now.locks c.unlock.new.self c.args.self.now.accounts.items c.args.block c.unlock.ensures c.args.self.now.accounts.frames c.requires.kept

pub settle_block-requires-clause-changed : goal.settle_block-requires-clause-changed
settle_block-requires-clause-changed c =
    subst (λ os. AreChangedBusy (is_busy_in os c.args.self.now.accounts.items) c.args.self.now.accounts.transactions) (sym c.unlock.ensures) c.requires.changed
