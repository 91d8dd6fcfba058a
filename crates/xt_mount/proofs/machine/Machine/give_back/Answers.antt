use Rattle.std.proofs.Common.{◌∙◌, [], ap}
use Rattle.xt_base.specs.Calls.{unowned}
use Rattle.xt_base.specs.Settle.{settled}
use Rattle.xt_mount.proofs.KeepLemmas.{if_then}
use Rattle.std.proofs.Common.{refl}
use Rattle.xt_mount.proofs.ChangedLemmas.{busy_given_back}
use Rattle.xt_base.specs.Maps.{at}
use Rattle.xt_mount.specs.Machines.{state_of}
use Rattle.xt_mount.proofs.SettleLemmas.{kept_unheld}
use Rattle.xt_mount.proofs.machine.Machine.give_back.Goals as goal

pub free-requires-clause-kept : goal.free-requires-clause-kept
free-requires-clause-kept c =
    kept_unheld c.args.trans c.args.block (state_of c.args.self.now) (state_of c.mark_unheld.new.self) (at c.args.trans c.args.self.now.accounts.transactions) c.requires.there c.mark_unheld.ensures c.requires.sound.kept

pub free-requires-clause-changed : goal.free-requires-clause-changed
free-requires-clause-changed c =
    busy_given_back (state_of c.args.self.now) c.requires.sound c.args.trans c.args.block (state_of c.mark_unheld.new.self) (at c.args.trans c.args.self.now.accounts.transactions) refl c.requires.there c.requires.own c.requires.unchanged c.mark_unheld.ensures

pub returns : goal.returns
returns c = if_then (at c.args.trans c.args.self.now.accounts.transactions) _ _ (λ t h. c.free.ensures ∙ ap (λ s. settled [] (unowned c.args.block s)) h) c.mark_unheld.ensures
