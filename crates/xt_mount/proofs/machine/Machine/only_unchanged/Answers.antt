use Rattle.std.proofs.Common.{◌∙◌, ◌≡◌, ap, false, sym}
use Rattle.xt_base.specs.Maps.{at}
use Rattle.xt_base.specs.State.{Leg}
use Rattle.xt_mount.specs.Settling.{has_unchanged, has_unchanged_beside}
use Rattle.xt_mount.proofs.EndLemmas.{if_some, named}
use Rattle.xt_mount.proofs.StayLemmas.{none_beside}
use Rattle.xt_mount.proofs.machine.Machine.only_unchanged.Goals as goal

pub returns-then-not-has_unchanged : goal.returns-then-not-has_unchanged
returns-then-not-has_unchanged c =
    let owners = c.args.self.now.locks in
    let opened = c.in-Some.opened in
    λ block.
    if_some (at c.args.trans c.args.self.now.accounts.transactions) (λ t. has_unchanged_beside block c.args.trans t.leg owners ≡ false) opened
    (named c.args.self.now.accounts.transactions c.in-Some.ensures c.trans.view_is)
    (none_beside block c.args.trans opened.leg owners
    (ap (λ (l : Leg). has_unchanged c.args.trans l owners) (sym c.leg-leg.ensures) ∙ sym c.has_unchanged.ensures ∙ c.if-not-has_unchanged.true))
