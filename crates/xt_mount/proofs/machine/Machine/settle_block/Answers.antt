use Rattle.std.proofs.Common.{◌∙◌, ap, refl, subst, sym}
use Rattle.std.specs.Prelude.{is_none}
use Rattle.xt_base.specs.Space.{is_busy}
use Rattle.xt_base.specs.State.{State}
use Rattle.xt_frames.specs.Settling.{AreOthersBusy, settled_by}
use Rattle.xt_mount.specs.Accounts.{AccountsState}
use Rattle.xt_mount.specs.Machines.{state_of}
use Rattle.xt_mount.specs.declared.machine.Machine.{Machine}
use Rattle.xt_mount.proofs.SettleLemmas.{settled_is}
use Rattle.xt_mount.proofs.machine.Machine.settle_block.Goals as goal

pub settle_block-requires-clause-others : goal.settle_block-requires-clause-others
settle_block-requires-clause-others c =
    let s : State = state_of c.args.self.now in
    subst (λ b. AreOthersBusy (is_busy s) b s.frames) (sym c.block.view_is) c.requires.others

pub returns : goal.returns
returns c =
    let machine : Machine = c.args.self.now in
    let s : State = state_of machine in
    ap (λ (a : AccountsState). state_of (record machine { accounts = a })) c.settle_block.ensures ∙ settled_is s (settled_by (is_busy s) (is_none s.shut) s.frames) (is_none s.shut) refl refl
