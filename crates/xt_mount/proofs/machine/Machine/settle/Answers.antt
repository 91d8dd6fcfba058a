use Rattle.std.proofs.Common.{◌∙◌, ap, refl}
use Rattle.std.specs.Prelude.{is_none}
use Rattle.xt_base.specs.Space.{is_busy}
use Rattle.xt_base.specs.State.{State}
use Rattle.xt_frames.specs.Settling.{settled_by}
use Rattle.xt_mount.specs.Accounts.{AccountsState}
use Rattle.xt_mount.specs.Machines.{state_of}
use Rattle.xt_mount.specs.declared.machine.Machine.{Machine}
use Rattle.xt_mount.proofs.SettleLemmas.{settled_is}
use Rattle.xt_mount.proofs.machine.Machine.settle.Goals as goal

pub returns : goal.returns
returns c =
    let machine : Machine = c.args.self.now in
    let s : State = state_of machine in
    ap (λ (a : AccountsState). state_of (record machine { accounts = a })) c.settle.ensures ∙ settled_is s (settled_by (is_busy s) (is_none s.shut) s.frames) (is_none s.shut) refl refl
