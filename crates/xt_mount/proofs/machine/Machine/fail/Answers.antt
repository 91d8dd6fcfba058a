use Rattle.std.proofs.Common.{◌∙◌, ap}
use Rattle.xt_base.specs.State.{State}
use Rattle.xt_mount.specs.Accounts.{AccountsState}
use Rattle.xt_mount.specs.Machines.{state_of}
use Rattle.xt_mount.specs.declared.machine.Machine.{Machine}
use Rattle.xt_mount.proofs.ChangedLemmas.{busy_alike}
use Rattle.xt_mount.proofs.machine.Machine.fail.Goals as goal

pub settle-requires : goal.settle-requires
settle-requires c =
    let machine : Machine = record c.shut_down.new.self { jobs = c.finish.new.self } in
    busy_alike (state_of c.args.self.now) c.requires (state_of machine) (ap (λ (s : State). s.owners) c.shut_down.ensures) (ap (λ (s : State). s.transactions) c.shut_down.ensures ∙ ap (λ (a : AccountsState). a.transactions) c.fail.ensures)
