use Rattle.xt_base.specs.State.{State}
use Rattle.xt_mount.proofs.ChangedLemmas.{busy_alike}
use Rattle.std.proofs.Common.{◌∙◌, [], ap, length}
use Rattle.xt_base.specs.Calls.{gives}
use Rattle.xt_base.specs.Jobs.{finished, gone, renewed}
use Rattle.xt_base.specs.Settle.{settled}
use Rattle.xt_base.specs.declared.names.JobKind.{JobKind}
use Rattle.xt_base.specs.declared.steps.Reply.{Reply}
use Rattle.xt_jobs.specs.Tables.{Table}
use Rattle.xt_mount.proofs.machine.Machine.flushed.Goals as goal
use Rattle.xt_mount.specs.Accounts.{AccountsState}
use Rattle.xt_mount.specs.Machines.{state_of}
use Rattle.xt_mount.specs.declared.machine.Machine.{Machine}

pub returns : goal.returns
returns c =
    let machine : Machine = c.args.self.now in
    let answers = c.args.answers.now in
    ap (λ n. gives (Reply.Flushed n) (state_of c.settle.new.self)) c.flush_done-count.ensures.count
    ∙ ap (gives (Reply.Flushed (length (gone c.args.plan.now answers)))) (c.settle.ensures ∙ ap (settled []) (c.renew_asking.ensures
    ∙ ap (λ (t : Table). renewed answers (state_of (record machine { accounts = c.flush_done-count.new.self; jobs = t }))) c.finish.ensures
    ∙ ap (λ (j : AccountsState). renewed answers (finished JobKind.Flush (state_of (record machine { accounts = j })))) c.flush_done-count.ensures.accounts))

pub settle-requires : goal.settle-requires
settle-requires c =
    busy_alike (state_of c.args.self.now) c.requires.sound (state_of c.renew_asking.new.self) (ap (λ (s : State). s.owners) c.renew_asking.ensures)
    (ap (λ (s : State). s.transactions) c.renew_asking.ensures ∙ ap (λ (a : AccountsState). a.transactions) c.flush_done-count.ensures.accounts)
