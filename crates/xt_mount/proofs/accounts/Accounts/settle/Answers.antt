use Rattle.std.proofs.Common.{◌∙◌, ap, sym}
use Rattle.xt_base.specs.Space.{cost}
use Rattle.xt_journal.specs.Journals.{JournalState}
use Rattle.xt_mount.proofs.AccountsLemmas.{settled_are, settled_pages}
use Rattle.xt_mount.proofs.accounts.Accounts.settle.Goals as goal
use Rattle.xt_resv.specs.Mounts.{flight_of}

pub invariant_of-self : goal.invariant_of-self
invariant_of-self c =
    let now = c.self.inside in (
      c.self.invariant.0,
      c.self.invariant.1 ∙ ap (λ (l : JournalState). cost l.form.ends l.lists.cil) (sym c.settle.ensures),
      c.self.invariant.2 ∙ ap (λ (l : JournalState). flight_of l.form.ends l.lists.flight) (sym c.settle.ensures),
      settled_are c.args.self.now now.space.size now.transactions now.space.landed now.journal c.settle.new.self c.self.view_is c.args.locks.now c.requires c.settle.ensures c.self.invariant.3,
    )

pub returns : goal.returns
returns c =
    let now = c.self.inside in
    settled_pages c.args.self.now now.space.size now.transactions now.space.landed now.journal c.settle.new.self c.self.view_is c.args.locks.now c.requires c.settle.ensures
