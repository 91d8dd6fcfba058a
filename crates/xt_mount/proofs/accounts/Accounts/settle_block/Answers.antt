use Rattle.std.proofs.Common.{◌∙◌, ap, subst, sym}
use Rattle.xt_base.specs.Space.{cost}
use Rattle.xt_frames.specs.Settling.{AreOthersBusy}
use Rattle.xt_journal.specs.Journals.{JournalState}
use Rattle.xt_mount.proofs.AccountsLemmas.{settled_are, settled_pages}
use Rattle.xt_mount.proofs.accounts.Accounts.settle_block.Goals as goal
use Rattle.xt_mount.specs.Accounts.{AccountsState}
use Rattle.xt_mount.specs.Settling.{is_busy_in}
use Rattle.xt_resv.specs.Mounts.{flight_of}

pub settle_block-requires : goal.settle_block-requires
settle_block-requires c = subst (λ (a : AccountsState). AreOthersBusy (is_busy_in c.args.locks.now a.items) c.args.block a.frames) (sym c.self.view_is) c.requires.others

pub invariant_of-self : goal.invariant_of-self
invariant_of-self c =
    let now = c.self.inside in (
      c.self.invariant.0,
      c.self.invariant.1 ∙ ap (λ (l : JournalState). cost l.form.ends l.lists.cil) (sym c.settle_block.ensures),
      c.self.invariant.2 ∙ ap (λ (l : JournalState). flight_of l.form.ends l.lists.flight) (sym c.settle_block.ensures),
      settled_are c.args.self.now now.space.size now.transactions now.space.landed now.journal c.settle_block.new.self c.self.view_is c.args.locks.now c.requires.changed c.settle_block.ensures c.self.invariant.3,
    )

pub returns : goal.returns
returns c =
    let now = c.self.inside in
    settled_pages c.args.self.now now.space.size now.transactions now.space.landed now.journal c.settle_block.new.self c.self.view_is c.args.locks.now c.requires.changed c.settle_block.ensures
