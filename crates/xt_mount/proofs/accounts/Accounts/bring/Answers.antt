use Rattle.std.proofs.Common.{◌∙◌, ap, arith, length, sym}
use Rattle.xt_base.specs.Space.{cost}
use Rattle.xt_frames.proofs.ContentLemmas.{length_committed}
use Rattle.xt_journal.specs.Journals.{JournalState}
use Rattle.xt_mount.proofs.AccountsLemmas.{brought_are, brought_pages}
use Rattle.xt_mount.proofs.accounts.Accounts.bring.Goals as goal
use Rattle.xt_mount.specs.Accounts.{AccountsState}
use Rattle.xt_resv.specs.Mounts.{flight_of}

pub bring-requires-clause-frames : goal.bring-requires-clause-frames
bring-requires-clause-frames c =
    omega (arith, length_committed c.self.inside.journal.frames.frames, ap (λ (a : AccountsState). length a.frames.committed) c.self.view_is, c.requires.committed)

pub invariant_of-self : goal.invariant_of-self
invariant_of-self c =
    let now = c.self.inside in (
      c.self.invariant.0,
      c.self.invariant.1 ∙ ap (λ (l : JournalState). cost l.form.ends l.lists.cil) (sym c.bring.ensures),
      c.self.invariant.2 ∙ ap (λ (l : JournalState). flight_of l.form.ends l.lists.flight) (sym c.bring.ensures),
      brought_are c.args.self.now now.space.size now.transactions now.space.landed now.journal c.bring.new.self c.self.view_is c.args.block c.requires.unchanged c.bring.ensures c.self.invariant.3,
    )

pub returns : goal.returns
returns c =
    let now = c.self.inside in
    brought_pages c.args.self.now now.space.size now.transactions now.space.landed now.journal c.bring.new.self c.self.view_is c.args.block c.requires.unchanged c.bring.ensures
