use Rattle.std.proofs.Common.{◌≡◌, ◌∙◌, ap, arith, length, refl, sym}
use Rattle.xt_base.specs.Maps.{at}
use Rattle.xt_base.specs.Space.{cost}
use Rattle.xt_frames.proofs.ContentLemmas.{length_committed}
use Rattle.xt_frames.specs.Contents.{bufs_brought_in}
use Rattle.xt_journal.proofs.TieLemmas.{either_way}
use Rattle.xt_journal.specs.Journals.{JournalState}
use Rattle.xt_mount.proofs.AccountsLemmas.{brought_are, brought_pages, on_false, on_true, pages}
use Rattle.xt_mount.proofs.accounts.Accounts.bring_idle.Goals as goal
use Rattle.xt_mount.specs.Accounts.{AccountsState}
use Rattle.xt_mount.specs.Shown.{AreInFrames}
use Rattle.xt_resv.specs.Mounts.{flight_of}

pub bring_idle-requires-clause-frames : goal.bring_idle-requires-clause-frames
bring_idle-requires-clause-frames c =
    omega (arith, length_committed c.self.inside.journal.frames.frames, ap (λ (a : AccountsState). length a.frames.committed) c.self.view_is, c.requires.committed)

pub invariant_of-self : goal.invariant_of-self
invariant_of-self c =
    let now = c.self.inside in
    let old : JournalState = now.journal in
    let come : JournalState = record old { frames = bufs_brought_in c.args.block (at c.args.block old.frames.idle) old.frames } in
    let new : JournalState = c.bring_idle.new.self in
    let brought = c.bring_idle.ensures.brought in
    let kept = c.bring_idle.ensures.kept in (
      c.self.invariant.0,
      c.self.invariant.1 ∙ either_way (λ (l : JournalState). cost old.form.ends old.lists.cil ≡ cost l.form.ends l.lists.cil) c.bring_idle.result new old come brought kept refl refl,
      c.self.invariant.2 ∙ either_way (λ (l : JournalState). flight_of old.form.ends old.lists.flight ≡ flight_of l.form.ends l.lists.flight) c.bring_idle.result new old come brought kept refl refl,
      either_way (λ (l : JournalState). AreInFrames l.frames.frames now.transactions) c.bring_idle.result new old come brought kept
          (brought_are c.args.self.now now.space.size now.transactions now.space.landed old come c.self.view_is c.args.block c.requires.unchanged refl c.self.invariant.3) c.self.invariant.3,
    )

pub returns-clause-brought : goal.returns-clause-brought
returns-clause-brought c =
    let now = c.self.inside in
    on_true c.bring_idle.result
    (brought_pages c.args.self.now now.space.size now.transactions now.space.landed now.journal c.bring_idle.new.self c.self.view_is c.args.block c.requires.unchanged)
    c.bring_idle.ensures.brought

pub returns-clause-kept : goal.returns-clause-kept
returns-clause-kept c =
    let now = c.self.inside in
    on_false c.bring_idle.result (λ kept. ap (pages now.space.size now.transactions now.space.landed) kept ∙ c.self.view_is) c.bring_idle.ensures.kept
