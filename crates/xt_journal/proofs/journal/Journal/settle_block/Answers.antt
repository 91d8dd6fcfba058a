use Rattle.std.proofs.Common.{◌∙◌, ap, subst, sym}
use Rattle.xt_frames.proofs.ContentLemmas.{filter_committed}
use Rattle.xt_frames.specs.Busy.{committed_of}
use Rattle.xt_frames.specs.Contents.{Bufs, contents_of}
use Rattle.xt_frames.specs.Settling.{AreOthersBusy}
use Rattle.xt_journal.specs.Journals.{JournalState, is_busy_beside}
use Rattle.xt_journal.proofs.TieLemmas.{listed_busy, tied_kept}
use Rattle.xt_journal.proofs.journal.Journal.settle_block.Goals as goal

pub invariant_of-self : goal.invariant_of-self
invariant_of-self c =
    let now = c.self.inside in
    let busy = is_busy_beside c.args.locks.now now.items in
    let others = subst (λ (j : JournalState). AreOthersBusy (is_busy_beside c.args.locks.now j.lists) c.args.block (contents_of j.frames)) (sym c.self.view_is) c.requires in
    tied_kept now.form.size now.items (contents_of now.frames) now.shut c.self.invariant busy (contents_of c.settle_block.new.self) (listed_busy c.args.locks.now now.items)
    (ap (λ (b : Bufs). committed_of b.frames) (c.settle_block.ensures busy c.is_busy-stays.ensures others) ∙ filter_committed busy now.frames.frames)
