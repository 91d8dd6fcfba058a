use Rattle.std.proofs.Common.{◌∙◌, ap}
use Rattle.xt_frames.proofs.ContentLemmas.{filter_committed}
use Rattle.xt_frames.specs.Busy.{committed_of}
use Rattle.xt_frames.specs.Contents.{Bufs, contents_of}
use Rattle.xt_journal.specs.Journals.{is_busy_beside}
use Rattle.xt_journal.proofs.TieLemmas.{listed_busy, tied_kept}
use Rattle.xt_journal.proofs.journal.Journal.settle.Goals as goal

pub invariant_of-self : goal.invariant_of-self
invariant_of-self c =
    let now = c.self.inside in
    let busy = is_busy_beside c.args.locks.now now.items in
    tied_kept now.form.size now.items (contents_of now.frames) now.shut c.self.invariant busy (contents_of c.settle_frames.new.frames) (listed_busy c.args.locks.now now.items)
    (ap (λ (b : Bufs). committed_of b.frames) c.settle_frames.ensures ∙ filter_committed busy now.frames.frames)
