use Rattle.std.proofs.Common.{◌∙◌, ap}
use Rattle.xt_frames.proofs.ContentLemmas.{undone_committed}
use Rattle.xt_frames.specs.Busy.{committed_of}
use Rattle.xt_frames.specs.Contents.{Bufs, contents_of}
use Rattle.xt_journal.proofs.TieLemmas.{tied_same}
use Rattle.xt_journal.proofs.journal.Journal.undo.Goals as goal

pub invariant_of-self : goal.invariant_of-self
invariant_of-self c =
    let now = c.self.inside in
    tied_same now.form.size now.items (contents_of now.frames) now.shut c.self.invariant (contents_of c.undo.new.self)
    (ap (λ (b : Bufs). committed_of b.frames) c.undo.ensures ∙ undone_committed c.args.block now.frames.frames c.frames_rise.ensures)
