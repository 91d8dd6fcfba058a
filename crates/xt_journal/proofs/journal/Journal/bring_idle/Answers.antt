use Rattle.std.proofs.Common.{◌≡◌, false, subst, sym, true}
use Rattle.std.specs.Prelude.{is_none}
use Rattle.xt_base.specs.Maps.{at, is_in}
use Rattle.xt_frames.proofs.ContentLemmas.{brought_contents}
use Rattle.xt_frames.specs.Contents.{Bufs, bufs_brought_in, contents_of}
use Rattle.xt_journal.specs.Journals.{AreVectors, JournalState}
use Rattle.xt_journal.proofs.TieLemmas.{either_way, tied_brought}
use Rattle.xt_journal.proofs.journal.Journal.bring_idle.Goals as goal

pub invariant_of-self : goal.invariant_of-self
invariant_of-self c =
    let now = c.self.inside in
    let come : Bufs = bufs_brought_in c.args.block (at c.args.block now.frames.idle) now.frames in
    let out = subst (λ (j : JournalState). is_none j.shut ≡ true → is_in c.args.block j.lists.cil ≡ false) (sym c.self.view_is) c.requires.unlisted in
    either_way (λ (f : Bufs). AreVectors now.form.size now.items (contents_of f) now.shut) c.bring_idle.result c.bring_idle.new.self now.frames come c.bring_idle.ensures.brought c.bring_idle.ensures.kept
    (tied_brought now.form.size now.items (contents_of now.frames) now.shut c.self.invariant c.args.block (contents_of come) out (brought_contents c.args.block (at c.args.block now.frames.idle) now.frames))
    c.self.invariant
