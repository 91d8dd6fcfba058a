use Rattle.std.proofs.Common.{◌≡◌, ◌∙◌, ap, false, subst, sym, true}
use Rattle.std.specs.Prelude.{is_none}
use Rattle.xt_base.specs.Maps.{is_in}
use Rattle.xt_frames.proofs.ContentLemmas.{put_committed}
use Rattle.xt_frames.specs.Busy.{committed_of}
use Rattle.xt_frames.specs.Contents.{Bufs, contents_of}
use Rattle.xt_frames.specs.Kept.{clean_of}
use Rattle.xt_journal.specs.Journals.{JournalState}
use Rattle.xt_journal.proofs.TieLemmas.{tied_put}
use Rattle.xt_journal.proofs.journal.Journal.bring_content.Goals as goal

pub invariant_of-self : goal.invariant_of-self
invariant_of-self c =
    let now = c.self.inside in
    let out = subst (λ (j : JournalState). is_none j.shut ≡ true → is_in c.args.block j.lists.cil ≡ false) (sym c.self.view_is) c.requires.unlisted in
    tied_put now.form.size now.items (contents_of now.frames) now.shut c.self.invariant c.args.block c.args.content (contents_of c.bring_content.new.self)
    out (ap (λ (b : Bufs). committed_of b.frames) c.bring_content.ensures ∙ put_committed c.args.block (clean_of c.args.content) now.frames.frames)
