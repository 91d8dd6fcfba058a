use Rattle.std.proofs.Common.{◌∙◌, ap, subst}
use Rattle.xt_base.specs.Sound.{IsRising}
use Rattle.xt_frames.proofs.ContentLemmas.{put_committed}
use Rattle.xt_frames.specs.Busy.{committed_of}
use Rattle.xt_frames.specs.Contents.{Bufs, contents_of}
use Rattle.xt_frames.specs.Kept.{clean_of}
use Rattle.xt_journal.proofs.TieLemmas.{tied_marked}
use Rattle.xt_journal.proofs.journal.Journal.keep_own.Goals as goal

pub invariant_of-self : goal.invariant_of-self
invariant_of-self c =
    let now = c.self.inside in
    let rises = subst IsRising c.cil-cil.ensures.value c.cil-cil.ensures.rising in
    tied_marked now.form.size now.items (contents_of now.frames) now.shut c.self.invariant rises c.args.block c.mark.new.self (contents_of c.commit.new.self) _ c.args.content c.mark.ensures
    (ap (λ (b : Bufs). committed_of b.frames) c.commit.ensures ∙ put_committed c.args.block (clean_of c.args.content) now.frames.frames)
