use Rattle.std.proofs.Common.{◌∙◌, ap, subst}
use Rattle.xt_base.specs.Sound.{IsRising}
use Rattle.xt_frames.proofs.ContentLemmas.{without_committed}
use Rattle.xt_frames.specs.Busy.{committed_of}
use Rattle.xt_frames.specs.Contents.{Bufs, contents_of}
use Rattle.xt_journal.proofs.TieLemmas.{tied_cancelled}
use Rattle.xt_journal.proofs.journal.Journal.keep_cancelled.Goals as goal

pub invariant_of-self : goal.invariant_of-self
invariant_of-self c =
    let now = c.self.inside in
    let rises = subst IsRising c.cil-cil.ensures.value c.cil-cil.ensures.rising in
    tied_cancelled now.form.size now.items (contents_of now.frames) now.shut c.self.invariant rises c.args.block c.cancel.new.self (contents_of c.uncommit.new.self) c.cancel.ensures
    (ap (λ (b : Bufs). committed_of b.frames) c.uncommit.ensures ∙ without_committed c.args.block now.frames.frames)
