use Rattle.std.proofs.Common.{◌∙◌, ◌≡◌, ap, false, subst, sym}
use Rattle.std.specs.Prelude.{is_none, ◌&&◌}
use Rattle.xt_base.specs.Legs.{is_dirty}
use Rattle.xt_base.specs.Maps.{at}
use Rattle.xt_base.specs.State.{Frames}
use Rattle.xt_frames.specs.Contents.{contents_of}
use Rattle.xt_journal.specs.Journals.{JournalState}
use Rattle.xt_journal.specs.Keeping.{is_saved, leg_lost}
use Rattle.xt_journal.proofs.KeepLemmas.{given_clean, given_contents, given_others}
use Rattle.xt_journal.proofs.TieLemmas.{clean_saves, tied_kept}
use Rattle.xt_journal.proofs.journal.Journal.lose_leg.Goals as goal

pub invariant_of-self : goal.invariant_of-self
invariant_of-self c =
    let now = c.self.inside in
    let leg = c.args.leg.now in
    let kept = subst (λ (j : JournalState). (is_dirty leg && is_none j.shut) ≡ false) (sym c.self.view_is) c.requires.kept in
    λ live. tied_kept now.form.size now.items (contents_of now.frames) now.shut c.self.invariant (is_saved leg) (contents_of c.lose_changes.new.frames) (clean_saves leg now.shut kept live now.items.cil)
    (ap (λ (f : Frames). f.committed) (given_contents leg now.frames c.lose_contents.new.frames c.lose_changes.new.frames c.frames_rise.ensures c.lose_contents.ensures c.lose_changes.ensures)) live

pub returns-clause-contents : goal.returns-clause-contents
returns-clause-contents c =
    given_contents c.args.leg.now c.self.inside.frames c.lose_contents.new.frames c.lose_changes.new.frames c.frames_rise.ensures c.lose_contents.ensures c.lose_changes.ensures
    ∙ ap (λ (j : JournalState). leg_lost c.args.leg.now (contents_of j.frames)) c.self.view_is

pub returns-clause-others : goal.returns-clause-others
returns-clause-others c = λ b out.
    given_others c.args.leg.now c.self.inside.frames c.lose_contents.new.frames c.lose_changes.new.frames c.frames_rise.ensures c.lose_contents.ensures c.lose_changes.ensures b out
    ∙ ap (λ (j : JournalState). at b j.frames.frames) c.self.view_is

pub returns-clause-clean : goal.returns-clause-clean
returns-clause-clean c =
    given_clean c.args.leg.now c.self.inside.frames c.lose_contents.new.frames c.lose_changes.new.frames c.frames_rise.ensures c.lose_contents.ensures c.lose_changes.ensures
