use Rattle.std.proofs.Common.{◌∙◌, ap, subst, sym}
use Rattle.xt_base.specs.Maps.{at}
use Rattle.xt_base.specs.Sound.{IsRising}
use Rattle.xt_frames.specs.Contents.{contents_of}
use Rattle.xt_frames.specs.Kept.{IsClean}
use Rattle.std.specs.Prelude.{IfSome}
use Rattle.xt_journal.proofs.KeepLemmas.{kept_clean, kept_contents, kept_lists, kept_others, rest_kept}
use Rattle.xt_journal.specs.Journals.{JournalState}
use Rattle.xt_journal.proofs.journal.Journal.keep_changes.Goals as goal

pub returns-clause-lists : goal.returns-clause-lists
returns-clause-lists c = ap (λ (j : JournalState). j.lists) c.keep_each.ensures ∙ kept_lists 0 c.args.leg.now.changes c.args.self.now c.changes_rise.ensures

pub returns-clause-contents : goal.returns-clause-contents
returns-clause-contents c = ap (λ (j : JournalState). contents_of j.frames) c.keep_each.ensures ∙ kept_contents 0 c.args.leg.now.changes c.args.self.now c.changes_rise.ensures c.requires.framed

pub returns-clause-others : goal.returns-clause-others
returns-clause-others c = λ b out. ap (λ (j : JournalState). at b j.frames.frames) c.keep_each.ensures ∙ kept_others c.args.leg.now.changes c.args.self.now b out

pub returns-clause-clean : goal.returns-clause-clean
returns-clause-clean c = λ b there.
    let frames = subst (λ (j : JournalState). IsRising j.frames.frames) c.self.view_is c.frames_rise.ensures in
    subst (λ (j : JournalState). IfSome (at b j.frames.frames) IsClean) (sym c.keep_each.ensures) (kept_clean 0 c.args.leg.now.changes c.args.self.now c.changes_rise.ensures frames b there)

pub returns-clause-rest : goal.returns-clause-rest
returns-clause-rest c = rest_kept c.args.leg.now.changes c.args.self.now c.keep_each.new.self c.keep_each.ensures
