use Rattle.std.proofs.Common.{◌≡◌, ◌∙◌, ap, false, subst, sym, true}
use Rattle.std.specs.Prelude.{is_none}
use Rattle.xt_base.specs.Maps.{at, is_in}
use Rattle.xt_frames.proofs.ContentLemmas.{brought_contents}
use Rattle.xt_frames.specs.Contents.{contents_of}
use Rattle.xt_journal.specs.Journals.{JournalState}
use Rattle.xt_journal.proofs.TieLemmas.{tied_brought}
use Rattle.xt_journal.proofs.journal.Journal.bring.Goals as goal

pub invariant_of-self : goal.invariant_of-self
invariant_of-self c =
    let now = c.self.inside in
    let out = subst (λ (j : JournalState). is_none j.shut ≡ true → is_in c.args.block j.lists.cil ≡ false) (sym c.self.view_is) c.requires.unlisted in
    tied_brought now.form.size now.items (contents_of now.frames) now.shut c.self.invariant c.args.block (contents_of c.bring.new.self) out
    (ap contents_of c.bring.ensures ∙ brought_contents c.args.block (at c.args.block now.frames.idle) now.frames)
