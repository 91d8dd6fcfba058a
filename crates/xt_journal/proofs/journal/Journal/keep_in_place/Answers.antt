use Rattle.std.proofs.Common.{◌≡◌, ◌∙◌, List, [], ap, length, subst, sym, unwrap_or, ℕ}
use Rattle.xt_base.specs.Chunks.{union}
use Rattle.xt_base.specs.Maps.{at, put}
use Rattle.xt_base.specs.Sized.{IsWithin}
use Rattle.xt_base.specs.Sound.{IsRising}
use Rattle.xt_frames.proofs.ContentLemmas.{kept_committed}
use Rattle.xt_frames.specs.Busy.{committed_of}
use Rattle.xt_frames.specs.Contents.{Bufs, contents_of}
use Rattle.xt_journal.proofs.TieLemmas.{tied_marked}
use Rattle.xt_journal.proofs.journal.Journal.keep_in_place.Goals as goal
use Rattle.xt_journal.specs.Journals.{JournalState}
use Rattle.xt_journal.specs.Over.{frame_bytes}

pub mark-requires-clause-within : goal.mark-requires-clause-within
mark-requires-clause-within c =
    let joined = union (unwrap_or (at c.args.block c.self.inside.items.cil) []) c.args.marks in
    let has = subst (λ (j : JournalState). IsWithin (length (frame_bytes (at c.args.block j.frames.frames))) (union (unwrap_or (at c.args.block j.lists.cil) []) c.args.marks)) (sym c.self.view_is) c.requires.chunks in
    subst (λ bytes. IsWithin (length bytes) joined) (ap frame_bytes (sym c.in-Some.ensures) ∙ sym c.content.ensures.value) has

pub invariant_of-self : goal.invariant_of-self
invariant_of-self c =
    let now = c.self.inside in
    let rises = subst IsRising c.cil-cil.ensures.value c.cil-cil.ensures.rising in
    tied_marked now.form.size now.items (contents_of now.frames) now.shut c.self.invariant rises c.args.block c.mark.new.self (contents_of c.keep.new.self) _ c.content.result.now c.mark.ensures
    (ap (λ (b : Bufs). committed_of b.frames) c.keep.ensures ∙ kept_committed c.args.block c.in-Some.frame.now now.frames.frames (sym c.in-Some.ensures)
    ∙ ap (λ bytes. put c.args.block bytes (committed_of now.frames.frames)) (sym c.content.ensures.value))
