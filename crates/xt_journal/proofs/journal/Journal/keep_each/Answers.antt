use Rattle.std.proofs.Common.{◌∙◌, ◌≡◌, ap, arith, length, subst, suc, sym}
use Rattle.xt_base.proofs.MapLemmas.{length_put_le}
use Rattle.xt_base.proofs.RisingLemmas.{rises_weaker}
use Rattle.xt_base.specs.Legs.{joined_marks}
use Rattle.xt_base.specs.Maps.{at}
use Rattle.xt_base.specs.Sound.{IsRising}
use Rattle.xt_base.specs.State.{Leg}
use Rattle.xt_journal.proofs.KeepLemmas.{chunks_after, edit_length, framed_after, taken}
use Rattle.xt_journal.proofs.journal.Journal.keep_each.Goals as goal
use Rattle.xt_journal.specs.Journals.{JournalState}
use Rattle.xt_journal.specs.Keeping.{AreFramed, HaveChunks, changes_kept, with_first}
use Rattle.xt_journal.specs.Over.{changes_over, shown_over}

pub loop-block-preserved : goal.loop-block-preserved
loop-block-preserved c =
    let before : JournalState = c.loop-block.self in
    let next : Leg = c.take_change.new.self in
    let took : c.loop-block.leg ≡ with_first (c.in-Some.block, c.in-Some.change) next =
    taken c.take_change.result _ (λ e. c.loop-block.leg ≡ with_first e next) (c.in-Some.block, c.in-Some.change) c.in-Some.is c.take_change.ensures in
    let rising = subst (λ (t : Leg). IsRising t.changes) took c.loop-block.invariant.rising in
    let framed = subst (λ (t : Leg). AreFramed before.frames.frames t.changes) took c.loop-block.invariant.framed in
    let chunks = subst (λ (t : Leg). HaveChunks before.lists.cil (changes_over before.frames.frames t.changes)) took c.loop-block.invariant.chunks in
    let shown = shown_over before.frames.frames c.in-Some.block c.in-Some.change in
    record {
      kept = ap (changes_kept next.changes) c.keep_change.ensures ∙ ap (λ (t : Leg). changes_kept t.changes before) (sym took) ∙ c.loop-block.invariant.kept;
      framed = subst (λ (j : JournalState). AreFramed j.frames.frames next.changes) (sym c.keep_change.ensures) (framed_after c.in-Some.block c.in-Some.change.edit before.frames.frames next.changes rising.1 framed.1);
      rising = rises_weaker 0 (suc c.in-Some.block) next.changes (omega arith) rising.1;
      frames = omega (arith, ap (λ (j : JournalState). length j.frames.frames) c.keep_change.ensures, edit_length c.in-Some.block c.in-Some.change.edit before.frames.frames, ap (λ (t : Leg). length t.changes) took, c.loop-block.invariant.frames);
      cil = omega (arith, ap (λ (j : JournalState). length j.lists.cil) c.keep_change.ensures, length_put_le c.in-Some.block (joined_marks (at c.in-Some.block before.lists.cil) shown) before.lists.cil, ap (λ (t : Leg). length t.changes) took, c.loop-block.invariant.cil);
      chunks = subst (λ (j : JournalState). HaveChunks j.lists.cil (changes_over j.frames.frames next.changes)) (sym c.keep_change.ensures)
          (chunks_after c.in-Some.block c.in-Some.change.edit before.frames.frames (joined_marks (at c.in-Some.block before.lists.cil) shown) before.lists.cil next.changes rising.1 chunks.1);
    }
