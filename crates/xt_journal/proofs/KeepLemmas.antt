-- The end of a leg, change by change: what its frames and lists are then.
use Rattle.std.proofs.Common.{Bool, cond, filter, Err, Ok, OnErr, OnOk, Result, not, ◌≡◌, ◌≢◌, ◌∙◌, ◌+◌, ◌<◌, ◌≤◌, ◌∷◌, IfSome, List, MatchOption, None, Option, Some, [], ap, arith, false, inl, inr, length, refl, subst, suc, sym, true, ℕ}
use Rattle.std.proofs.lemmas.Bool.{cases_eq, false≢true}
use Rattle.std.specs.Prelude.{is_some, ◌&&◌}
use Rattle.xt_base.proofs.KeyLemmas.{at_filter_kept}
use Rattle.xt_base.proofs.MapLemmas.{at_first, at_later, at_put_other, at_put_same, at_without_other, length_put_le, length_without_le, without_first, without_later}
use Rattle.xt_base.proofs.RisingLemmas.{none_below, rises_filter, rises_put, rises_without}
use Rattle.xt_base.specs.Legs.{joined_marks, with_edit, with_lost}
use Rattle.xt_base.specs.Maps.{at, has, is_in, put, without}
use Rattle.xt_base.specs.Sized.{IsWithin}
use Rattle.xt_base.specs.Sound.{RisesFrom}
use Rattle.xt_base.specs.State.{Change, Frames, Leg}
use Rattle.xt_frames.proofs.ContentLemmas.{kept_committed, logged_committed, put_committed, saved_contents, undone_committed, without_committed}
use Rattle.xt_frames.specs.Busy.{changed_at, changed_in, committed_of}
use Rattle.xt_frames.specs.Contents.{Bufs, contents_of}
use Rattle.xt_frames.specs.Kept.{Framed, IsClean, clean_of, committed_now, logged, undone}
use Rattle.xt_frames.specs.Settling.{bufs_saved_by}
use Rattle.xt_journal.proofs.OverLemmas.{alike_above, changed_over}
use Rattle.xt_journal.specs.Journals.{JournalState}
use Rattle.xt_journal.specs.Keeping.{AreFramed, HaveChunks, change_kept, change_lost, changes_kept, changes_lost, edits_kept, frames_with_edit, fresh_lost, is_saved, leg_lost, lost_with, marks_kept}
use Rattle.xt_journal.specs.Over.{changes_over, edit_over, frame_bytes, leg_over, shown_over}
use Rattle.xt_vectors.specs.Edits.{is_in_place}

abbrev FramedBlocks : Type 0
FramedBlocks = List (ℕ × Framed)

abbrev Changes : Type 0
Changes = List (ℕ × Change)

-- a fact of what was taken
pub taken : {X : Type 0} (o : Option X) (P : Type 0) (Q : X → Type 0) (e : X) → o ≡ Some e → MatchOption o P Q → Q e
taken o P Q e is h = subst (λ x. MatchOption x P Q) is h

-- ---- the frame of one block is changed
-- others stay
changed_other : (change : Framed → Framed) (b k : ℕ) (o : Option Framed) (fs : FramedBlocks) → k ≢ b → at k (changed_at change b o fs) ≡ at k fs
changed_other change b k None fs other = refl
changed_other change b k (Some f) fs other = at_put_other b k (change f) fs other

-- it is clean where the change makes it so
changed_clean : (change : Framed → Framed) → ((f : Framed) → IsClean (change f)) → (b : ℕ) (o : Option Framed) (fs : FramedBlocks) → at b fs ≡ o → IfSome (at b (changed_at change b o fs)) IsClean
changed_clean change clean b None fs is = subst (λ o. IfSome o IsClean) (sym is) tt
changed_clean change clean b (Some f) fs is = subst (λ o. IfSome o IsClean) (sym (at_put_same b (change f) fs)) (clean f)

changed_rises : (change : Framed → Framed) (b : ℕ) (o : Option Framed) (fs : FramedBlocks) → RisesFrom 0 fs → RisesFrom 0 (changed_at change b o fs)
changed_rises change b None fs rises = rises
changed_rises change b (Some f) fs rises = rises_put 0 b (change f) fs (omega arith) rises

changed_length : (change : Framed → Framed) (b : ℕ) (o : Option Framed) (fs : FramedBlocks) → length (changed_at change b o fs) ≤ length fs + 1
changed_length change b None fs = omega arith
changed_length change b (Some f) fs = length_put_le b (change f) fs

-- a block that went has none
gone : (n b : ℕ) (fs : FramedBlocks) → RisesFrom n fs → at b (without b fs) ≡ None
gone n b [] rises = refl
gone n b (e ∷ es) rises =
    elim (cases_eq b e.0) [
      | inl same ↦ ap (at b) (without_first b e es same) ∙ none_below b (suc e.0) es (omega (arith, same)) rises.1
      | inr other ↦ ap (at b) (without_later b e es other) ∙ at_later b e (without b es) other ∙ gone (suc e.0) b es rises.1
    ]

-- ---- an edit is committed
pub edit_other : (b k : ℕ) (o : Option (List ℕ)) (fs : FramedBlocks) → k ≢ b → at k (frames_with_edit b o fs) ≡ at k fs
edit_other b k None fs other = at_without_other b k fs other
edit_other b k (Some []) fs other = changed_other committed_now b k (at b fs) fs other
edit_other b k (Some (x ∷ xs)) fs other = at_put_other b k (clean_of (x ∷ xs)) fs other

edit_clean : (b : ℕ) (o : Option (List ℕ)) (fs : FramedBlocks) → RisesFrom 0 fs → IfSome (at b (frames_with_edit b o fs)) IsClean
edit_clean b None fs rises = subst (λ o. IfSome o IsClean) (sym (gone 0 b fs rises)) tt
edit_clean b (Some []) fs rises = changed_clean committed_now (λ f. refl) b (at b fs) fs refl
edit_clean b (Some (x ∷ xs)) fs rises = subst (λ o. IfSome o IsClean) (sym (at_put_same b (clean_of (x ∷ xs)) fs)) refl

edit_rises : (b : ℕ) (o : Option (List ℕ)) (fs : FramedBlocks) → RisesFrom 0 fs → RisesFrom 0 (frames_with_edit b o fs)
edit_rises b None fs rises = rises_without 0 b fs rises
edit_rises b (Some []) fs rises = changed_rises committed_now b (at b fs) fs rises
edit_rises b (Some (x ∷ xs)) fs rises = rises_put 0 b (clean_of (x ∷ xs)) fs (omega arith) rises

pub edit_length : (b : ℕ) (o : Option (List ℕ)) (fs : FramedBlocks) → length (frames_with_edit b o fs) ≤ length fs + 1
edit_length b None fs = omega (arith, length_without_le b fs)
edit_length b (Some []) fs = changed_length committed_now b (at b fs) fs
edit_length b (Some (x ∷ xs)) fs = length_put_le b (clean_of (x ∷ xs)) fs

-- what was changed in place
in_place_committed : (b : ℕ) (o : Option Framed) (fs : FramedBlocks) → at b fs ≡ o → is_some o ≡ true → committed_of (changed_in committed_now b fs) ≡ put b (frame_bytes o) (committed_of fs)
in_place_committed b None fs is there = absurd (false≢true there)
in_place_committed b (Some f) fs is there = kept_committed b f fs is

edit_committed : (b : ℕ) (o : Option (List ℕ)) (fs : FramedBlocks) → (is_in_place o ≡ true → is_in b fs ≡ true) → committed_of (frames_with_edit b o fs) ≡ with_edit b (edit_over fs b o) (committed_of fs)
edit_committed b None fs framed = without_committed b fs
edit_committed b (Some []) fs framed = in_place_committed b (at b fs) fs refl (framed refl)
edit_committed b (Some (x ∷ xs)) fs framed = put_committed b (clean_of (x ∷ xs)) fs

-- later changes have their frames still
still_framed : (fs gs : FramedBlocks) (b : ℕ) → ((k : ℕ) → k ≢ b → at k gs ≡ at k fs) → (n : ℕ) (cs : Changes) → b < n → RisesFrom n cs → AreFramed fs cs → AreFramed gs cs
still_framed fs gs b others n [] less rises framed = tt
still_framed fs gs b others n (e ∷ es) less rises framed = (
  λ here. ap is_some (others e.0 (λ is. omega (arith, is, less, rises.0))) ∙ framed.0 here,
  still_framed fs gs b others (suc e.0) es (omega (arith, less, rises.0)) rises.1 framed.1,
)

pub framed_after : (b : ℕ) (o : Option (List ℕ)) (fs : FramedBlocks) (cs : Changes) → RisesFrom (suc b) cs → AreFramed fs cs → AreFramed (frames_with_edit b o fs) cs
framed_after b o fs cs rises framed = still_framed fs (frames_with_edit b o fs) b (λ k other. edit_other b k o fs other) (suc b) cs (omega arith) rises framed

-- ---- a leg is committed
-- a block of the first change, or of a later one
in_rest : (b : ℕ) (e : ℕ × Change) (es : Changes) → b ≢ e.0 → is_in b (e ∷ es) ≡ is_in b es
in_rest b e es other = ap is_some (at_later b e es other)

not_first : (b : ℕ) (e : ℕ × Change) (es : Changes) → is_in b (e ∷ es) ≡ false → b ≢ e.0
not_first b e es out same = false≢true (sym out ∙ ap is_some (at_first b e es same))

pub kept_others : (cs : Changes) (j : JournalState) (b : ℕ) → is_in b cs ≡ false → at b (changes_kept cs j).frames.frames ≡ at b j.frames.frames
kept_others [] j b out = refl
kept_others (e ∷ es) j b out =
    let other = not_first b e es out in
    kept_others es (change_kept e.0 e.1 j) b (sym (in_rest b e es other) ∙ out) ∙ edit_other e.0 b e.1.edit j.frames.frames other

-- a block of no change keeps a clean frame
kept_later : (cs : Changes) (j : JournalState) (b n : ℕ) → b < n → RisesFrom n cs → IfSome (at b j.frames.frames) IsClean → IfSome (at b (changes_kept cs j).frames.frames) IsClean
kept_later cs j b n less rises clean = subst (λ o. IfSome o IsClean) (sym (kept_others cs j b (ap is_some (none_below b n cs less rises)))) clean

pub kept_clean : (n : ℕ) (cs : Changes) (j : JournalState) → RisesFrom n cs → RisesFrom 0 j.frames.frames → (b : ℕ) → is_in b cs ≡ true → IfSome (at b (changes_kept cs j).frames.frames) IsClean
kept_clean n [] j rises frames b there = absurd (false≢true there)
kept_clean n (e ∷ es) j rises frames b there =
    elim (cases_eq b e.0) [
      | inl same ↦
          kept_later es (change_kept e.0 e.1 j) b (suc e.0) (omega (arith, same)) rises.1
          (subst (λ k. IfSome (at k (frames_with_edit e.0 e.1.edit j.frames.frames)) IsClean) (sym same) (edit_clean e.0 e.1.edit j.frames.frames frames))
      | inr other ↦ kept_clean (suc e.0) es (change_kept e.0 e.1 j) rises.1 (edit_rises e.0 e.1.edit j.frames.frames frames) b (sym (in_rest b e es other) ∙ there)
    ]

-- later changes show the same
same_after : (b : ℕ) (o : Option (List ℕ)) (fs : FramedBlocks) (cs : Changes) → RisesFrom (suc b) cs → changes_over (frames_with_edit b o fs) cs ≡ changes_over fs cs
same_after b o fs cs rises = alike_above (frames_with_edit b o fs) fs b (λ k other. edit_other b k o fs other) (suc b) cs (omega arith) rises

pub kept_lists : (n : ℕ) (cs : Changes) (j : JournalState) → RisesFrom n cs → (changes_kept cs j).lists ≡ marks_kept (changes_over j.frames.frames cs) j.lists
kept_lists n [] j rises = refl
kept_lists n (e ∷ es) j rises =
    let next : JournalState = change_kept e.0 e.1 j in
    kept_lists (suc e.0) es next rises.1 ∙ ap (λ cs. marks_kept cs next.lists) (same_after e.0 e.1.edit j.frames.frames es rises.1)

pub kept_contents : (n : ℕ) (cs : Changes) (j : JournalState) → RisesFrom n cs → AreFramed j.frames.frames cs
    → contents_of (changes_kept cs j).frames ≡ edits_kept (changes_over j.frames.frames cs) (contents_of j.frames)
kept_contents n [] j rises framed = refl
kept_contents n (e ∷ es) j rises framed =
    let next : JournalState = change_kept e.0 e.1 j in
    kept_contents (suc e.0) es next rises.1 (framed_after e.0 e.1.edit j.frames.frames es rises.1 framed.1)
    ∙ ap (λ cs. edits_kept cs (contents_of next.frames)) (same_after e.0 e.1.edit j.frames.frames es rises.1)
    ∙ ap (λ (c : List (ℕ × List ℕ)). edits_kept (changes_over j.frames.frames es) (record (contents_of j.frames) { committed = c })) (edit_committed e.0 e.1.edit j.frames.frames framed.0)

pub kept_rest : (cs : Changes) (j : JournalState) → changes_kept cs j ≡ record j { lists = (changes_kept cs j).lists; frames = (changes_kept cs j).frames }
kept_rest [] j = refl
kept_rest (e ∷ es) j = kept_rest es (change_kept e.0 e.1 j)

-- ---- chunks that contents have of their items
-- later changes have them still where the item of an earlier block changes
chunks_beside : (fs : FramedBlocks) (b : ℕ) (set : List ℕ) (cil : List (ℕ × List ℕ)) (n : ℕ) (cs : Changes) → b < n → RisesFrom n cs → HaveChunks cil (changes_over fs cs) → HaveChunks (put b set cil) (changes_over fs cs)
chunks_beside fs b set cil n [] less rises have = tt
chunks_beside fs b set cil n (e ∷ es) less rises have =
    let shown : Change = shown_over fs e.0 e.1 in (
      subst (λ o. IfSome shown.edit (λ content. IsWithin (length content) (joined_marks o shown))) (sym (at_put_other b e.0 set cil (λ is. omega (arith, is, less, rises.0)))) have.0,
      chunks_beside fs b set cil (suc e.0) es (omega (arith, less, rises.0)) rises.1 have.1,
    )

pub chunks_after : (b : ℕ) (o : Option (List ℕ)) (fs : FramedBlocks) (set : List ℕ) (cil : List (ℕ × List ℕ)) (cs : Changes) → RisesFrom (suc b) cs → HaveChunks cil (changes_over fs cs)
    → HaveChunks (put b set cil) (changes_over (frames_with_edit b o fs) cs)
chunks_after b o fs set cil cs rises have = subst (HaveChunks (put b set cil)) (sym (same_after b o fs cs rises)) (chunks_beside fs b set cil (suc b) cs (omega arith) rises have)

-- ---- a leg is given up
pub lost_others : (cs : Changes) (holds : List ℕ) (f : Bufs) (b : ℕ) → is_in b cs ≡ false → at b (changes_lost cs holds f).frames ≡ at b f.frames
lost_others [] holds f b out = refl
lost_others (e ∷ es) holds f b out =
    let other = not_first b e es out in
    lost_others es holds (change_lost holds e.0 f) b (sym (in_rest b e es other) ∙ out) ∙ changed_other undone e.0 b (at e.0 f.frames) f.frames other

-- a clean frame stays clean
undone_clean : (k b : ℕ) (fs : FramedBlocks) → IfSome (at b fs) IsClean → IfSome (at b (changed_in undone k fs)) IsClean
undone_clean k b fs clean =
    elim (cases_eq b k) [
      | inl same ↦ subst (λ x. IfSome (at x (changed_in undone k fs)) IsClean) (sym same) (changed_clean undone (λ f. refl) k (at k fs) fs refl)
      | inr other ↦ subst (λ o. IfSome o IsClean) (sym (changed_other undone k b (at k fs) fs other)) clean
    ]

lost_still : (cs : Changes) (holds : List ℕ) (f : Bufs) (b : ℕ) → IfSome (at b f.frames) IsClean → IfSome (at b (changes_lost cs holds f).frames) IsClean
lost_still [] holds f b clean = clean
lost_still (e ∷ es) holds f b clean = lost_still es holds (change_lost holds e.0 f) b (undone_clean e.0 b f.frames clean)

pub lost_clean : (cs : Changes) (holds : List ℕ) (f : Bufs) (b : ℕ) → is_in b cs ≡ true → IfSome (at b (changes_lost cs holds f).frames) IsClean
lost_clean [] holds f b there = absurd (false≢true there)
lost_clean (e ∷ es) holds f b there =
    elim (cases_eq b e.0) [
      | inl same ↦
          lost_still es holds (change_lost holds e.0 f) b
          (subst (λ k. IfSome (at k (changed_in undone e.0 f.frames)) IsClean) (sym same) (changed_clean undone (λ x. refl) e.0 (at e.0 f.frames) f.frames refl))
      | inr other ↦ lost_clean es holds (change_lost holds e.0 f) b (sym (in_rest b e es other) ∙ there)
    ]

pub lost_contents : (cs : Changes) (leg : Leg) (f : Bufs) → RisesFrom 0 f.frames → contents_of (changes_lost cs leg.holds f) ≡ fresh_lost cs leg (contents_of f)
lost_contents [] leg f rises = refl
lost_contents (e ∷ es) leg f rises =
    lost_contents es leg (change_lost leg.holds e.0 f) (changed_rises undone e.0 (at e.0 f.frames) f.frames rises)
    ∙ ap (λ (c : List (ℕ × List ℕ)). fresh_lost es leg (record { committed = c; fresh = lost_with leg.holds e.0 f.fresh; idle = f.idle })) (undone_committed e.0 f.frames rises)

-- first lost frames go, then each change is given up
module _ (leg : Leg) (f m n : Bufs) (rises : RisesFrom 0 f.frames) (less : m ≡ bufs_saved_by (is_saved leg) f) (is : n ≡ changes_lost leg.changes leg.holds m) where
  pub given_contents : contents_of n ≡ leg_lost leg (contents_of f)
  given_contents =
      ap contents_of is ∙ lost_contents leg.changes leg m (subst (λ (b : Bufs). RisesFrom 0 b.frames) (sym less) (rises_filter 0 (λ e. is_saved leg e.0) f.frames rises))
      ∙ ap (λ (b : Bufs). fresh_lost leg.changes leg (contents_of b)) less ∙ ap (fresh_lost leg.changes leg) (saved_contents (is_saved leg) f)

  pub given_others : (b : ℕ) → is_in b leg.changes ≡ false → at b n.frames ≡ at b f.frames
  given_others b out =
      ap (λ (x : Bufs). at b x.frames) is ∙ lost_others leg.changes leg.holds m b out ∙ ap (λ (x : Bufs). at b x.frames) less
      ∙ at_filter_kept b (λ e. is_saved leg e.0) f.frames (λ v. ap (λ there. not (there && has leg.holds b)) out)

  pub given_clean : (b : ℕ) → is_in b leg.changes ≡ true → IfSome (at b n.frames) IsClean
  given_clean b there = subst (λ (x : Bufs). IfSome (at b x.frames) IsClean) (sym is) (lost_clean leg.changes leg.holds m b there)

-- ---- a block is written in place
pub logged_stays : {T E : Type 0} → (r : Result T E) (k first : ℕ) (bytes : List ℕ) (old new : Bufs) → RisesFrom 0 old.frames → OnOk r (new ≡ record old { frames = changed_in (logged first bytes) k old.frames })
    → OnErr r (new ≡ old) → committed_of new.frames ≡ committed_of old.frames
logged_stays (Ok x) k first bytes old new rises ok err = ap (λ (b : Bufs). committed_of b.frames) ok ∙ logged_committed k first bytes old.frames rises
logged_stays (Err e) k first bytes old new rises ok err = ap (λ (b : Bufs). committed_of b.frames) err

-- nothing but the lists and the frames changes
pub rest_kept : (cs : Changes) (j new : JournalState) → new ≡ changes_kept cs j → new ≡ record j { lists = new.lists; frames = new.frames }
rest_kept cs j new is = subst (λ (n : JournalState). n ≡ record j { lists = n.lists; frames = n.frames }) (sym is) (kept_rest cs j)

-- ---- what a leg loses, by what it shows over frames
filter_same : {A : Type 0} (p q : A → Bool) (xs : List A) → ((x : A) → p x ≡ q x) → filter p xs ≡ filter q xs
filter_same p q [] same = refl
filter_same p q (x ∷ xs) same = ap (λ ys. cond (p x) (x ∷ ys) ys) (filter_same p q xs same) ∙ ap (λ b. cond b (x ∷ filter q xs) (filter q xs)) (same x)

fresh_over : (fs : FramedBlocks) (cs : Changes) (leg : Leg) (fresh : List ℕ) → with_lost (changes_over fs cs) (leg_over fs leg) fresh ≡ with_lost cs leg fresh
fresh_over fs [] leg fresh = refl
fresh_over fs (e ∷ es) leg fresh = fresh_over fs es leg (lost_with leg.holds e.0 fresh)

saved_over : (fs : FramedBlocks) (leg : Leg) (b : ℕ) → is_saved (leg_over fs leg) b ≡ is_saved leg b
saved_over fs leg b = ap (λ there. not (there && has leg.holds b)) (changed_over fs b leg)

pub lost_over : (fs : FramedBlocks) (leg : Leg) (f : Frames) → leg_lost (leg_over fs leg) f ≡ leg_lost leg f
lost_over fs leg f =
    ap (λ (c : List (ℕ × List ℕ)). fresh_lost (changes_over fs leg.changes) (leg_over fs leg) (record f { committed = c }))
    (filter_same (λ e. is_saved (leg_over fs leg) e.0) (λ e. is_saved leg e.0) f.committed (λ e. saved_over fs leg e.0))
    ∙ ap (λ fresh. record { committed = filter (λ e. is_saved leg e.0) f.committed; fresh = fresh; idle = f.idle }) (fresh_over fs leg.changes leg f.fresh)
