-- Settling one block, where each other block is busy.
use Rattle.std.proofs.Common.{◌≡◌, ◌≢◌, ◌∙◌, ◌≤◌, ◌<◌, ◌∷◌, ◌⊎◌, Bool, List, None, Option, Some, [], ap, arith, cond, false, inl, inr, length, not, refl, suc, sym, true, zero, ℕ, filter, take}
use Rattle.std.proofs.lemmas.Bool.{cases_eq, eq-eqb, ne_eqb}
use Rattle.std.specs.Prelude.{option_map}
use Rattle.xt_base.proofs.MapLemmas.{at_first, at_later, without_first, without_later}
use Rattle.xt_base.proofs.RisingLemmas.{each_map, filter_drop, filter_pass, rises_above}
use Rattle.xt_base.specs.Maps.{at, without, without_member}
use Rattle.xt_base.specs.Settle.{rested}
use Rattle.xt_base.specs.Sound.{Each, RisesFrom}
use Rattle.xt_frames.proofs.ContentLemmas.{at_committed, committed_rise}
use Rattle.xt_frames.proofs.EntryLemmas.{each_unchanged}
use Rattle.xt_frames.specs.Busy.{committed_of}
use Rattle.xt_frames.specs.Contents.{Bufs, contents_of}
use Rattle.xt_frames.specs.Kept.{Framed}
use Rattle.xt_frames.specs.Settling.{AreOthersBusy, bufs_settled_by, entry_of, is_other, leaving_contents, rest_of}

module _ {A : Type 0} where
  filter_all : (p : A → Bool) (xs : List A) → Each (λ x. p x ≡ true) xs → filter p xs ≡ xs
  filter_all p [] all = refl
  filter_all p (x ∷ xs) all = filter_pass p x xs all.0 ∙ ap (λ zs. x ∷ zs) (filter_all p xs all.1)

  filter_none : (p : A → Bool) (xs : List A) → Each (λ x. p x ≡ false) xs → filter p xs ≡ []
  filter_none p [] all = refl
  filter_none p (x ∷ xs) all = filter_drop p x xs all.0 ∙ filter_none p xs all.1

  filter_same : (p q : A → Bool) (xs : List A) → Each (λ x. p x ≡ q x) xs → filter p xs ≡ filter q xs
  filter_same p q [] all = refl
  filter_same p q (x ∷ xs) all =
      ap (λ ys. cond (p x) (x ∷ ys) ys) (filter_same p q xs all.1) ∙ ap (λ b. cond b (x ∷ filter q xs) (filter q xs)) all.0

take_short : (n : ℕ) (xs : List (ℕ × List ℕ)) → length xs ≤ n → take n xs ≡ xs
take_short zero [] le = refl
take_short (suc n) [] le = refl
take_short zero (x ∷ xs) le = absurd (omega arith)
take_short (suc n) (x ∷ xs) le = ap (λ ys. x ∷ ys) (take_short n xs (omega arith))

module _ {V : Type 0} (k : ℕ) where
  all_others : (n : ℕ) (es : List (ℕ × V)) → k < n → Each (λ e. n ≤ e.0) es → filter (λ e. is_other k e.0) es ≡ es
  all_others n es less all =
      filter_all (λ e. is_other k e.0) es (each_map (λ e. n ≤ e.0) (λ e. is_other k e.0 ≡ true) es (λ e le. ap not (ne_eqb e.0 k (λ same. omega (arith, same, less, le)))) all)

  -- the entries of the others
  pub others_are : (n : ℕ) (es : List (ℕ × V)) → RisesFrom n es → filter (λ e. is_other k e.0) es ≡ without k es
  others_are n [] rises = refl
  others_are n (e ∷ es) rises =
      elim (cases_eq k e.0) [
        | inl same ↦
            filter_drop (λ x. is_other k x.0) e es (ap not (eq-eqb e.0 k (sym same)))
            ∙ all_others (suc e.0) es (omega (arith, same)) (rises_above (suc e.0) es rises.1)
            ∙ sym (without_first k e es same)
        | inr other ↦
            filter_pass (λ x. is_other k x.0) e es (ap not (ne_eqb e.0 k (λ s. other (sym s))))
            ∙ ap (λ ys. e ∷ ys) (others_are (suc e.0) es rises.1)
            ∙ sym (without_later k e es other)
      ]

module _ (k : ℕ) where
  -- what is there of a key that is not the first
  none_below : (n : ℕ) (es : List (ℕ × List ℕ)) → k < n → Each (λ e. n ≤ e.0) es → filter (λ e. not (is_other k e.0)) es ≡ []
  none_below n [] less all = refl
  none_below n (e ∷ es) less all =
      filter_drop (λ x. not (is_other k x.0)) e es (ap (λ b. not (not b)) (ne_eqb e.0 k (λ same. omega (arith, same, less, all.0)))) ∙ none_below n es less all.1

  -- the content of the block
  pub leaving_is : (n : ℕ) (es : List (ℕ × List ℕ)) → RisesFrom n es → filter (λ e. not (is_other k e.0)) es ≡ entry_of k (at k es)
  leaving_is n [] rises = refl
  leaving_is n (e ∷ es) rises =
      elim (cases_eq k e.0) [
        | inl same ↦
            filter_pass (λ x. not (is_other k x.0)) e es (ap (λ b. not (not b)) (eq-eqb e.0 k (sym same)))
            ∙ ap (λ ys. e ∷ ys) (none_below (suc e.0) es (omega (arith, same)) (rises_above (suc e.0) es rises.1))
            ∙ ap (λ key. (key, e.1) ∷ []) (sym same)
            ∙ sym (ap (entry_of k) (at_first k e es same))
        | inr other ↦
            filter_drop (λ x. not (is_other k x.0)) e es (ap (λ b. not (not b)) (ne_eqb e.0 k (λ s. other (sym s))))
            ∙ leaving_is (suc e.0) es rises.1
            ∙ sym (ap (entry_of k) (at_later k e es other))
      ]

  -- what is left without the block
  module _ (old : Bufs) (rises : RisesFrom 0 old.frames) where
    parts : (is_kept : Bool) (idle : List (ℕ × List ℕ)) → idle ≡ rest_of (is_other k) is_kept (committed_of old.frames) old.idle
        → record { frames = without k old.frames; fresh = without_member k old.fresh; idle = idle } ≡ bufs_settled_by (is_other k) is_kept old
    parts is_kept idle is =
        ap (λ (c : List (ℕ × Framed)). record { frames = c; fresh = without_member k old.fresh; idle = idle }) (sym (others_are k 0 old.frames rises))
        ∙ ap (λ (i : List (ℕ × List ℕ)). record { frames = filter (λ e. is_other k e.0) old.frames; fresh = without_member k old.fresh; idle = i }) is

    leaving_of : (o : Option Framed) → o ≡ at k old.frames → entry_of k (option_map (λ (f : Framed). f.committed) o) ≡ leaving_contents (is_other k) (committed_of old.frames)
    leaving_of o is =
        ap (λ x. entry_of k (option_map (λ (f : Framed). f.committed) x)) is ∙ ap (entry_of k) (sym (at_committed k old.frames))
        ∙ sym (leaving_is 0 (committed_of old.frames) (committed_rise 0 old.frames rises))

    -- there was no frame
    pub settled_none : (is_kept : Bool) → None ≡ at k old.frames → length old.idle ≤ 64
        → record { frames = without k old.frames; fresh = without_member k old.fresh; idle = old.idle } ≡ bufs_settled_by (is_other k) is_kept old
    settled_none false none le = parts false old.idle refl
    settled_none true none le = parts true old.idle (sym (take_short 64 old.idle le) ∙ ap (λ more. rested more old.idle) (leaving_of None none))

    -- there was one, whose content is not kept
    pub settled_lost : record { frames = without k old.frames; fresh = without_member k old.fresh; idle = old.idle } ≡ bufs_settled_by (is_other k) false old
    settled_lost = parts false old.idle refl

    -- there was one, whose content is kept
    pub settled_kept : (frame : Framed) → Some frame ≡ at k old.frames
        → record { frames = without k old.frames; fresh = without_member k old.fresh; idle = take 64 ((k, frame.committed) ∷ old.idle) } ≡ bufs_settled_by (is_other k) true old
    settled_kept frame some = parts true (take 64 ((k, frame.committed) ∷ old.idle)) (ap (λ more. rested more old.idle) (leaving_of (Some frame) some))

module _ (busy : ℕ → Bool) (k : ℕ) (f : Bufs) (others : AreOthersBusy busy k (contents_of f)) where
  -- each frame is of the block, or of a busy one
  framed : Each (λ e. (e.0 ≡ k) ⊎ (busy e.0 ≡ true)) f.frames
  framed = each_unchanged (λ _ (x : Framed). x.committed) (λ b. (b ≡ k) ⊎ (busy b ≡ true)) f.frames others.contents

  -- the block is busy too: nothing goes
  busy_too : true ≡ busy k → (b : ℕ) → (b ≡ k) ⊎ (busy b ≡ true) → busy b ≡ true
  busy_too stays b (inl same) = ap busy same ∙ sym stays
  busy_too stays b (inr busy_there) = busy_there

  rest_stays : (is_kept : Bool) → true ≡ busy k → length f.idle ≤ 64 → f.idle ≡ rest_of busy is_kept (committed_of f.frames) f.idle
  rest_stays false stays le = refl
  rest_stays true stays le =
      sym (take_short 64 f.idle le)
      ∙ ap (λ more. rested more f.idle) (sym (filter_none (λ e. not (busy e.0)) (committed_of f.frames)
      (each_map (λ e. (e.0 ≡ k) ⊎ (busy e.0 ≡ true)) (λ e. not (busy e.0) ≡ false) (committed_of f.frames) (λ e x. ap not (busy_too stays e.0 x)) others.contents)))

  pub all_stays : (is_kept : Bool) → true ≡ busy k → length f.idle ≤ 64 → f ≡ bufs_settled_by busy is_kept f
  all_stays is_kept stays le =
      ap (λ (c : List (ℕ × Framed)). record f { frames = c }) (sym (filter_all (λ e. busy e.0) f.frames
      (each_map (λ e. (e.0 ≡ k) ⊎ (busy e.0 ≡ true)) (λ e. busy e.0 ≡ true) f.frames (λ e x. busy_too stays e.0 x) framed)))
      ∙ ap (λ (m : List ℕ). record { frames = filter (λ e. busy e.0) f.frames; fresh = m; idle = f.idle }) (sym (filter_all busy f.fresh
      (each_map (λ b. (b ≡ k) ⊎ (busy b ≡ true)) (λ b. busy b ≡ true) f.fresh (λ b x. busy_too stays b x) others.marks)))
      ∙ ap (λ (i : List (ℕ × List ℕ)). record { frames = filter (λ e. busy e.0) f.frames; fresh = filter busy f.fresh; idle = i }) (rest_stays is_kept stays le)

  -- the block is not busy: it goes, and no other
  stays_there : (b : ℕ) → (b ≡ k) ⊎ (busy b ≡ true) → b ≢ k → busy b ≡ true
  stays_there b (inl same) other = absurd (other same)
  stays_there b (inr busy_there) other = busy_there

  as_other : false ≡ busy k → (b : ℕ) → (b ≡ k) ⊎ (busy b ≡ true) → is_other k b ≡ busy b
  as_other leaves b x =
      elim (cases_eq b k) [
        | inl same ↦ ap not (eq-eqb b k same) ∙ leaves ∙ ap busy (sym same)
        | inr other ↦ ap not (ne_eqb b k other) ∙ sym (stays_there b x other)
      ]

  rest_leaves : (is_kept : Bool) → false ≡ busy k → rest_of (is_other k) is_kept (committed_of f.frames) f.idle ≡ rest_of busy is_kept (committed_of f.frames) f.idle
  rest_leaves false leaves = refl
  rest_leaves true leaves =
      ap (λ more. rested more f.idle) (filter_same (λ e. not (is_other k e.0)) (λ e. not (busy e.0)) (committed_of f.frames)
      (each_map (λ e. (e.0 ≡ k) ⊎ (busy e.0 ≡ true)) (λ e. not (is_other k e.0) ≡ not (busy e.0)) (committed_of f.frames) (λ e x. ap not (as_other leaves e.0 x)) others.contents))

  pub one_leaves : (is_kept : Bool) → false ≡ busy k → bufs_settled_by (is_other k) is_kept f ≡ bufs_settled_by busy is_kept f
  one_leaves is_kept leaves =
      ap (λ (c : List (ℕ × Framed)). record (bufs_settled_by (is_other k) is_kept f) { frames = c }) (filter_same (λ e. is_other k e.0) (λ e. busy e.0) f.frames
      (each_map (λ e. (e.0 ≡ k) ⊎ (busy e.0 ≡ true)) (λ e. is_other k e.0 ≡ busy e.0) f.frames (λ e x. as_other leaves e.0 x) framed))
      ∙ ap (λ (m : List ℕ). record { frames = filter (λ e. busy e.0) f.frames; fresh = m; idle = rest_of (is_other k) is_kept (committed_of f.frames) f.idle }) (filter_same (is_other k) busy f.fresh
      (each_map (λ b. (b ≡ k) ⊎ (busy b ≡ true)) (λ b. is_other k b ≡ busy b) f.fresh (λ b x. as_other leaves b x) others.marks))
      ∙ ap (λ (i : List (ℕ × List ℕ)). record { frames = filter (λ e. busy e.0) f.frames; fresh = filter busy f.fresh; idle = i }) (rest_leaves is_kept leaves)
