-- Settling contents and fresh marks one by one.
use Rattle.std.proofs.Common.{◌≡◌, ◌∙◌, ◌+◌, ◌<◌, ◌≤◌, ◌-◌, ℕ, zero, suc, List, [], ◌∷◌, ◌++◌, Option, Some, None, Bool, true, false, not, sym, ap, subst, refl, length, arith, take, drop, filter, reverse, if◌then◌else◌, append_assoc, add-one, length-append, length-take, length-drop, append-nil}
use Rattle.std.specs.Prelude.{option_map, slice_get, IfSome}
use Rattle.std.proofs.lemmas.List.{take-take}
use Rattle.std.proofs.lemmas.Grind.{reverse_onto}
use Rattle.std.proofs.Math.Seq.{take-nil}
use Rattle.xt_base.specs.Settle.{rested}
use Rattle.xt_base.proofs.RisingLemmas.{filter_pass, filter_drop}
use Rattle.xt_frames.specs.Busy.{committed_of}
use Rattle.xt_frames.specs.Contents.{Bufs}
use Rattle.xt_frames.specs.Kept.{Framed}
use Rattle.xt_frames.specs.Settling.{frame_block, frames_from, fresh_block, fresh_from, idle_entry, leaving_contents, rest_of}

-- ---- places
-- what stands at a place, and the list round it
place_is : {X : Type 0} (xs : List X) (i : ℕ) (o : Option X) → slice_get xs i ≡ o → IfSome o (λ e. (i < length xs) × (drop i xs ≡ e ∷ drop (suc i) xs) × (take (suc i) xs ≡ take i xs ++ e ∷ []))
place_is [] i None is = tt
place_is [] i (Some e) is = absurd (cc)
place_is (x ∷ xs) zero None is = absurd (cc)
place_is (x ∷ xs) zero (Some e) is = subst (λ o. IfSome o (λ y. (zero < length (x ∷ xs)) × (x ∷ xs ≡ y ∷ xs) × (x ∷ [] ≡ y ∷ []))) is (omega arith, refl, refl)
place_is (x ∷ xs) (suc i) None is = tt
place_is (x ∷ xs) (suc i) (Some e) is =
    let rest = place_is xs i (Some e) is in
    (omega (arith, rest.0), rest.1, ap (λ ys. x ∷ ys) rest.2)

-- a list without the element at a place
take_without : {X : Type 0} (xs : List X) (i : ℕ) (ys : List X) → i ≤ length xs → take i (take i xs ++ ys) ≡ take i xs
take_without [] zero ys le = refl
take_without [] (suc i) ys le = absurd (omega arith)
take_without (x ∷ xs) zero ys le = refl
take_without (x ∷ xs) (suc i) ys le = ap (λ zs. x ∷ zs) (take_without xs i ys (omega arith))

drop_without : {X : Type 0} (xs : List X) (i : ℕ) (ys : List X) → i ≤ length xs → drop i (take i xs ++ ys) ≡ ys
drop_without [] zero ys le = refl
drop_without [] (suc i) ys le = absurd (omega arith)
drop_without (x ∷ xs) zero ys le = refl
drop_without (x ∷ xs) (suc i) ys le = drop_without xs i ys (omega arith)

-- what is cut within a longer list is cut again
take_inner : (m n : ℕ) (xs ys : List (ℕ × List ℕ)) → m ≤ n → take m (xs ++ take n ys) ≡ take m (xs ++ ys)
take_inner m n [] ys le = take-take m n ys le
take_inner zero n (x ∷ xs) ys le = refl
take_inner (suc m) n (x ∷ xs) ys le = ap (λ zs. x ∷ zs) (take_inner m n xs ys (omega arith))

-- one content more in front
rested_more : (e : ℕ × List ℕ) (more idle : List (ℕ × List ℕ)) → rested more (take 64 (e ∷ idle)) ≡ rested (e ∷ more) idle
rested_more e more idle = take_inner 64 64 (reverse more) (e ∷ idle) (omega arith) ∙ ap (take 64) (sym (append_assoc (reverse more) (e ∷ []) idle) ∙ ap (λ xs. xs ++ idle) (sym (reverse_onto more e [])))

-- all of a short list
take_short : (n : ℕ) (xs : List (ℕ × List ℕ)) → length xs ≤ n → take n xs ≡ xs
take_short n [] le = take-nil n
take_short zero (x ∷ xs) le = absurd (omega arith)
take_short (suc n) (x ∷ xs) le = ap (λ ys. x ∷ ys) (take_short n xs (omega arith))

-- none left
drop_past : {X : Type 0} (xs : List X) (i : ℕ) → length xs ≤ i → drop i xs ≡ []
drop_past [] zero le = refl
drop_past [] (suc i) le = refl
drop_past (x ∷ xs) zero le = absurd (omega arith)
drop_past (x ∷ xs) (suc i) le = drop_past xs i (omega arith)

take_past : {X : Type 0} (xs : List X) (i : ℕ) → length xs ≤ i → take i xs ≡ xs
take_past [] zero le = refl
take_past [] (suc i) le = refl
take_past (x ∷ xs) zero le = absurd (omega arith)
take_past (x ∷ xs) (suc i) le = ap (λ ys. x ∷ ys) (take_past xs i (omega arith))

-- a filter in the midst of its list: the element at the place passes
filter_stays : {X : Type 0} (p : X → Bool) (xs : List X) (i : ℕ) (e : X) → drop i xs ≡ e ∷ drop (suc i) xs → take (suc i) xs ≡ take i xs ++ e ∷ [] → p e ≡ true
    → take (i + 1) xs ++ filter p (drop (i + 1) xs) ≡ take i xs ++ filter p (drop i xs)
filter_stays p xs i e cut front passes =
    ap (λ n. take n xs ++ filter p (drop n xs)) (add-one i) ∙ ap (λ ys. ys ++ filter p (drop (suc i) xs)) front ∙ append_assoc (take i xs) (e ∷ []) (filter p (drop (suc i) xs))
    ∙ ap (λ ys. take i xs ++ ys) (sym (ap (filter p) cut ∙ filter_pass p e (drop (suc i) xs) passes))

-- and where it does not, it goes
filter_goes : {X : Type 0} (p : X → Bool) (xs : List X) (i : ℕ) (e : X) → i ≤ length xs → drop i xs ≡ e ∷ drop (suc i) xs → p e ≡ false
    → take i (take i xs ++ drop (i + 1) xs) ++ filter p (drop i (take i xs ++ drop (i + 1) xs)) ≡ take i xs ++ filter p (drop i xs)
filter_goes p xs i e le cut fails =
    ap (λ ys. ys ++ filter p (drop i (take i xs ++ drop (i + 1) xs))) (take_without xs i (drop (i + 1) xs) le)
    ∙ ap (λ ys. take i xs ++ filter p ys) (drop_without xs i (drop (i + 1) xs) le ∙ ap (λ n. drop n xs) (add-one i))
    ∙ ap (λ ys. take i xs ++ ys) (sym (ap (filter p) cut ∙ filter_drop p e (drop (suc i) xs) fails))

-- the idle list, by whether contents are kept
rests_on : (busy : ℕ → Bool) (is_live : Bool) (e : ℕ × List ℕ) (xs idle : List (ℕ × List ℕ)) → busy e.0 ≡ false
    → rest_of busy is_live xs (if is_live then take 64 (e ∷ idle) else idle) ≡ rest_of busy is_live (e ∷ xs) idle
rests_on busy true e xs idle free = rested_more e (leaving_contents busy xs) idle ∙ ap (λ ys. rested ys idle) (sym (filter_pass (λ x. not (busy x.0)) e xs (ap not free)))
rests_on busy false e xs idle free = refl

rests_still : (busy : ℕ → Bool) (is_live : Bool) (e : ℕ × List ℕ) (xs idle : List (ℕ × List ℕ)) → busy e.0 ≡ true → rest_of busy is_live xs idle ≡ rest_of busy is_live (e ∷ xs) idle
rests_still busy true e xs idle here = ap (λ ys. rested ys idle) (sym (filter_drop (λ x. not (busy x.0)) e xs (ap not here)))
rests_still busy false e xs idle here = refl

rests_none : (is_live : Bool) (idle : List (ℕ × List ℕ)) → length idle ≤ 64 → (if is_live then rested [] idle else idle) ≡ idle
rests_none true idle le = take_short 64 idle le
rests_none false idle le = refl

-- ---- places that are past
past_of : {X : Type 0} (xs : List X) (i : ℕ) → slice_get xs i ≡ None → length xs ≤ i
past_of [] i is = omega arith
past_of (x ∷ xs) zero is = absurd (cc)
past_of (x ∷ xs) (suc i) is = omega (arith, past_of xs i is)

-- a list without one element is shorter past the place
fewer_without : {X : Type 0} (xs : List X) (i : ℕ) → i < length xs → length (take i xs ++ drop (i + 1) xs) - i < length xs - i
fewer_without xs i lt = omega (arith, length-append (take i xs) (drop (i + 1) xs), length-take i xs, length-drop (i + 1) xs)

filter_past : {X : Type 0} (p : X → Bool) (xs : List X) (i : ℕ) → length xs ≤ i → take i xs ++ filter p (drop i xs) ≡ xs
filter_past p xs i past = ap (λ ys. take i xs ++ filter p ys) (drop_past xs i past) ∙ append-nil (take i xs) ∙ take_past xs i past

-- ---- frames
abbrev Frame : Type 0
Frame = ℕ × Framed

-- the frame whose block stands at a place
entry_is : (xs : List Frame) (i b : ℕ) (o : Option Frame) → slice_get xs i ≡ o → option_map (λ (e : Frame). e.0) o ≡ Some b → (e : Frame) × (slice_get xs i ≡ Some e) × (e.0 ≡ b)
entry_is xs i b None is block = absurd (cc)
entry_is xs i b (Some e) is block = (e, is, cc)

-- no block, no frame
none_is : (o : Option Frame) → option_map (λ (e : Frame). e.0) o ≡ None → o ≡ None
none_is None is = refl
none_is (Some e) is = absurd (cc)

module _ (index block : ℕ) (now : Bufs) (here : frame_block index now ≡ Some block) where
  pub frame_there : index < length now.frames
  frame_there =
      let e = entry_is now.frames index block (slice_get now.frames index) refl here in
      (place_is now.frames index (Some e.0) e.1).0

  pub frame_stays : (is_kept stays : Bool) → stays ≡ true → (busy : ℕ → Bool) → stays ≡ busy block → frames_from busy is_kept (index + 1) now ≡ frames_from busy is_kept index now
  frame_stays is_kept stays yes_stays busy same =
      let e = entry_is now.frames index block (slice_get now.frames index) refl here in
      let at = place_is now.frames index (Some e.0) e.1 in
      let busy_here : busy e.0.0 ≡ true = ap busy e.2 ∙ sym same ∙ yes_stays in
      ap (λ (c : List Frame). record now { frames = c; idle = rest_of busy is_kept (committed_of (drop (index + 1) now.frames)) now.idle }) (filter_stays (λ x. busy x.0) now.frames index e.0 at.1 at.2 busy_here)
      ∙ ap (λ (i : List (ℕ × List ℕ)). record now { frames = take index now.frames ++ filter (λ x. busy x.0) (drop index now.frames); idle = i })
      (ap (λ n. rest_of busy is_kept (committed_of (drop n now.frames)) now.idle) (add-one index) ∙ rests_still busy is_kept (idle_entry e.0) (committed_of (drop (suc index) now.frames)) now.idle busy_here
      ∙ ap (λ xs. rest_of busy is_kept (committed_of xs) now.idle) (sym at.1))

  -- what is left without the frame at the place
  abbrev pub bufs_without : Bool → Frame → Bufs
  bufs_without is_kept e = record now {
    frames = take index now.frames ++ drop (index + 1) now.frames;
    idle = if is_kept then take 64 (idle_entry e ∷ now.idle) else now.idle;
  }

  new_is : (is_kept : Bool) (new : Bufs) → IfSome (slice_get now.frames index) (λ e. new ≡ bufs_without is_kept e) → (e : Frame) → slice_get now.frames index ≡ Some e → new ≡ bufs_without is_kept e
  new_is is_kept new gone e is = subst (λ o. IfSome o (λ x. new ≡ bufs_without is_kept x)) is gone

  pub frame_goes : (is_kept stays : Bool) (new : Bufs) → IfSome (slice_get now.frames index) (λ e. new ≡ bufs_without is_kept e) → stays ≡ false → (busy : ℕ → Bool) → stays ≡ busy block
      → frames_from busy is_kept index new ≡ frames_from busy is_kept index now
  frame_goes is_kept stays new gone goes busy same =
      let e = entry_is now.frames index block (slice_get now.frames index) refl here in
      let at = place_is now.frames index (Some e.0) e.1 in
      let free : busy e.0.0 ≡ false = ap busy e.2 ∙ sym same ∙ goes in
      let lt : index < length now.frames = at.0 in
      let le : index ≤ length now.frames = omega (arith, lt) in
      let more : List (ℕ × List ℕ) = if is_kept then take 64 (idle_entry e.0 ∷ now.idle) else now.idle in
      ap (frames_from busy is_kept index) (new_is is_kept new gone e.0 e.1)
      ∙ ap (λ (c : List Frame). record now { frames = c; idle = rest_of busy is_kept (committed_of (drop index (take index now.frames ++ drop (index + 1) now.frames))) more })
      (filter_goes (λ x. busy x.0) now.frames index e.0 le at.1 free)
      ∙ ap (λ (i : List (ℕ × List ℕ)). record now { frames = take index now.frames ++ filter (λ x. busy x.0) (drop index now.frames); idle = i })
      (ap (λ xs. rest_of busy is_kept (committed_of xs) more) (drop_without now.frames index (drop (index + 1) now.frames) le ∙ ap (λ n. drop n now.frames) (add-one index))
      ∙ rests_on busy is_kept (idle_entry e.0) (committed_of (drop (suc index) now.frames)) now.idle free ∙ ap (λ xs. rest_of busy is_kept (committed_of xs) now.idle) (sym at.1))

  pub frame_fewer : (is_kept : Bool) (new : Bufs) → IfSome (slice_get now.frames index) (λ e. new ≡ bufs_without is_kept e) → length new.frames - index < length now.frames - index
  frame_fewer is_kept new gone =
      let e = entry_is now.frames index block (slice_get now.frames index) refl here in
      subst (λ (f : Bufs). length f.frames - index < length now.frames - index) (sym (new_is is_kept new gone e.0 e.1)) (fewer_without now.frames index frame_there)

-- ---- fresh marks
module _ (index block : ℕ) (now : Bufs) (here : fresh_block index now ≡ Some block) where
  pub mark_there : index < length now.fresh
  mark_there = (place_is now.fresh index (Some block) here).0

  pub mark_stays : (stays : Bool) → stays ≡ true → (busy : ℕ → Bool) → stays ≡ busy block → fresh_from busy (index + 1) now ≡ fresh_from busy index now
  mark_stays stays yes_stays busy same =
      let at = place_is now.fresh index (Some block) here in
      ap (λ (ks : List ℕ). record now { fresh = ks }) (filter_stays busy now.fresh index block at.1 at.2 (sym same ∙ yes_stays))

  pub mark_goes : (stays : Bool) (new : Bufs) → new ≡ record now { fresh = take index now.fresh ++ drop (index + 1) now.fresh } → stays ≡ false → (busy : ℕ → Bool) → stays ≡ busy block
      → fresh_from busy index new ≡ fresh_from busy index now
  mark_goes stays new gone goes busy same =
      let at = place_is now.fresh index (Some block) here in
      let lt : index < length now.fresh = at.0 in
      let le : index ≤ length now.fresh = omega (arith, lt) in
      ap (fresh_from busy index) gone ∙ ap (λ (ks : List ℕ). record now { fresh = ks }) (filter_goes busy now.fresh index block le at.1 (sym same ∙ goes))

  pub mark_fewer : (new : Bufs) → new ≡ record now { fresh = take index now.fresh ++ drop (index + 1) now.fresh } → length new.fresh - index < length now.fresh - index
  mark_fewer new gone = subst (λ (f : Bufs). length f.fresh - index < length now.fresh - index) (sym gone) (fewer_without now.fresh index mark_there)

-- ---- all of them
-- nothing is left from a place on
pub all_framed : (busy : ℕ → Bool) (is_kept : Bool) (frame : ℕ) (now : Bufs) → frame_block frame now ≡ None → length now.idle ≤ 64 → now ≡ frames_from busy is_kept frame now
all_framed busy is_kept frame now none short =
    let past = past_of now.frames frame (none_is (slice_get now.frames frame) none) in
    ap (λ (c : List Frame). record now { frames = c }) (sym (filter_past (λ e. busy e.0) now.frames frame past))
    ∙ ap (λ (i : List (ℕ × List ℕ)). record now { frames = take frame now.frames ++ filter (λ e. busy e.0) (drop frame now.frames); idle = i })
    (sym (ap (λ xs. rest_of busy is_kept (committed_of xs) now.idle) (drop_past now.frames frame past) ∙ rests_none is_kept now.idle short))

pub all_marked : (busy : ℕ → Bool) (mark : ℕ) (now : Bufs) → fresh_block mark now ≡ None → now ≡ fresh_from busy mark now
all_marked busy mark now unmarked = ap (λ (ks : List ℕ). record now { fresh = ks }) (sym (filter_past busy now.fresh mark (past_of now.fresh mark unmarked)))

pub all_saved : (saved : ℕ → Bool) (frame : ℕ) (now : Bufs) → frame_block frame now ≡ None → now ≡ frames_from saved false frame now
all_saved saved frame now none =
    let past = past_of now.frames frame (none_is (slice_get now.frames frame) none) in
    ap (λ (c : List Frame). record now { frames = c }) (sym (filter_past (λ e. saved e.0) now.frames frame past))
