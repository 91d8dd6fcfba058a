-- Contents, marks and legs of blocks of a size.
use Rattle.std.proofs.Common.{◌≡◌, ◌*◌, ◌+◌, ◌++◌, ◌≤◌, ◌∷◌, Bool, List, None, Option, Some, [], arith, drop, false, inl, inr, length, refl, take, true, ℕ}
use Rattle.std.proofs.lemmas.Bool.{and_parts, ltb-true, or_cases}
use Rattle.std.proofs.lemmas.List.{length-append, length-drop, length-replicate, length-take}
use Rattle.std.specs.Prelude.{cond, if◌then◌else◌, is_none, nat_lt, unwrap_or, ◌&&◌, ◌/◌, ◌||◌}
use Rattle.xt_base.proofs.KeyLemmas.{each_has}
use Rattle.xt_base.proofs.RisingLemmas.{each_at, each_map, each_passes, each_put, each_without}
use Rattle.xt_base.specs.Calls.{overwritten, seen}
use Rattle.xt_base.specs.Chunks.{below, chunks_where, marks, touches, union}
use Rattle.xt_base.specs.Legs.{change_of, is_stale, joined_marks, with_edit, with_edits, with_marks}
use Rattle.xt_base.specs.Maps.{at, has, put}
use Rattle.xt_base.specs.Sized.{AreSizedChanges, HasSize, HaveSize, IsSizedChange, IsWithin}
use Rattle.xt_base.specs.Sound.{Each}
use Rattle.xt_base.specs.State.{Change, Frames, Leg}
use Rattle.xt_base.specs.Text.{content_at, zeros}

module _ (size : ℕ) where
  -- ---- contents
  zeros_sized : (b : Bool) (content : List ℕ) → length content ≡ size → length (if b then zeros size else content) ≡ size
  zeros_sized true content h = length-replicate size 0
  zeros_sized false content h = h

  found_sized : (b : ℕ) (contents : List (ℕ × List ℕ)) (o : Option (List ℕ)) → at b contents ≡ o → HaveSize size contents → length (unwrap_or o (zeros size)) ≡ size
  found_sized b contents None is all = length-replicate size 0
  found_sized b contents (Some content) is all = each_at (λ e. length e.1 ≡ size) b content contents is all

  -- what a map of contents has at a block, or zeros
  pub content_sized : (b : ℕ) (contents : List (ℕ × List ℕ)) → HaveSize size contents → length (content_at size b contents) ≡ size
  content_sized b contents all = found_sized b contents (at b contents) refl all

  change_found : (b : ℕ) (changes : List (ℕ × Change)) (o : Option Change) → at b changes ≡ o → AreSizedChanges size changes → IsSizedChange size (unwrap_or o (record { edit = None; marks = []; charged = [] }))
  change_found b changes None is all = record { edit = tt; marks = tt }
  change_found b changes (Some c) is all = each_at (λ e. IsSizedChange size e.1) b c changes is all

  -- what a leg did to a block, if anything
  pub change_sized : (b : ℕ) (leg : Leg) → AreSizedChanges size leg.changes → IsSizedChange size (change_of b leg)
  change_sized b leg all = change_found b leg.changes (at b leg.changes) refl all

  edit_sized : (edit : Option (List ℕ)) (other : List ℕ) → HasSize size edit → length other ≡ size → length (unwrap_or edit other) ≡ size
  edit_sized None other has rest = rest
  edit_sized (Some content) other has rest = has

  -- what a transaction sees of a block
  pub seen_sized : (b : ℕ) (leg : Leg) (frames : Frames) → AreSizedChanges size leg.changes → HaveSize size frames.committed → length (seen size b leg frames) ≡ size
  seen_sized b leg frames changes committed =
      let hidden : Bool = has frames.fresh b || is_stale b leg in
      edit_sized (change_of b leg).edit (if hidden then zeros size else content_at size b frames.committed) (change_sized b leg changes).edit
      (zeros_sized hidden (content_at size b frames.committed) (content_sized b frames.committed committed))

  -- bytes written over a content change no length
  pub overwritten_sized : (first : ℕ) (bytes old : List ℕ) → first + length bytes ≤ size → length old ≡ size → length (overwritten first bytes old) ≡ size
  overwritten_sized first bytes old room is =
      omega (arith, is, length-append (take first old ++ bytes) (drop (first + length bytes) old), length-append (take first old) bytes, length-take first old, length-drop (first + length bytes) old)

  -- ---- marks
  touched_within : (first n k : ℕ) → size ≡ 128 * (size / 128) → first + n ≤ size → touches first n k ≡ true → 128 * k + 128 ≤ size
  touched_within first n k whole room h =
      let front = (and_parts (nat_lt 0 n && nat_lt (128 * k) (first + n)) (nat_lt first (128 * k + 128)) h).0 in
      omega (arith, whole, ltb-true (128 * k) (first + n) (and_parts (nat_lt 0 n) (nat_lt (128 * k) (first + n)) front).1)

  -- bytes within a block mark chunks that it has
  pub marks_within : (first n : ℕ) → size ≡ 128 * (size / 128) → first + n ≤ size → IsWithin size (marks first n)
  unfolding chunks_where
  marks_within first n whole room =
      each_map (λ k. touches first n k ≡ true) (λ k. 128 * k + 128 ≤ size) (marks first n) (λ k h. touched_within first n k whole room h) (each_passes (touches first n) (below 32))

  pub union_within : (a b : List ℕ) → IsWithin size a → IsWithin size b → IsWithin size (union a b)
  unfolding chunks_where
  union_within a b ha hb =
      each_map (λ k. (has a k || has b k) ≡ true) (λ k. 128 * k + 128 ≤ size) (union a b)
      (λ k h. elim (or_cases (has a k) (has b k) h) [ inl l ↦ each_has (λ j. 128 * j + 128 ≤ size) k a l ha | inr r ↦ each_has (λ j. 128 * j + 128 ≤ size) k b r hb ])
      (each_passes (λ k. has a k || has b k) (below 32))

  joined_by : (gone : Bool) (set : List ℕ) → IsWithin size set → IsWithin size (cond gone [] set)
  joined_by true set all = tt
  joined_by false set all = all

  found_within : (b : ℕ) (cil : List (ℕ × List ℕ)) (o : Option (List ℕ)) → at b cil ≡ o → Each (λ e. IsWithin size e.1) cil → IsWithin size (unwrap_or o [])
  found_within b cil None is all = tt
  found_within b cil (Some set) is all = each_at (λ e. IsWithin size e.1) b set cil is all

  -- what stood in an item, and the marks of a change
  pub joined_within : (b : ℕ) (c : Change) (cil : List (ℕ × List ℕ)) → IsSizedChange size c → Each (λ e. IsWithin size e.1) cil → IsWithin size (joined_marks (at b cil) c)
  joined_within b c cil change all =
      let old : List ℕ = unwrap_or (at b cil) [] in
      joined_by (is_none c.edit) (union old c.marks) (union_within old c.marks (found_within b cil (at b cil) refl all) change.marks)

  -- ---- legs
  with_edit_sized : (b : ℕ) (edit : Option (List ℕ)) (contents : List (ℕ × List ℕ)) → HasSize size edit → HaveSize size contents → HaveSize size (with_edit b edit contents)
  with_edit_sized b None contents has all = each_without (λ e. length e.1 ≡ size) b contents all
  with_edit_sized b (Some content) contents has all = each_put (λ e. length e.1 ≡ size) b content contents has all

  -- the committed contents with the edits of a leg
  pub with_edits_sized : (cs : List (ℕ × Change)) (contents : List (ℕ × List ℕ)) → AreSizedChanges size cs → HaveSize size contents → HaveSize size (with_edits cs contents)
  with_edits_sized [] contents changes all = all
  with_edits_sized (c ∷ cs) contents changes all = with_edits_sized cs (with_edit c.0 c.1.edit contents) changes.1 (with_edit_sized c.0 c.1.edit contents changes.0.edit all)

  -- the commit list with the marks of a leg
  pub with_marks_within : (cs : List (ℕ × Change)) (cil : List (ℕ × List ℕ)) → AreSizedChanges size cs → Each (λ e. IsWithin size e.1) cil → Each (λ e. IsWithin size e.1) (with_marks cs cil)
  with_marks_within [] cil changes all = all
  with_marks_within (c ∷ cs) cil changes all =
      with_marks_within cs (put c.0 (joined_marks (at c.0 cil) c.1) cil) changes.1
      (each_put (λ e. IsWithin size e.1) c.0 (joined_marks (at c.0 cil) c.1) cil (joined_within c.0 c.1 cil changes.0 all) all)
