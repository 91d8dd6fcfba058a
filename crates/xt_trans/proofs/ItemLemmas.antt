-- Entries seen as a leg.
use Rattle.std.proofs.Common.{◌≡◌, ◌∙◌, ◌+◌, ◌<◌, ◌≤◌, ◌∷◌, Bool, List, None, Option, Some, [], ap, arith, cond, false, length, refl, subst, sym, true, ℕ}
use Rattle.std.proofs.lemmas.Bool.{eq-eqb, false≢true, ne_eqb, or_parts}
use Rattle.std.specs.List.{cons_option}
use Rattle.std.specs.Prelude.{if◌then◌else◌, is_none, is_some, not, option_map, unwrap_or, ◌&&◌, ◌==◌, ◌||◌}
use Rattle.xt_base.proofs.RisingLemmas.{each_at, each_put, each_without, filter_pass, rises_put, rises_without}
use Rattle.xt_base.proofs.ViewLemmas.{at_view, has_keys, keys_put, keys_put_none, keys_put_same, keys_without, put_without, view_put, view_put_none, view_put_same, view_without, without_none}
use Rattle.xt_base.specs.Calls.{edited, invalidated, without_hold}
use Rattle.xt_base.specs.Chunks.{union}
use Rattle.xt_base.specs.Legs.{change_of}
use Rattle.xt_base.specs.Maps.{at, has, is_in, put, with_member, without, without_member}
use Rattle.xt_base.specs.Marks.{Marks, marks_of, no_marks}
use Rattle.xt_base.specs.Sound.{Each}
use Rattle.xt_base.specs.State.{Change, Leg}
use Rattle.xt_base.specs.Views.{key_if, viewed}
use Rattle.xt_trans.specs.LegItems.{AreItems, IsFit, IsItem, IsKept, blank, change_if, change_in, change_seen, is_item_dirty, is_item_held, item_at, leg_of, no_change}
use Rattle.xt_trans.specs.declared.item.BufItem.{BufItem}
use Rattle.xt_vectors.specs.Edits.{is_in_place, own_edit}

-- a leg of these changes and holds
abbrev leg : List (ℕ × Change) → List ℕ → Leg
leg cs hs = record { changes = cs; holds = hs }

-- ---- one entry
-- an entry of marks and a change that fit
pub is_item : (i : BufItem) (m : Marks) (c : Change) → marks_of i.marks ≡ m → change_in i ≡ c → IsFit m c → IsItem i
is_item i m c of is fit = subst (λ (n : Marks). IsFit n (change_in i)) (sym of) (subst (IsFit m) (sym is) fit)

-- its change, as its marks say
pub seen_is : (i : BufItem) (m : Marks) (c : Change) → marks_of i.marks ≡ m → change_in i ≡ c → change_if i ≡ change_seen m c
seen_is i m c of is = ap (λ (n : Marks). change_seen n (change_in i)) of ∙ ap (change_seen m) is

-- a blank entry fits
blank_fits : IsItem blank
blank_fits = record { stale = refl; clean = λ h. refl }

item_of : (b : ℕ) (es : List (ℕ × BufItem)) (o : Option BufItem) → at b es ≡ o → AreItems es → IsItem (unwrap_or o blank)
item_of b es None h are = blank_fits
item_of b es (Some i) h are = each_at (λ e. IsItem e.1) b i es h are.fit

-- the entry of a block fits
pub item_fits : (b : ℕ) (es : List (ℕ × BufItem)) → AreItems es → IsItem (item_at b es)
item_fits b es are = item_of b es (at b es) refl are

-- ---- what the leg has of a block
viewed_of : (o : Option BufItem) → viewed change_if o ≡ change_if (unwrap_or o blank)
viewed_of None = refl
viewed_of (Some i) = refl

hold_of : (o : Option BufItem) → key_if is_item_held o ≡ is_item_held (unwrap_or o blank)
hold_of None = refl
hold_of (Some i) = refl

change_of_fit : (b : Bool) (m : Marks) (c : Change) → m.dirty ≡ b → IsFit m c → unwrap_or (change_seen m c) no_change ≡ c
change_of_fit true m c h fit = ap (λ b. unwrap_or (if b then Some c else None) no_change) h
change_of_fit false m c h fit = ap (λ b. unwrap_or (if b then Some c else None) no_change) h ∙ sym (fit.clean h)

-- what stands at a block in the changes is what its entry shows
pub changes_at : (b : ℕ) (es : List (ℕ × BufItem)) → AreItems es → at b (leg_of es).changes ≡ change_if (item_at b es)
changes_at b es are = at_view change_if 0 b es are.rising ∙ viewed_of (at b es)

-- what the leg did to a block is what its entry has
pub change_is : (b : ℕ) (es : List (ℕ × BufItem)) → AreItems es → change_of b (leg_of es) ≡ change_in (item_at b es)
change_is b es are =
    ap (λ o. unwrap_or o no_change) (changes_at b es are)
    ∙ change_of_fit (is_item_dirty (item_at b es)) (marks_of (item_at b es).marks) (change_in (item_at b es)) refl (item_fits b es are)

-- whether a block has the hold mark is what its entry says
pub hold_is : (b : ℕ) (es : List (ℕ × BufItem)) → AreItems es → has (leg_of es).holds b ≡ is_item_held (item_at b es)
hold_is b es are = has_keys is_item_held 0 b es are.rising ∙ hold_of (at b es)

-- ---- entries after a change
-- one that fits and is kept was put over the one that was taken out
pub items_put : (b : ℕ) (i : BufItem) (es : List (ℕ × BufItem)) → IsItem i → IsKept i → AreItems es → AreItems (put b i (without b es))
items_put b i es is keeps are = record {
  rising = rises_put 0 b i (without b es) (omega arith) (rises_without 0 b es are.rising);
  fit = each_put (λ e. IsItem e.1) b i (without b es) is (each_without (λ e. IsItem e.1) b es are.fit);
  kept = each_put (λ e. IsKept e.1) b i (without b es) keeps (each_without (λ e. IsKept e.1) b es are.kept);
}

-- one was taken out
pub items_without : (b : ℕ) (es : List (ℕ × BufItem)) → AreItems es → AreItems (without b es)
items_without b es are = record {
  rising = rises_without 0 b es are.rising;
  fit = each_without (λ e. IsItem e.1) b es are.fit;
  kept = each_without (λ e. IsKept e.1) b es are.kept;
}

-- ---- the leg after a change
leg_is : {cs ds : List (ℕ × Change)} {hs ks : List ℕ} → cs ≡ ds → hs ≡ ks → leg cs hs ≡ leg ds ks
leg_is p q = λ i. record { changes = p i; holds = q i }

module _ (b : ℕ) (i : BufItem) (es : List (ℕ × BufItem)) (are : AreItems es) where
  over : leg_of (put b i (without b es)) ≡ leg_of (put b i es)
  over = ap leg_of (put_without 0 b i es are.rising)

  -- a hold mark more
  pub held_is : marks_of i.marks ≡ record (marks_of (item_at b es).marks) { hold = true } → change_in i ≡ change_in (item_at b es)
      → leg_of (put b i (without b es)) ≡ record (leg_of es) { holds = with_member b (leg_of es).holds }
  held_is of is =
      let m : Marks = record (marks_of (item_at b es).marks) { hold = true } in
      over
      ∙ leg_is (view_put_same change_if 0 b i es are.rising (viewed_of (at b es) ∙ sym (seen_is i m (change_in (item_at b es)) of is)))
      (keys_put is_item_held 0 b i es are.rising (ap (λ (x : Marks). x.hold) of))

  -- a hold mark less
  pub released_is : marks_of i.marks ≡ record (marks_of (item_at b es).marks) { hold = false } → change_in i ≡ change_in (item_at b es)
      → leg_of (put b i (without b es)) ≡ without_hold b (leg_of es)
  released_is of is =
      let m : Marks = record (marks_of (item_at b es).marks) { hold = false } in
      over
      ∙ leg_is (view_put_same change_if 0 b i es are.rising (viewed_of (at b es) ∙ sym (seen_is i m (change_in (item_at b es)) of is)))
      (keys_put_none is_item_held 0 b i es are.rising (ap (λ (x : Marks). x.hold) of))

  -- one more edit
  pub logged_is : (content marked : List ℕ) → marks_of i.marks ≡ record (marks_of (item_at b es).marks) { stale = false; dirty = true }
      → change_in i ≡ record { edit = Some content; marks = union (item_at b es).chunks marked; charged = union (item_at b es).charged marked }
      → leg_of (put b i (without b es)) ≡ edited b content marked (leg_of es)
  logged_is content marked of is =
      let m : Marks = record (marks_of (item_at b es).marks) { stale = false; dirty = true } in
      let more : Change → Change = λ (x : Change). record { edit = Some content; marks = union x.marks marked; charged = union x.charged marked } in
      over
      ∙ leg_is
      (view_put change_if 0 b i (more (change_in (item_at b es))) es are.rising (seen_is i m (more (change_in (item_at b es))) of is)
      ∙ ap (λ (x : Change). put b (more x) (leg_of es).changes) (sym (change_is b es are)))
      (keys_put_same is_item_held 0 b i es are.rising (hold_of (at b es) ∙ sym (ap (λ (x : Marks). x.hold) of)))

  -- one invalidation
  pub invalidated_is : marks_of i.marks ≡ record (marks_of (item_at b es).marks) { hold = false; stale = true; dirty = true }
      → change_in i ≡ record { edit = None; marks = []; charged = (item_at b es).charged }
      → leg_of (put b i (without b es)) ≡ invalidated b (leg_of es)
  invalidated_is of is =
      let m : Marks = record (marks_of (item_at b es).marks) { hold = false; stale = true; dirty = true } in
      let gone : Change → Change = λ (x : Change). record { edit = None; marks = []; charged = x.charged } in
      over
      ∙ leg_is
      (view_put change_if 0 b i (gone (change_in (item_at b es))) es are.rising (seen_is i m (gone (change_in (item_at b es))) of is)
      ∙ ap (λ (x : Change). put b (gone x) (leg_of es).changes) (sym (change_is b es are)))
      (keys_put_none is_item_held 0 b i es are.rising (ap (λ (x : Marks). x.hold) of))

  -- a change was taken from a held block
  pub taken_held_is : marks_of i.marks ≡ record no_marks { hold = true } → is_item_held (item_at b es) ≡ true
      → leg_of (put b i (without b es)) ≡ record (leg_of es) { changes = without b (leg_of es).changes }
  taken_held_is of held =
      over
      ∙ leg_is (view_put_none change_if 0 b i es are.rising (ap (λ (m : Marks). change_seen m (change_in i)) of))
      (keys_put_same is_item_held 0 b i es are.rising (hold_of (at b es) ∙ held ∙ sym (ap (λ (x : Marks). x.hold) of)))

-- a set without a number that it does not have
no_member : (n : ℕ) (ks : List ℕ) → has ks n ≡ false → without_member n ks ≡ ks
no_member n [] h = refl
no_member n (k ∷ ks) h =
    let parts = or_parts (n == k) (has ks n) h in
    let stays : (k == n) ≡ false = ne_eqb k n (λ s. absurd (false≢true (sym parts.0 ∙ eq-eqb n k (sym s)))) in
    filter_pass (λ x. not (x == n)) k ks (ap not stays) ∙ ap (λ x. k ∷ x) (no_member n ks parts.1)

-- a change was taken from another block
pub taken_is : (b : ℕ) (es : List (ℕ × BufItem)) → AreItems es → is_item_held (item_at b es) ≡ false
    → leg_of (without b es) ≡ record (leg_of es) { changes = without b (leg_of es).changes }
taken_is b es are free =
    leg_is (view_without change_if 0 b es are.rising) (keys_without is_item_held 0 b es are.rising ∙ no_member b (leg_of es).holds (hold_is b es are ∙ free))

-- a block that is not changed lost its hold mark
pub dropped_is : (b : ℕ) (es : List (ℕ × BufItem)) → AreItems es → is_item_dirty (item_at b es) ≡ false → leg_of (without b es) ≡ without_hold b (leg_of es)
dropped_is b es are clean =
    leg_is
    (view_without change_if 0 b es are.rising ∙ without_none b (leg_of es).changes (changes_at b es are ∙ ap (λ x. if x then Some (change_in (item_at b es)) else None) clean))
    (keys_without is_item_held 0 b es are.rising)

-- ---- room
length_step : (b d h : Bool) (e : ℕ × BufItem) (cs : List (ℕ × Change)) (ks : List ℕ) → (d || h) ≡ true
    → 1 + length cs + length ks ≤ length (cons_option (option_map (λ (w : Change). (e.0, w)) (if d then Some (change_in e.1) else None)) cs) + length (cons_option (cond h (Some e.0) None) ks)
length_step b true true e cs ks is = omega arith
length_step b true false e cs ks is = omega arith
length_step b false true e cs ks is = omega arith
length_step b false false e cs ks is = absurd (cc)

-- each entry is a change or a hold
pub length_items : (es : List (ℕ × BufItem)) → Each (λ e. IsKept e.1) es → length es ≤ length (leg_of es).changes + length (leg_of es).holds
length_items [] all = omega arith
length_items (e ∷ es) all =
    omega (arith, length_items es all.1, length_step true (is_item_dirty e.1) (is_item_held e.1) e (leg_of es).changes (leg_of es).holds all.0)

absent_blank : (b : ℕ) (es : List (ℕ × BufItem)) (o : Option BufItem) → at b es ≡ o → is_some o ≡ false → item_at b es ≡ blank
absent_blank b es None h no_entry = ap (λ o. unwrap_or o blank) h
absent_blank b es (Some i) h there = absurd (cc)

-- a block without an entry has a blank one
pub item_absent : (b : ℕ) (es : List (ℕ × BufItem)) → is_in b es ≡ false → item_at b es ≡ blank
item_absent b es h = absent_blank b es (at b es) refl h

-- room for a block that is not changed is room for one without an entry
pub room_changed : (b : ℕ) (es : List (ℕ × BufItem)) → AreItems es → (is_in b (leg_of es).changes ≡ false → length (leg_of es).changes + length (leg_of es).holds < 128)
    → is_in b es ≡ false → length es < 128
room_changed b es are room absent =
    let blank_there = item_absent b es absent in
    omega (arith, length_items es are.kept, room (ap is_some (changes_at b es are ∙ ap change_if blank_there)))

-- the same where the block is not held
pub room_held : (b : ℕ) (es : List (ℕ × BufItem)) → AreItems es → (has (leg_of es).holds b ≡ false → length (leg_of es).changes + length (leg_of es).holds < 128)
    → is_in b es ≡ false → length es < 128
room_held b es are room absent =
    let blank_there = item_absent b es absent in
    omega (arith, length_items es are.kept, room (hold_is b es are ∙ ap is_item_held blank_there))

-- a block with bytes of its own has an entry
pub room_own : (b : ℕ) (es : List (ℕ × BufItem)) → is_some (own_edit (item_at b es).edit) ≡ true → is_in b es ≡ false → length es < 128
room_own b es own absent = absurd (false≢true (sym (ap (λ (i : BufItem). is_some (own_edit i.edit)) (item_absent b es absent)) ∙ own))

-- one that is changed in place has one too, and no bytes
pub in_place_is : (o : Option (List ℕ)) → is_in_place o ≡ true → o ≡ Some []
in_place_is None here = absurd (false≢true here)
in_place_is (Some []) here = refl
in_place_is (Some (x ∷ xs)) here = absurd (false≢true here)

pub room_in_place : (b : ℕ) (es : List (ℕ × BufItem)) → is_in_place (item_at b es).edit ≡ true → is_in b es ≡ false → length es < 128
room_in_place b es here absent = absurd (false≢true (sym (ap (λ (i : BufItem). is_in_place i.edit) (item_absent b es absent)) ∙ here))

-- ---- what stays true of the entries
or_true : (b : Bool) → (b || true) ≡ true
or_true true = refl
or_true false = refl

kept_of : (i : BufItem) (m : Marks) → marks_of i.marks ≡ m → (m.dirty || m.hold) ≡ true → IsKept i
kept_of i m of h = ap (λ (x : Marks). x.dirty || x.hold) of ∙ h

module _ (b : ℕ) (i : BufItem) (es : List (ℕ × BufItem)) (are : AreItems es) where
  -- after a hold
  pub items_held : marks_of i.marks ≡ record (marks_of (item_at b es).marks) { hold = true } → change_in i ≡ change_in (item_at b es) → AreItems (put b i (without b es))
  items_held of is =
      let m : Marks = record (marks_of (item_at b es).marks) { hold = true } in
      let fits = item_fits b es are in
      items_put b i es (is_item i m (change_in (item_at b es)) of is (record { stale = fits.stale; clean = fits.clean })) (kept_of i m of (or_true (is_item_dirty (item_at b es)))) are

  -- after the hold mark of a dirty entry was taken away
  pub items_released : marks_of i.marks ≡ record (marks_of (item_at b es).marks) { hold = false } → change_in i ≡ change_in (item_at b es) → is_item_dirty (item_at b es) ≡ true
      → AreItems (put b i (without b es))
  items_released of is dirty =
      let m : Marks = record (marks_of (item_at b es).marks) { hold = false } in
      let fits = item_fits b es are in
      items_put b i es (is_item i m (change_in (item_at b es)) of is (record { stale = fits.stale; clean = fits.clean })) (kept_of i m of (ap (λ x. x || false) dirty)) are

  -- after an edit
  pub items_logged : (content marked : List ℕ) → marks_of i.marks ≡ record (marks_of (item_at b es).marks) { stale = false; dirty = true }
      → change_in i ≡ record { edit = Some content; marks = union (item_at b es).chunks marked; charged = union (item_at b es).charged marked } → AreItems (put b i (without b es))
  items_logged content marked of is =
      let m : Marks = record (marks_of (item_at b es).marks) { stale = false; dirty = true } in
      items_put b i es (is_item i m (record { edit = Some content; marks = union (item_at b es).chunks marked; charged = union (item_at b es).charged marked }) of is (record { stale = refl; clean = λ h. absurd (cc) }))
      (kept_of i m of refl) are

  -- after an invalidation
  pub items_invalidated : marks_of i.marks ≡ record (marks_of (item_at b es).marks) { hold = false; stale = true; dirty = true }
      → change_in i ≡ record { edit = None; marks = []; charged = (item_at b es).charged } → AreItems (put b i (without b es))
  items_invalidated of is =
      let m : Marks = record (marks_of (item_at b es).marks) { hold = false; stale = true; dirty = true } in
      items_put b i es (is_item i m (record { edit = None; marks = []; charged = (item_at b es).charged }) of is (record { stale = refl; clean = λ h. absurd (cc) })) (kept_of i m of refl) are

  -- after the change of a held block was taken
  pub items_left : marks_of i.marks ≡ record no_marks { hold = true } → change_in i ≡ no_change → AreItems (put b i (without b es))
  items_left of is =
      items_put b i es (is_item i (record no_marks { hold = true }) no_change of is (record { stale = refl; clean = λ h. refl })) (kept_of i (record no_marks { hold = true }) of refl) are

-- ---- one block
-- the change of a block with a dirty entry
pub changed_dirty : (b : ℕ) (i : BufItem) (es : List (ℕ × BufItem)) → AreItems es → Some i ≡ at b es → is_item_dirty i ≡ true → Some (change_in i) ≡ at b (leg_of es).changes
changed_dirty b i es are is dirty =
    sym (ap (λ x. if x then Some (change_in i) else None) dirty) ∙ ap (λ o. change_if (unwrap_or o blank)) is ∙ sym (changes_at b es are)

-- a block with a clean entry, or without one
pub changed_clean : (b : ℕ) (o : Option BufItem) (es : List (ℕ × BufItem)) → AreItems es → o ≡ at b es → is_item_dirty (unwrap_or o blank) ≡ false → None ≡ at b (leg_of es).changes
changed_clean b o es are is clean =
    sym (ap (λ x. if x then Some (change_in (unwrap_or o blank)) else None) clean) ∙ ap (λ x. change_if (unwrap_or x blank)) is ∙ sym (changes_at b es are)

-- a dirty entry is stale where it has no edit
pub stale_dirty : (b : ℕ) (i : BufItem) (es : List (ℕ × BufItem)) → AreItems es → Some i ≡ at b es → is_item_dirty i ≡ true → (marks_of i.marks).stale ≡ is_none i.edit
stale_dirty b i es are is dirty =
    let fits : IsItem i = each_at (λ e. IsItem e.1) b i es (sym is) are.fit in
    fits.stale ∙ ap (λ d. d && is_none i.edit) dirty

-- a leg before its first change was taken
pub taken_leg : (old new : Leg) (b : ℕ) (x y : Change) → old.changes ≡ (b, x) ∷ without b old.changes → new ≡ record old { changes = without b old.changes } → x ≡ y
    → old ≡ record new { changes = (b, y) ∷ new.changes }
taken_leg old new b x y first is same =
    leg_is first refl ∙ ap (λ (z : Change). leg ((b, z) ∷ without b old.changes) old.holds) same ∙ sym (ap (λ (n : Leg). record n { changes = (b, y) ∷ n.changes }) is)
