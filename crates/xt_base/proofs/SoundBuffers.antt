-- The requests on buffers keep a mount sound: read, hold, unhold, relse, join and release, and get and log with their refusals.
use Rattle.std.proofs.Common.{◌≡◌, ◌≢◌, ◌∙◌, ◌⊎◌, ◌-◌, ◌<◌, ◌≤◌, ◌∷◌, Bool, List, None, Option, Some, [], ap, arith, false, inl, inr, refl, sym, true, ℕ}
use Rattle.std.proofs.lemmas.Bool.{and_right, false≢true, leb-false, not-false, not_from_true, or_parts}
use Rattle.std.specs.Prelude.{if◌then◌else◌, is_some, nat_le, nat_lt, not, ◌&&◌, ◌==◌, ◌||◌}
use Rattle.xt_base.proofs.BusyLemmas.{each_own}
use Rattle.xt_base.proofs.KeyLemmas.{each_with_member, each_without_member, rises_keys_filter, rises_keys_with}
use Rattle.xt_base.proofs.LegLemmas.{own_one, owned_there}
use Rattle.xt_base.proofs.OwnerNumbers.{IsGiven}
use Rattle.xt_base.proofs.RisingLemmas.{each_at, each_filter, each_map, each_set_at, each_set_other, each_without}
use Rattle.xt_base.proofs.SoundParts.{IsApart, apart_from, busy_owned, none_else, parts_leg, parts_unowned}
use Rattle.xt_base.proofs.SoundSteps.{left_true, passes_first, sound_either, sound_get, sound_locked, sound_log, sound_owner_busy, sound_owner_content, sound_settling, sound_shut_down, sound_unless}
use Rattle.xt_base.proofs.WrittenLemmas.{free_not_cancelled, own_not_cancelled, written_unowned}
use Rattle.xt_base.specs.Calls.{answered, at_end, first_of, get, get_refusals, gives, hold, is_absent, is_elsewhere, is_fresh, is_held, is_own, join, join_refusals, locked, log, log_refusals, logged_leg, not_fresh, read, read_refusals, release, released, relse, shut_if, unhold, unowned, with_leg, with_owner, without_hold}
use Rattle.xt_base.specs.Legs.{is_dirty, is_stale, own_count}
use Rattle.xt_base.specs.Maps.{at, has, is_in, set_at, with_member, without_member}
use Rattle.xt_base.specs.Settle.{Dropped, settled}
use Rattle.xt_base.specs.Sound.{Each, IsFair, IsSound, IsUnwritten, Owns, RisesFromKeys, is_cancelled}
use Rattle.xt_base.specs.Space.{busy_count, is_busy, is_listed}
use Rattle.xt_base.specs.State.{Leg, State, Transaction}
use Rattle.xt_base.specs.declared.steps.Answer.{Answer}
use Rattle.xt_base.specs.declared.steps.Errno.TheVariants.{Again, Invalid, Io, NoBufs}
use Rattle.xt_base.specs.declared.steps.Owner.{Owner}
use Rattle.xt_base.specs.declared.steps.Owner.TheVariants.{Held, Stale, Trans}
use Rattle.xt_base.specs.declared.steps.Reason.{Reason}
use Rattle.xt_base.specs.declared.steps.Reason.TheVariants.{MetaIoError}
use Rattle.xt_base.specs.declared.steps.Reply.TheVariants.{Free, Kept, Okay, Refused}

-- a mount is shut where this holds
pub sound_shut_if : (dirty : Bool) (reason : Reason) (s : State) → IsSound s → IsSound (shut_if dirty reason s)
sound_shut_if true reason s h = sound_shut_down reason s h
sound_shut_if false reason s h = h

-- ---- get and log, refused or not
-- a get
pub sound_get_call : (t b : ℕ) (s : State) → IsSound s → t ≤ s.last_trans → IsSound (get t b s).state
sound_get_call t b s h below = sound_unless (first_of (get_refusals t b s)) s (gives Okay (locked t b (own_count t (at b s.owners)) s)) h (λ passes. sound_get t b s h below passes)

-- a log request
pub sound_log_call : (t b first : ℕ) (bytes : List ℕ) (s : State) (trans : Transaction) → IsSound s → at t s.transactions ≡ Some trans → IsSound (log t b first bytes s trans).state
sound_log_call t b first bytes s trans h is =
    sound_unless (first_of (log_refusals t b first bytes trans s)) s (gives Okay (not_fresh b (with_leg t trans (logged_leg s.form.size b first bytes s.frames trans.leg) s))) h
    (λ passes. sound_log t b first bytes s trans h is passes)

-- ---- read
room_by : (busy : Bool) (n : ℕ) → (not busy && nat_le 64 n) ≡ false → (busy ≡ true) ⊎ (n < 64)
room_by true n h = inl refl
room_by false n h = inr (leb-false 64 n h)

answered_sound : (t b : ℕ) (leg : Leg) (s : State) (answer : Answer) → IsSound s → t ≤ s.last_trans → is_cancelled (at b s.owners) ≡ false → ((u : ℕ) → Owns s.owners u b → t ≡ u) → (is_busy s b ≡ true) ⊎ (busy_count s < 64) → IsSound (answered t b leg s answer).state
answered_sound t b leg s (Answer.Content content) h below live free room = sound_owner_content t b 0 s h below live free content room
answered_sound t b leg s Answer.None h below live free room = sound_shut_if (is_dirty leg) MetaIoError s h
answered_sound t b leg s Answer.Failed h below live free room = sound_shut_if (is_dirty leg) MetaIoError s h

-- a read, whatever the device answered
pub sound_read : (t b : ℕ) (answer : Answer) (s : State) (trans : Transaction) → IsSound s → t ≤ s.last_trans → IsSound (read t b answer s trans).state
sound_read t b answer s trans h below =
    let own : Bool = at_end (own_count t (at b s.owners)) || (is_own s t b && (is_fresh s b || is_stale b trans.leg)) in
    let full : Bool = not (is_busy s b) && nat_le 64 (busy_count s) in
    sound_unless (first_of (read_refusals t b trans.leg s)) s (if is_absent t b s then answered t b trans.leg s answer else gives Okay (locked t b (own_count t (at b s.owners)) s)) h
    (λ passes.
    let first = passes_first (nat_le s.blocks b) Invalid ((is_some s.shut, Io) ∷ (own, Invalid) ∷ (is_elsewhere s t b, Again) ∷ (full, NoBufs) ∷ []) passes in
    let second = passes_first (is_some s.shut) Io ((own, Invalid) ∷ (is_elsewhere s t b, Again) ∷ (full, NoBufs) ∷ []) first.1 in
    let third = passes_first own Invalid ((is_elsewhere s t b, Again) ∷ (full, NoBufs) ∷ []) second.1 in
    let fourth = passes_first (is_elsewhere s t b) Again ((full, NoBufs) ∷ []) third.1 in
    let fifth = passes_first full NoBufs [] fourth.1 in
    sound_either (is_absent t b s) (answered t b trans.leg s answer) (gives Okay (locked t b (own_count t (at b s.owners)) s))
    (λ absent. answered_sound t b trans.leg s answer h below (free_not_cancelled t (at b s.owners) fourth.0) (none_else t b s.owners fourth.0) (room_by (is_busy s b) (busy_count s) fifth.0))
    (λ there. sound_locked t b (own_count t (at b s.owners)) s h below refl fourth.0 fifth.0))

-- ---- hold marks
-- a transaction's leg with other hold marks, of blocks that it has
pub sound_holds : (t : ℕ) (holds : List ℕ) (s : State) (trans : Transaction) → IsSound s → at t s.transactions ≡ Some trans → RisesFromKeys 0 holds → Each (λ b. Owns s.owners t b) holds
    → IsSound (with_leg t trans (record trans.leg { holds = holds }) s)
sound_holds t holds s trans h is rises own =
    let leg : Leg = record trans.leg { holds = holds } in
    let ts : List (ℕ × Transaction) = set_at t (record trans { leg = leg }) s.transactions in
    let fair : IsFair s.form.ends s.owners (t, trans) = each_at (IsFair s.form.ends s.owners) t trans s.transactions is h.parts.fair in
    record {
      form = h.form;
      log_small = h.log_small;
      numbers = each_set_at (λ e. e.0 ≤ s.last_trans) t (record trans { leg = leg }) s.transactions (each_at (λ e. e.0 ≤ s.last_trans) t trans s.transactions is h.numbers) h.numbers;
      parts =
          parts_leg s.form.ends s.log_bytes s.owners s.transactions s.items h.parts t trans leg is
          (record { unit = fair.unit; rising = fair.rising; covered = fair.covered; owned = fair.owned; holds_rise = rises; holds_owned = own });
      kept = h.kept;
      ready = h.ready;
      legs_left = λ live. each_set_at (λ e. 1 ≤ e.1.legs) t (record trans { leg = leg }) s.transactions (each_at (λ e. 1 ≤ e.1.legs) t trans s.transactions is (h.legs_left live)) (h.legs_left live);
      fresh_owned = λ live.
          each_map (IsUnwritten s.owners s.transactions s.items) (IsUnwritten s.owners ts s.items) s.frames.fresh
          (λ k u. record {
            owned = u.owned;
            unlisted = u.unlisted;
            unchanged =
                each_set_at (λ e. is_in k e.1.leg.changes ≡ false) t (record trans { leg = leg }) s.transactions
                (each_at (λ e. is_in k e.1.leg.changes ≡ false) t trans s.transactions is u.unchanged) u.unchanged;
          })
          (h.fresh_owned live);
      given = h.given;
      written = h.written;
    }

-- a hold
pub sound_hold : (t b : ℕ) (s : State) (trans : Transaction) → IsSound s → at t s.transactions ≡ Some trans → IsSound (hold t b s trans).state
sound_hold t b s trans h is =
    let fair : IsFair s.form.ends s.owners (t, trans) = each_at (IsFair s.form.ends s.owners) t trans s.transactions is h.parts.fair in
    sound_either (not (is_own s t b) || is_stale b trans.leg) (gives (Refused Invalid) s) (gives Okay (with_leg t trans (record trans.leg { holds = with_member b trans.leg.holds }) s)) (λ refused. h)
    (λ passes.
    let own : is_own s t b ≡ true = not-false (is_own s t b) (or_parts (not (is_own s t b)) (is_stale b trans.leg) passes).0 in
    sound_holds t (with_member b trans.leg.holds) s trans h is (rises_keys_with 0 b trans.leg.holds (omega arith) fair.holds_rise)
    (each_with_member (λ q. Owns s.owners t q) b trans.leg.holds own fair.holds_owned))

-- a leg without a hold mark
pub sound_without_hold : (t b : ℕ) (s : State) (trans : Transaction) → IsSound s → at t s.transactions ≡ Some trans → IsSound (with_leg t trans (without_hold b trans.leg) s)
sound_without_hold t b s trans h is =
    let fair : IsFair s.form.ends s.owners (t, trans) = each_at (IsFair s.form.ends s.owners) t trans s.transactions is h.parts.fair in
    sound_holds t (without_member b trans.leg.holds) s trans h is (rises_keys_filter 0 (λ k. not (k == b)) trans.leg.holds fair.holds_rise)
    (each_filter (λ q. Owns s.owners t q) (λ k. not (k == b)) trans.leg.holds fair.holds_owned)

-- an unhold
pub sound_unhold : (t b : ℕ) (s : State) (trans : Transaction) → IsSound s → at t s.transactions ≡ Some trans → IsSound (unhold t b s trans).state
sound_unhold t b s trans h is =
    sound_either (not (is_own s t b) || not (has trans.leg.holds b)) (gives (Refused Invalid) s) (gives Okay (with_leg t trans (without_hold b trans.leg) s)) (λ refused. h)
    (λ passes. sound_without_hold t b s trans h is)

-- ---- a block loses its owner
-- a block loses its owner, where each leg is apart from it
pub sound_unowned : (dropped : Dropped) (b : ℕ) (s : State) → IsSound s → is_cancelled (at b s.owners) ≡ false → Each (IsApart b) s.transactions → IsSound (settled dropped (unowned b s))
sound_unowned dropped b s h live apart =
    let n : State = unowned b s in
    sound_settling dropped n h.form h.log_small h.numbers (parts_unowned s.form.ends s.log_bytes s.owners s.transactions s.items h.parts b apart) h.kept.committed_rises h.kept.fresh_rises h.ready h.legs_left
    (λ live.
    each_map (IsUnwritten s.owners s.transactions s.items) (λ q. is_busy n q ≡ true → IsUnwritten n.owners n.transactions n.items q) s.frames.fresh
    (λ q u busy. record { owned = left_true (is_in q n.owners) (is_listed n.items q) u.unlisted busy; unlisted = u.unlisted; unchanged = u.unchanged }) (h.fresh_owned live))
    (each_without (IsGiven s.last_trans) b s.owners h.given) (λ on. written_unowned s.owners s.frames.committed s.items (h.written on) b h.parts.owners_rise live)

-- no change is of a block that is not among them
each_unlike : {V : Type 0} (b : ℕ) (es : List (ℕ × V)) → is_in b es ≡ false → Each (λ e. e.0 ≢ b) es
each_unlike b es absent = each_map (λ e. is_in e.0 es ≡ true) (λ e. e.0 ≢ b) es (λ e there same. false≢true (sym absent ∙ sym (ap (λ (x : ℕ). is_in x es) same) ∙ there)) (each_own es)

-- what a transaction has is not elsewhere
pub own_here : (there mine : Bool) → mine ≡ true → (there && not mine) ≡ false
own_here there mine own = and_right there (not mine) (not_from_true mine own)

module _ (dropped : Dropped) (t b : ℕ) (s : State) (trans : Transaction) (h : IsSound s) (is : at t s.transactions ≡ Some trans) where
  -- a block that a transaction has, and did not change, is free
  pub sound_freed : is_own s t b ≡ true → is_in b trans.leg.changes ≡ false → IsSound (settled dropped (unowned b (with_leg t trans (without_hold b trans.leg) s)))
  sound_freed own unchanged =
      let fair : IsFair s.form.ends s.owners (t, trans) = each_at (IsFair s.form.ends s.owners) t trans s.transactions is h.parts.fair in
      sound_unowned dropped b (with_leg t trans (without_hold b trans.leg) s) (sound_without_hold t b s trans h is) (own_not_cancelled t (at b s.owners) own)
      (each_set_other (IsApart b) 0 t (record trans { leg = without_hold b trans.leg }) s.transactions h.parts.transactions_rise (
        each_unlike b trans.leg.changes unchanged,
        each_map (λ q. Owns s.owners t q × (q ≢ b)) (λ q. q ≢ b) (without_member b trans.leg.holds) (λ q both. both.1) (each_without_member (λ q. Owns s.owners t q) b trans.leg.holds fair.holds_owned),
      )
      (each_map (IsFair s.form.ends s.owners) (λ e. e.0 ≢ t → IsApart b e) s.transactions
      (λ e other_fair other. apart_from b s.owners e other_fair (λ theirs. other (own_one e.0 t (at b s.owners) theirs own))) h.parts.fair))

  released_sound : (own : Option ℕ) → own_count t (at b s.owners) ≡ own → IsSound (released dropped t b trans s own).state
  released_sound None none = h
  released_sound (Some count) has_it =
      let own : is_own s t b ≡ true = ap is_some has_it in
      let below : t ≤ s.last_trans = each_at (λ e. e.0 ≤ s.last_trans) t trans s.transactions is h.numbers in
      sound_either (nat_lt 0 count) (gives Kept (with_owner b (Trans t (count - 1)) s))
      (if is_in b trans.leg.changes then gives Kept s else gives Free (settled dropped (unowned b (with_leg t trans (without_hold b trans.leg) s))))
      (λ more. sound_owner_busy t b (count - 1) s h below (own_not_cancelled t (at b s.owners) own) (none_else t b s.owners (own_here (is_in b s.owners) (is_own s t b) own)) (busy_owned s.owners s.items b (owned_there t b s.owners own)))
      (λ last.
      sound_either (is_in b trans.leg.changes) (gives Kept s) (gives Free (settled dropped (unowned b (with_leg t trans (without_hold b trans.leg) s)))) (λ changed. h) (λ unchanged. sound_freed own unchanged))

  -- a relse
  pub sound_relse : IsSound (relse dropped t b s trans).state
  sound_relse = released_sound (own_count t (at b s.owners)) refl

-- ---- held blocks
-- no transaction has a held block
pub held_no_trans : (u : ℕ) (o : Option Owner) → is_held o ≡ true → is_some (own_count u o) ≡ true → ⊥
held_no_trans u None held own = false≢true own
held_no_trans u (Some Held) held own = false≢true own
held_no_trans u (Some (Stale n)) held own = false≢true held
held_no_trans u (Some (Trans v count)) held own = false≢true held

held_not_cancelled : (o : Option Owner) → is_held o ≡ true → is_cancelled o ≡ false
held_not_cancelled None held = refl
held_not_cancelled (Some Held) held = refl
held_not_cancelled (Some (Stale n)) held = absurd (false≢true held)
held_not_cancelled (Some (Trans u count)) held = refl

held_there : (o : Option Owner) → is_held o ≡ true → is_some o ≡ true
held_there None held = held
held_there (Some o) held = refl

-- a join
pub sound_join : (t b : ℕ) (s : State) (trans : Transaction) → IsSound s → t ≤ s.last_trans → IsSound (join t b s trans).state
sound_join t b s trans h below =
    sound_unless (first_of (join_refusals b s)) s (gives Okay (with_owner b (Trans t 0) s)) h
    (λ passes.
    let first = passes_first (not (is_held (at b s.owners))) Invalid ((is_some s.shut, Io) ∷ []) passes in
    let held : is_held (at b s.owners) ≡ true = not-false (is_held (at b s.owners)) first.0 in
    sound_owner_busy t b 0 s h below (held_not_cancelled (at b s.owners) held) (λ u own. absurd (held_no_trans u (at b s.owners) held own)) (busy_owned s.owners s.items b (held_there (at b s.owners) held)))

-- a release
pub sound_release : (dropped : Dropped) (b : ℕ) (s : State) → IsSound s → IsSound (release dropped b s).state
sound_release dropped b s h =
    sound_either (is_held (at b s.owners)) (gives Okay (settled dropped (unowned b s))) (gives (Refused Invalid) s)
    (λ held.
    sound_unowned dropped b s h (held_not_cancelled (at b s.owners) held) (each_map (IsFair s.form.ends s.owners) (IsApart b) s.transactions (λ e fair. apart_from b s.owners e fair (λ own. held_no_trans e.0 (at b s.owners) held own)) h.parts.fair))
    (λ other. h)
