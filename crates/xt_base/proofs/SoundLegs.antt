-- The ends of a leg keep a mount sound: inval, cancel and roll.
use Rattle.std.proofs.Common.{◌≡◌, ◌∙◌, ◌⊎◌, ◌+◌, ◌-◌, ◌*◌, ◌≤◌, ◌∷◌, Bool, List, None, Some, [], ap, arith, false, inl, inr, length, refl, subst, suc, sym, true, zero, ℕ}
use Rattle.std.proofs.Math.Nat.{mul-suc}
use Rattle.std.proofs.lemmas.Bool.{and_cases, cases_Bool, eq-eqb, false≢true, ltb-false, ltb-true, ne_eqb, not-false}
use Rattle.std.specs.Prelude.{if◌then◌else◌, is_none, is_some, nat_lt, not, ◌==◌}
use Rattle.xt_base.proofs.KeyLemmas.{rises_keys_filter}
use Rattle.xt_base.proofs.LegLemmas.{rises_with_edits, rises_with_lost}
use Rattle.xt_base.proofs.OwnerNumbers.{given_aborted, given_ended}
use Rattle.xt_base.proofs.RisingLemmas.{each_at, each_filter, each_map, each_put, each_set_at, each_without, rises_filter, rises_put}
use Rattle.xt_base.proofs.SoundParts.{cost_added, granted_less, parts_aborted, parts_given_up, parts_rolled}
use Rattle.xt_base.proofs.SoundSteps.{is_none_not, is_none_some, left_true, listed_parts, not_marked, passes_first, ready_ended, shut_for_some, sound_asks_ckpt, sound_asks_flush, sound_changed, sound_either, sound_settling, sound_unless, unlisted_by}
use Rattle.xt_base.proofs.WrittenLemmas.{written_clean, written_ended}
use Rattle.xt_base.specs.Calls.{Outcome, asks_ckpt, asks_flush, cancel, closed, commit_number, committed_of, first_of, gives, held_of, inval, inval_refusals, invalidated, io_of, is_no_room, is_own, legs_after, not_fresh, roll, shut_down, shut_if, ungranted, with_leg, with_legs}
use Rattle.xt_base.specs.Legs.{aborted, change_of, clean_leg, ended, is_dirty, is_lost, is_stale, with_lost}
use Rattle.xt_base.specs.Maps.{at, is_in, without_member}
use Rattle.xt_base.specs.Settle.{Dropped, settled}
use Rattle.xt_base.specs.Sound.{Each, IsCovered, IsFair, IsSound, IsUnwritten, Owns}
use Rattle.xt_base.specs.Space.{charge, flight_items, is_busy, is_listed, used}
use Rattle.xt_base.specs.State.{Change, Leg, State, Transaction}
use Rattle.xt_base.specs.declared.steps.Errno.TheVariants.{Again, Invalid, NoSpace}
use Rattle.xt_base.specs.declared.steps.Owner.{Owner}
use Rattle.xt_base.specs.declared.steps.Reason.TheVariants.{CorruptIncore}
use Rattle.xt_base.specs.declared.steps.Reply.TheVariants.{Okay, Refused}

-- ---- inval
either_state : (b : Bool) (x y : State) → (b ≡ true → IsSound x) → (b ≡ false → IsSound y) → IsSound (if b then x else y)
either_state true x y hx hy = hx refl
either_state false x y hx hy = hy refl

-- a leg with a block invalidated, which is charged within the unit
pub invalidated_fair : {ends : ℕ} (t b : ℕ) (owners : List (ℕ × Owner)) (trans : Transaction) → IsFair ends owners (t, trans) → Owns owners t b → charge ends (invalidated b trans.leg).changes ≤ trans.unit
    → IsFair ends owners (t, record trans { leg = invalidated b trans.leg })
invalidated_fair t b owners trans fair own room =
    let c : Change = record { edit = None; marks = []; charged = (change_of b trans.leg).charged } in
    record {
      unit = room;
      rising = rises_put 0 b c trans.leg.changes (omega arith) fair.rising;
      covered = each_put IsCovered b c trans.leg.changes (λ k marked. absurd (false≢true marked)) fair.covered;
      owned = each_put (λ e. Owns owners t e.0) b c trans.leg.changes own fair.owned;
      holds_rise = rises_keys_filter 0 (λ k. not (k == b)) trans.leg.holds fair.holds_rise;
      holds_owned = each_filter (λ q. Owns owners t q) (λ k. not (k == b)) trans.leg.holds fair.holds_owned;
    }

-- an invalidation
pub sound_inval : (t b : ℕ) (s : State) (trans : Transaction) → IsSound s → at t s.transactions ≡ Some trans → IsSound (inval t b s trans).state
sound_inval t b s trans h is =
    let over : Bool = nat_lt trans.unit (charge s.form.ends (invalidated b trans.leg).changes) in
    let fair : IsFair s.form.ends s.owners (t, trans) = each_at (IsFair s.form.ends s.owners) t trans s.transactions is h.parts.fair in
    sound_unless (first_of (inval_refusals t b trans s)) s (gives Okay (if is_stale b trans.leg then s else not_fresh b (with_leg t trans (invalidated b trans.leg) s))) h
    (λ passes.
    let first = passes_first (not (is_own s t b)) Invalid ((over, NoSpace) ∷ []) passes in
    let second = passes_first over NoSpace [] first.1 in
    either_state (is_stale b trans.leg) s (not_fresh b (with_leg t trans (invalidated b trans.leg) s)) (λ stale. h)
    (λ new.
    sound_changed t b (record { edit = None; marks = []; charged = (change_of b trans.leg).charged }) (without_member b trans.leg.holds) s trans h is
    (invalidated_fair t b s.owners trans fair (not-false (is_own s t b) first.0) (ltb-false trans.unit (charge s.form.ends (invalidated b trans.leg).changes) second.0))))

-- ---- cancel
no_changes : (cs : List (ℕ × Change)) → (length cs == 0) ≡ true → cs ≡ []
no_changes [] h = refl
no_changes (c ∷ cs) h = absurd (false≢true (sym (ne_eqb (suc (length cs)) 0 (λ e. omega (arith, e))) ∙ h))

-- a clean leg changed nothing
pub clean_changes : (leg : Leg) → is_dirty leg ≡ false → leg.changes ≡ []
clean_changes leg clean = no_changes leg.changes (not-false (length leg.changes == 0) clean)

module _ (dropped : Dropped) (t : ℕ) (s : State) (trans : Transaction) (h : IsSound s) (is : at t s.transactions ≡ Some trans) where
  -- a dirty leg is given up, and the mount shut
  pub sound_dirty_cancel : IsSound (settled dropped (shut_down CorruptIncore (closed t (aborted t trans.leg s))))
  sound_dirty_cancel =
      sound_settling dropped (shut_down CorruptIncore (closed t (aborted t trans.leg s))) h.form h.log_small (each_without (λ e. e.0 ≤ s.last_trans) t s.transactions h.numbers) (parts_aborted s.form.ends s.log_bytes s.owners s.transactions s.items h.parts t trans is)
      (rises_filter 0 (λ e. not (is_lost trans.leg e.0)) s.frames.committed h.kept.committed_rises) (rises_with_lost trans.leg.changes trans.leg s.frames.fresh h.kept.fresh_rises) h.ready
      (λ live. absurd (shut_for_some CorruptIncore s.shut live)) (λ live. absurd (shut_for_some CorruptIncore s.shut live)) (given_aborted s.last_trans t trans.leg s.owners h.given)
      (λ live. absurd (shut_for_some CorruptIncore s.shut live))

  -- a clean leg is given up
  pub sound_clean_cancel : trans.leg.changes ≡ [] → IsSound (settled dropped (closed t (aborted t trans.leg s)))
  sound_clean_cancel clean =
      let n : State = closed t (aborted t trans.leg s) in
      let same : s.frames.fresh ≡ n.frames.fresh = sym (ap (λ (cs : List (ℕ × Change)). with_lost cs trans.leg s.frames.fresh) clean) in
      sound_settling dropped n h.form h.log_small (each_without (λ e. e.0 ≤ s.last_trans) t s.transactions h.numbers) (parts_aborted s.form.ends s.log_bytes s.owners s.transactions s.items h.parts t trans is)
      (rises_filter 0 (λ e. not (is_lost trans.leg e.0)) s.frames.committed h.kept.committed_rises) (rises_with_lost trans.leg.changes trans.leg s.frames.fresh h.kept.fresh_rises) h.ready
      (λ live. each_without (λ e. 1 ≤ e.1.legs) t s.transactions (h.legs_left live))
      (λ live.
      subst (Each (λ b. is_busy n b ≡ true → IsUnwritten n.owners n.transactions n.items b)) same
      (each_map (IsUnwritten s.owners s.transactions s.items) (λ b. is_busy n b ≡ true → IsUnwritten n.owners n.transactions n.items b) s.frames.fresh
      (λ b u busy. record {
        owned = left_true (is_in b n.owners) (is_listed n.items b) u.unlisted busy;
        unlisted = u.unlisted;
        unchanged = each_without (λ e. is_in b e.1.leg.changes ≡ false) t s.transactions u.unchanged;
      })
      (h.fresh_owned live)))
      (given_aborted s.last_trans t trans.leg s.owners h.given)
      (λ live. written_clean s.owners s.frames.committed s.items (h.written live) t trans h.parts.owners_rise (each_at (IsFair s.form.ends s.owners) t trans s.transactions is h.parts.fair) clean)

  cancel_sound : (dirty : Bool) → is_dirty trans.leg ≡ dirty → IsSound (settled dropped (shut_if dirty CorruptIncore (closed t (aborted t trans.leg s))))
  cancel_sound true has_changes = sound_dirty_cancel
  cancel_sound false clean = sound_clean_cancel (clean_changes trans.leg clean)

  -- a cancel
  pub sound_cancel : IsSound (cancel dropped t s trans).state
  sound_cancel = cancel_sound (is_dirty trans.leg) refl

-- ---- roll
unit_less : (unit legs : ℕ) → 1 ≤ legs → unit * (legs - 1) + unit ≡ unit * legs
unit_less unit zero h = absurd (omega (arith, h))
unit_less unit (suc n) h =
    let less : suc n - 1 ≡ n = omega arith in
    ap (λ (x : ℕ). unit * x + unit) less ∙ sym (mul-suc unit n)

-- what a grant is after a roll: one unit less, or one new unit
unit_after : (unit legs : ℕ) → 1 ≤ legs → (unit * legs_after legs + unit ≡ unit * legs) ⊎ ((legs ≡ 1) × (unit * legs_after legs ≡ unit))
unit_after unit legs h =
    elim (cases_Bool (nat_lt 1 legs)) [
      | inl more ↦ inl (ap (λ b. unit * (if b then legs - 1 else 1) + unit) more ∙ unit_less unit legs h)
      | inr one ↦
          let last : legs ≡ 1 = let below = ltb-false 1 legs one in omega (arith, below, h) in
          let single : unit * 1 ≡ unit = omega arith in
          inr (last, ap (λ b. unit * (if b then legs - 1 else 1)) one ∙ single)
    ]

legs_some : (legs : ℕ) → 1 ≤ legs_after legs
legs_some legs =
    elim (cases_Bool (nat_lt 1 legs)) [
      | inl more ↦
          let after : legs_after legs ≡ legs - 1 = ap (λ b. if b then legs - 1 else 1) more in
          omega (arith, after, ltb-true 1 legs more)
      | inr one ↦
          let after : legs_after legs ≡ 1 = ap (λ b. if b then legs - 1 else 1) one in
          omega (arith, after)
    ]

module _ (dropped : Dropped) (t : ℕ) (s : State) (trans : Transaction) (h : IsSound s) (is : at t s.transactions ≡ Some trans) where
  -- a leg is given up, on a shut mount, and its transaction stays
  pub sound_given_up : is_some s.shut ≡ true → IsSound (settled dropped (with_legs t 0 trans (aborted t trans.leg s)))
  sound_given_up shut =
      sound_settling dropped (with_legs t 0 trans (aborted t trans.leg s)) h.form h.log_small (each_set_at (λ e. e.0 ≤ s.last_trans) t (record trans { legs = 0; leg = clean_leg }) s.transactions (each_at (λ e. e.0 ≤ s.last_trans) t trans s.transactions is h.numbers) h.numbers) (parts_given_up s.form.ends s.log_bytes s.owners s.transactions s.items h.parts t trans is)
      (rises_filter 0 (λ e. not (is_lost trans.leg e.0)) s.frames.committed h.kept.committed_rises) (rises_with_lost trans.leg.changes trans.leg s.frames.fresh h.kept.fresh_rises) h.ready
      (λ live. absurd (is_none_some s.shut live shut)) (λ live. absurd (is_none_some s.shut live shut)) (given_aborted s.last_trans t trans.leg s.owners h.given) (λ live. absurd (is_none_some s.shut live shut))

  -- the log has room for what is granted after a roll
  room_after : is_none s.shut ≡ true → is_no_room t trans s ≡ false → used (ungranted t trans s) + trans.unit * legs_after trans.legs ≤ s.log_bytes
  room_after live room =
      let legs : 1 ≤ trans.legs = each_at (λ e. 1 ≤ e.1.legs) t trans s.transactions is (h.legs_left live) in
      let fair : IsFair s.form.ends s.owners (t, trans) = each_at (IsFair s.form.ends s.owners) t trans s.transactions is h.parts.fair in
      let unit = fair.unit in
      let space = h.parts.space in
      let less = granted_less s.form.ends s.log_bytes s.owners s.transactions s.items h.parts t trans is in
      let added = cost_added s.form.ends s.log_bytes s.owners s.transactions s.items h.parts t trans is in
      elim (unit_after trans.unit trans.legs legs) [
        | inl more ↦ omega (arith, more, unit, space, less, added)
        | inr last ↦
            elim (and_cases (trans.legs == 1) (nat_lt s.log_bytes (used (ungranted t trans s) + trans.unit)) room) [
              | inl other ↦ absurd (false≢true (sym other ∙ eq-eqb trans.legs 1 last.0))
              | inr fits ↦
                  let both = last.1 in
                  omega (arith, both, ltb-false s.log_bytes (used (ungranted t trans s) + trans.unit) fits)
            ]
      ]

  -- a leg is committed, and its transaction goes on
  pub sound_rolled : is_none s.shut ≡ true → is_no_room t trans s ≡ false → IsSound (settled dropped (with_legs t (legs_after trans.legs) trans (ended t trans.leg s)))
  sound_rolled live room =
      let legs : ℕ = legs_after trans.legs in
      let n : State = with_legs t legs trans (ended t trans.leg s) in
      let after = room_after live room in
      sound_settling dropped n h.form h.log_small (each_set_at (λ e. e.0 ≤ s.last_trans) t (record trans { legs = legs; leg = clean_leg }) s.transactions (each_at (λ e. e.0 ≤ s.last_trans) t trans s.transactions is h.numbers) h.numbers)
      (parts_rolled s.form.ends s.log_bytes s.owners s.transactions s.items h.parts t trans is legs (omega (arith, after)))
      (rises_with_edits trans.leg.changes s.frames.committed h.kept.committed_rises) h.kept.fresh_rises (ready_ended s.items trans.leg.changes s.jobs h.ready)
      (λ l. each_set_at (λ e. 1 ≤ e.1.legs) t (record trans { legs = legs; leg = clean_leg }) s.transactions (legs_some trans.legs) (h.legs_left l))
      (λ l.
      each_map (IsUnwritten s.owners s.transactions s.items) (λ b. is_busy n b ≡ true → IsUnwritten n.owners n.transactions n.items b) s.frames.fresh
      (λ b u busy.
      let off = listed_parts (is_in b s.items.cil) (is_in b (flight_items s.items.flight)) (is_in b s.items.ail) u.unlisted in
      let unmarked : is_in b n.items.cil ≡ false = not_marked trans.leg.changes s.items.cil b (each_at (λ e. is_in b e.1.leg.changes ≡ false) t trans s.transactions is u.unchanged) off.0 in
      let unlisted : is_listed n.items b ≡ false = unlisted_by (is_in b n.items.cil) (is_in b (flight_items s.items.flight)) (is_in b s.items.ail) unmarked off.1 off.2 in
      record {
        owned = left_true (is_in b n.owners) (is_listed n.items b) unlisted busy;
        unlisted = unlisted;
        unchanged = each_set_at (λ e. is_in b e.1.leg.changes ≡ false) t (record trans { legs = legs; leg = clean_leg }) s.transactions refl u.unchanged;
      })
      (h.fresh_owned l))
      (given_ended s.last_trans t trans.leg s.items.open_number s.owners h.given)
      (λ l. written_ended s.owners s.frames.committed s.items (h.written l) t trans h.parts.owners_rise (each_at (IsFair s.form.ends s.owners) t trans s.transactions is h.parts.fair) h.parts.flying)

  -- a roll
  pub sound_roll : IsSound (roll dropped t s trans).state
  sound_roll =
      let up : Outcome = gives (io_of (held_of trans.leg.holds)) (settled dropped (with_legs t 0 trans (aborted t trans.leg s))) in
      let on : Outcome = gives (committed_of (commit_number trans.leg s) (held_of trans.leg.holds)) (settled dropped (with_legs t (legs_after trans.legs) trans (ended t trans.leg s))) in
      let wait : Outcome = gives (Refused Again) (asks_flush (asks_ckpt s)) in
      sound_either (not trans.perm) (gives (Refused Invalid) s) (if is_some s.shut then up else (if is_no_room t trans s then wait else on)) (λ refused. h)
      (λ may.
      sound_either (is_some s.shut) up (if is_no_room t trans s then wait else on) (λ shut. sound_given_up shut)
      (λ live. sound_either (is_no_room t trans s) wait on (λ full. sound_asks_flush (asks_ckpt s) (sound_asks_ckpt s h)) (λ room. sound_rolled (is_none_not s.shut live) room)))
