-- Every call keeps blocks and items such that they fit the fields of a text.
use Rattle.std.proofs.Common.{◌≡◌, ◌∙◌, ◌+◌, ◌*◌, ◌^◌, ◌<◌, ◌∷◌, Bool, List, None, Option, Some, [], ap, arith, cond, false, inl, inr, length, refl, subst, sym, true, ℕ}
use Rattle.std.proofs.lemmas.Bool.{false≢true, leb-false}
use Rattle.std.specs.Prelude.{if◌then◌else◌, is_none, is_some, nat_le, nat_lt, not, unwrap_or, ◌&&◌, ◌-◌, ◌==◌, ◌||◌}
use Rattle.xt_base.proofs.KeyLemmas.{is_in_filter_map, is_in_put_cases, is_in_without}
use Rattle.xt_base.proofs.LegLemmas.{keeps_owner_aborted, keeps_owner_after, owned_there}
use Rattle.xt_base.proofs.MapLemmas.{some_same}
use Rattle.xt_base.proofs.RisingLemmas.{each_at, each_in}
use Rattle.xt_base.proofs.SoundSteps.{passes_first}
use Rattle.xt_base.specs.Calls.{Outcome, allocated, alloc_refusals, alone_with, answered, asks_ckpt, asks_flush, at_end, brought, cancel, closed, commit, commit_number, committed_of, first_of, force_to_refusals, freeze_refusals, get, get_refusals, gives, held_of, hold, inval, inval_refusals, invalidated, io_of, is_absent, is_elsewhere, is_flight, is_fresh, is_held, is_in_use, is_no_room, is_own, join, join_refusals, legs_after, locked, log, log_refusals, logged_leg, marked_frozen, not_fresh, read, read_refusals, released, relse, roll, seen, shut_down, shut_if, unhold, unless, unowned, view, waits_for, with_leg, with_legs, with_owner, with_trans, without_hold}
use Rattle.xt_base.specs.Chunks.{union}
use Rattle.xt_base.specs.Legs.{aborted, ended, is_dirty, is_stale, joined_marks, own_count, owner_aborted, owner_after}
use Rattle.xt_base.specs.Maps.{at, has, is_in, put, with_member, without}
use Rattle.xt_base.specs.Settle.{Dropped, settled}
use Rattle.xt_base.specs.Sound.{IsFair, IsSound, Owns}
use Rattle.xt_base.specs.Space.{busy_count, is_busy, used}
use Rattle.xt_base.specs.State.{Change, Leg, State, Transaction}
use Rattle.xt_base.specs.declared.steps.Answer.{Answer}
use Rattle.xt_base.specs.declared.steps.Errno.{Errno}
use Rattle.xt_base.specs.declared.steps.Errno.TheVariants.{Again, Busy, Invalid, Io, NoBufs}
use Rattle.xt_base.specs.declared.steps.Owner.{Owner}
use Rattle.xt_base.specs.declared.steps.Owner.TheVariants.{Trans}
use Rattle.xt_base.specs.declared.steps.Reason.TheVariants.{CorruptIncore, MetaIoError}
use Rattle.xt_base.specs.declared.steps.Reply.{Reply}
use Rattle.xt_base.specs.declared.steps.Reply.TheVariants.{Done, Free, Kept, Okay, Refused, Wait}
use Rattle.xt_base.specs.declared.steps.Request.{Request}
use Rattle.xt_recovery.proofs.MatchLegs.{at_marks_other, at_marks_same, cases_option}
use Rattle.xt_recovery.proofs.SetLemmas.{set_none, set_where}
use Rattle.xt_recovery.proofs.Formed.{FitsTexts, IsChunkSet}
use Rattle.xt_recovery.specs.Disks.{Disks}

module _ (d : Disks) where
  fits_either : (t : Bool) (x y : Outcome) → (t ≡ true → FitsTexts d x.state) → (t ≡ false → FitsTexts d y.state) → FitsTexts d (if t then x else y).state
  fits_either true x y hx hy = hx refl
  fits_either false x y hx hy = hy refl

  fits_unless : (r : Option Errno) (s : State) (o : Outcome) → FitsTexts d s → (None ≡ r → FitsTexts d o.state) → FitsTexts d (unless r s o).state
  fits_unless None s o h ho = ho refl
  fits_unless (Some e) s o h ho = h

  fits_some : (o : Option Transaction) (s : State) (f : Transaction → Outcome) → FitsTexts d s → ((trans : Transaction) → o ≡ Some trans → FitsTexts d (f trans).state) → FitsTexts d (with_trans o s f).state
  fits_some None s f h each = h
  fits_some (Some trans) s f h each = each trans refl

  -- other owners, of blocks that fit
  fits_owners : (owners : List (ℕ × Owner)) (s : State) → ((b : ℕ) → is_in b owners ≡ true → b < 2 ^ 64) → FitsTexts d s → FitsTexts d (record s { owners = owners })
  fits_owners owners s fit h = record { said = h.said; blocks = h.blocks; owners = fit; items = h.items; flight = h.flight }

  -- whatever else changes, if blocks, owners and commit list stay
  fits_same : (s n : State) → n.blocks ≡ s.blocks → n.owners ≡ s.owners → n.items.cil ≡ s.items.cil → n.items.flight ≡ s.items.flight → FitsTexts d s → FitsTexts d n
  fits_same s n blocks owners cil flight h = record {
    said = h.said;
    blocks = subst (λ (x : ℕ). x < 2 ^ 64) (sym blocks) h.blocks;
    owners = λ b there. h.owners b (ap (is_in b) (sym owners) ∙ there);
    items = λ b set there. h.items b set (ap (at b) (sym cil) ∙ there);
    flight = λ f flies. h.flight f (sym flight ∙ flies);
  }

  fits_owner : (b : ℕ) (o : Owner) (s : State) → b < 2 ^ 64 → FitsTexts d s → FitsTexts d (with_owner b o s)
  fits_owner b o s small h =
      fits_owners (put b o s.owners) s
      (λ q there.
      elim (is_in_put_cases q b o s.owners there) [
        | inl same ↦ subst (λ (x : ℕ). x < 2 ^ 64) (sym same) small
        | inr old ↦ h.owners q old
      ]) h

  fits_unowned : (dropped : Dropped) (b : ℕ) (s : State) → FitsTexts d s → FitsTexts d (settled dropped (unowned b s))
  fits_unowned dropped b s h =
      fits_same (unowned b s) (settled dropped (unowned b s)) refl refl refl refl (fits_owners (without b s.owners) s (λ q there. h.owners q (is_in_without q b s.owners there)) h)

  -- a block below the size of the device
  block_small : (b : ℕ) (s : State) → nat_le s.blocks b ≡ false → FitsTexts d s → b < 2 ^ 64
  block_small b s within h = let all = h.blocks in omega (arith, all, leb-false s.blocks b within)

  brought_if : (t b : ℕ) (busy : Bool) (s : State) → b < 2 ^ 64 → FitsTexts d s → FitsTexts d (with_owner b (Trans t 0) (if busy then s else brought b (at b s.frames.idle) s))
  brought_if t b true s small h = fits_owner b (Trans t 0) s small h
  brought_if t b false s small h = brought_by (at b s.frames.idle)
    where
      brought_by : (o : Option (List ℕ)) → FitsTexts d (with_owner b (Trans t 0) (brought b o s))
      brought_by None = fits_same (with_owner b (Trans t 0) s) _ refl refl refl refl (fits_owner b (Trans t 0) s small h)
      brought_by (Some content) = fits_same (with_owner b (Trans t 0) s) _ refl refl refl refl (fits_owner b (Trans t 0) s small h)

  fits_locked : (t b : ℕ) (own : Option ℕ) (s : State) → b < 2 ^ 64 → FitsTexts d s → FitsTexts d (locked t b own s)
  fits_locked t b (Some count) s small h = fits_owner b (Trans t (count + 1)) s small h
  fits_locked t b None s small h = brought_if t b (is_busy s b) s small h

  shut_if_placed : (dirty : Bool) (s : State) → FitsTexts d s → FitsTexts d (shut_if dirty MetaIoError s)
  shut_if_placed true s h = fits_same s (shut_down MetaIoError s) refl refl refl refl h
  shut_if_placed false s h = h

  fits_answered : (t b : ℕ) (leg : Leg) (s : State) (answer : Answer) → b < 2 ^ 64 → FitsTexts d s → FitsTexts d (answered t b leg s answer).state
  fits_answered t b leg s (Answer.Content content) small h = fits_same (with_owner b (Trans t 0) s) _ refl refl refl refl (fits_owner b (Trans t 0) s small h)
  fits_answered t b leg s Answer.None small h = shut_if_placed (is_dirty leg) s h
  fits_answered t b leg s Answer.Failed small h = shut_if_placed (is_dirty leg) s h

  fits_get : (t b : ℕ) (s : State) → FitsTexts d s → FitsTexts d (get t b s).state
  fits_get t b s h =
      fits_unless (first_of (get_refusals t b s)) s (gives Okay (locked t b (own_count t (at b s.owners)) s)) h
      (λ passes.
      let first = passes_first (nat_le s.blocks b) Invalid ((is_some s.shut, Io) ∷ (at_end (own_count t (at b s.owners)), Invalid) ∷ (is_elsewhere s t b, Again) ∷ (not (is_busy s b) && nat_le 64 (busy_count s), NoBufs) ∷ []) passes in
      fits_locked t b (own_count t (at b s.owners)) s (block_small b s first.0 h) h)

  fits_read : (t b : ℕ) (answer : Answer) (s : State) (trans : Transaction) → FitsTexts d s → FitsTexts d (read t b answer s trans).state
  fits_read t b answer s trans h =
      let own : Bool = at_end (own_count t (at b s.owners)) || (is_own s t b && (is_fresh s b || is_stale b trans.leg)) in
      let full : Bool = not (is_busy s b) && nat_le 64 (busy_count s) in
      fits_unless (first_of (read_refusals t b trans.leg s)) s (if is_absent t b s then answered t b trans.leg s answer else gives Okay (locked t b (own_count t (at b s.owners)) s)) h
      (λ passes.
      let first = passes_first (nat_le s.blocks b) Invalid ((is_some s.shut, Io) ∷ (own, Invalid) ∷ (is_elsewhere s t b, Again) ∷ (full, NoBufs) ∷ []) passes in
      let small = block_small b s first.0 h in
      fits_either (is_absent t b s) (answered t b trans.leg s answer) (gives Okay (locked t b (own_count t (at b s.owners)) s)) (λ absent. fits_answered t b trans.leg s answer small h)
      (λ there. fits_locked t b (own_count t (at b s.owners)) s small h))

  fits_released : (dropped : Dropped) (t b : ℕ) (s : State) (trans : Transaction) (o : Option ℕ) → (is_some o ≡ true → b < 2 ^ 64) → FitsTexts d s → FitsTexts d (released dropped t b trans s o).state
  fits_released dropped t b s trans None small h = h
  fits_released dropped t b s trans (Some count) small h =
      let less : State = with_leg t trans (without_hold b trans.leg) s in
      fits_either (nat_lt 0 count) (gives Kept (with_owner b (Trans t (count - 1)) s)) (if is_in b trans.leg.changes then gives Kept s else gives Free (settled dropped (unowned b less)))
      (λ more. fits_owner b (Trans t (count - 1)) s (small refl) h)
      (λ last. fits_either (is_in b trans.leg.changes) (gives Kept s) (gives Free (settled dropped (unowned b less))) (λ changed. h) (λ unchanged. fits_unowned dropped b less (fits_same s less refl refl refl refl h)))

  held_there : (o : Option Owner) → is_held o ≡ true → is_some o ≡ true
  held_there None h = h
  held_there (Some x) h = refl

  -- ---- the end of a leg
  marked_set : (old : Option (List ℕ)) (c : Change) → IsChunkSet (joined_marks old c)
  marked_set old c = set_if (is_none c.edit)
    where
      set_if : (t : Bool) → IsChunkSet (cond t [] (union (unwrap_or old []) c.marks))
      set_if true = set_none
      set_if false = set_where (λ k. has (unwrap_or old []) k || has c.marks k)

  fits_ended : (t : ℕ) (trans : Transaction) (s : State) → IsSound s → at t s.transactions ≡ Some trans → FitsTexts d s → FitsTexts d (ended t trans.leg s)
  fits_ended t trans s sound is h =
      let fair : IsFair s.form.ends s.owners (t, trans) = each_at (IsFair s.form.ends s.owners) t trans s.transactions is sound.parts.fair in
      record {
        said = h.said;
        blocks = h.blocks;
        owners = λ b there. h.owners b (is_in_filter_map b (owner_after t trans.leg s.items.open_number) s.owners (keeps_owner_after t trans.leg s.items.open_number) there);
        items = λ b set there.
            elim (cases_option (at b trans.leg.changes)) [
              | inl none ↦ h.items b set (sym (at_marks_other b trans.leg.changes s.items.cil none) ∙ there)
              | inr c ↦
                  let own : Owns s.owners t b = each_in (λ q. Owns s.owners t q) b trans.leg.changes (ap is_some c.1) fair.owned in (
                    h.owners b (owned_there t b s.owners own),
                    subst IsChunkSet (some_same (joined_marks (at b s.items.cil) c.0) set (sym (at_marks_same 0 b c.0 trans.leg.changes s.items.cil fair.rising c.1) ∙ there)) (marked_set (at b s.items.cil) c.0),
                  )
            ];
        flight = h.flight;
      }

  fits_aborted : (t : ℕ) (leg : Leg) (s : State) → FitsTexts d s → FitsTexts d (aborted t leg s)
  fits_aborted t leg s h = record {
    said = h.said;
    blocks = h.blocks;
    owners = λ b there. h.owners b (is_in_filter_map b (owner_aborted t leg) s.owners (keeps_owner_aborted t leg) there);
    items = h.items;
    flight = h.flight;
  }

  fits_commit : (dropped : Dropped) (t : ℕ) (s : State) (trans : Transaction) → IsSound s → at t s.transactions ≡ Some trans → FitsTexts d s → FitsTexts d (commit dropped t s trans).state
  fits_commit dropped t s trans sound is h =
      fits_either (is_dirty trans.leg && is_some s.shut) (gives (io_of (held_of trans.leg.holds)) (settled dropped (closed t (aborted t trans.leg s))))
      (gives (committed_of (commit_number trans.leg s) (held_of trans.leg.holds)) (settled dropped (closed t (ended t trans.leg s))))
      (λ shut. fits_same (aborted t trans.leg s) _ refl refl refl refl (fits_aborted t trans.leg s h)) (λ on. fits_same (ended t trans.leg s) _ refl refl refl refl (fits_ended t trans s sound is h))

  fits_roll : (dropped : Dropped) (t : ℕ) (s : State) (trans : Transaction) → IsSound s → at t s.transactions ≡ Some trans → FitsTexts d s → FitsTexts d (roll dropped t s trans).state
  fits_roll dropped t s trans sound is h =
      let up : Outcome = gives (io_of (held_of trans.leg.holds)) (settled dropped (with_legs t 0 trans (aborted t trans.leg s))) in
      let on : Outcome = gives (committed_of (commit_number trans.leg s) (held_of trans.leg.holds)) (settled dropped (with_legs t (legs_after trans.legs) trans (ended t trans.leg s))) in
      let wait : Outcome = gives (Refused Again) (asks_flush (asks_ckpt s)) in
      fits_either (not trans.perm) (gives (Refused Invalid) s) (if is_some s.shut then up else (if is_no_room t trans s then wait else on)) (λ refused. h)
      (λ may.
      fits_either (is_some s.shut) up (if is_no_room t trans s then wait else on) (λ shut. fits_same (aborted t trans.leg s) _ refl refl refl refl (fits_aborted t trans.leg s h))
      (λ live. fits_either (is_no_room t trans s) wait on (λ full. fits_same s _ refl refl refl refl h) (λ room. fits_same (ended t trans.leg s) _ refl refl refl refl (fits_ended t trans s sound is h))))

  fits_given_up : (dropped : Dropped) (dirty : Bool) (n : State) → FitsTexts d n → FitsTexts d (settled dropped (shut_if dirty CorruptIncore n))
  fits_given_up dropped true n h = fits_same n _ refl refl refl refl h
  fits_given_up dropped false n h = fits_same n _ refl refl refl refl h

  stale_if : (stale : Bool) (s n : State) → FitsTexts d s → FitsTexts d n → FitsTexts d (if stale then s else n)
  stale_if true s n hs hn = hs
  stale_if false s n hs hn = hn

  -- any call
  pub fits_call : (dropped : Dropped) (request : Request) (answer : Answer) (s : State) → IsSound s → FitsTexts d s → FitsTexts d (alone_with dropped request answer s).state
  fits_call dropped (Request.Alloc unit count perm) answer s sound h =
      let full : Outcome = gives (Refused Again) (asks_flush (asks_ckpt s)) in
      fits_unless (first_of (alloc_refusals unit count perm s)) s (if nat_lt s.log_bytes (used s + unit * count) then full else allocated unit count perm s) h
      (λ passes. fits_either (nat_lt s.log_bytes (used s + unit * count)) full (allocated unit count perm s) (λ no_room. fits_same s _ refl refl refl refl h) (λ room. fits_same s _ refl refl refl refl h))
  fits_call dropped (Request.Get t b) answer s sound h = fits_some (at t s.transactions) s (λ trans. get t b s) h (λ trans is. fits_get t b s h)
  fits_call dropped (Request.Read t b) answer s sound h = fits_some (at t s.transactions) s (read t b answer s) h (λ trans is. fits_read t b answer s trans h)
  fits_call dropped (Request.View t b) answer s sound h =
      fits_some (at t s.transactions) s (view t b s) h (λ trans is. fits_either (is_own s t b) (gives (Reply.Data (seen s.form.size b trans.leg s.frames)) s) (gives (Refused Invalid) s) (λ own. h) (λ other. h))
  fits_call dropped (Request.Log first t b bytes) answer s sound h =
      fits_some (at t s.transactions) s (log t b first bytes s) h
      (λ trans is.
      fits_unless (first_of (log_refusals t b first bytes trans s)) s (gives Okay (not_fresh b (with_leg t trans (logged_leg s.form.size b first bytes s.frames trans.leg) s))) h (λ passes. fits_same s _ refl refl refl refl h))
  fits_call dropped (Request.Hold t b) answer s sound h =
      fits_some (at t s.transactions) s (hold t b s) h
      (λ trans is.
      fits_either (not (is_own s t b) || is_stale b trans.leg) (gives (Refused Invalid) s) (gives Okay (with_leg t trans (record trans.leg { holds = with_member b trans.leg.holds }) s)) (λ no. h) (λ yes. fits_same s _ refl refl refl refl h))
  fits_call dropped (Request.Unhold t b) answer s sound h =
      fits_some (at t s.transactions) s (unhold t b s) h
      (λ trans is. fits_either (not (is_own s t b) || not (has trans.leg.holds b)) (gives (Refused Invalid) s) (gives Okay (with_leg t trans (without_hold b trans.leg) s)) (λ no. h) (λ yes. fits_same s _ refl refl refl refl h))
  fits_call dropped (Request.Relse t b) answer s sound h =
      fits_some (at t s.transactions) s (relse dropped t b s) h
      (λ trans is. fits_released dropped t b s trans (own_count t (at b s.owners)) (λ own. h.owners b (owned_there t b s.owners own)) h)
  fits_call dropped (Request.Join t b) answer s sound h =
      fits_some (at t s.transactions) s (join t b s) h
      (λ trans is.
      fits_unless (first_of (join_refusals b s)) s (gives Okay (with_owner b (Trans t 0) s)) h
      (λ passes.
      let first = passes_first (not (is_held (at b s.owners))) Invalid ((is_some s.shut, Io) ∷ []) passes in
      fits_owner b (Trans t 0) s (h.owners b (held_there (at b s.owners) (not_not (is_held (at b s.owners)) first.0))) h))
    where
      not_not : (x : Bool) → not x ≡ false → x ≡ true
      not_not true h = refl
      not_not false h = absurd (false≢true (sym h))
  fits_call dropped (Request.Release b) answer s sound h = fits_either (is_held (at b s.owners)) (gives Okay (settled dropped (unowned b s))) (gives (Refused Invalid) s) (λ held. fits_unowned dropped b s h) (λ other. h)
  fits_call dropped (Request.Inval t b) answer s sound h =
      fits_some (at t s.transactions) s (inval t b s) h
      (λ trans is.
      fits_unless (first_of (inval_refusals t b trans s)) s (gives Okay (if is_stale b trans.leg then s else not_fresh b (with_leg t trans (invalidated b trans.leg) s))) h
      (λ passes. stale_if (is_stale b trans.leg) s (not_fresh b (with_leg t trans (invalidated b trans.leg) s)) h (fits_same s _ refl refl refl refl h)))
  fits_call dropped (Request.Commit t) answer s sound h = fits_some (at t s.transactions) s (commit dropped t s) h (λ trans is. fits_commit dropped t s trans sound is h)
  fits_call dropped (Request.Roll t) answer s sound h = fits_some (at t s.transactions) s (roll dropped t s) h (λ trans is. fits_roll dropped t s trans sound is h)
  fits_call dropped (Request.Cancel t) answer s sound h =
      fits_some (at t s.transactions) s (cancel dropped t s) h (λ trans is. fits_given_up dropped (is_dirty trans.leg) (closed t (aborted t trans.leg s)) (fits_same (aborted t trans.leg s) _ refl refl refl refl (fits_aborted t trans.leg s h)))
  fits_call dropped Request.Force answer s sound h =
      let rest : Outcome = if length s.items.cil == 0 then gives (waits_for s.items.flight) s else gives (Wait s.items.open_number) (asks_ckpt s) in
      fits_either (is_some s.shut) (gives (Refused Io) s) rest (λ shut. h)
      (λ live. fits_either (length s.items.cil == 0) (gives (waits_for s.items.flight) s) (gives (Wait s.items.open_number) (asks_ckpt s)) (λ none. h) (λ some. fits_same s _ refl refl refl refl h))
  fits_call dropped (Request.ForceTo number) answer s sound h =
      let asked : Bool = (number == s.items.open_number) && not (length s.items.cil == 0) in
      let rest : Outcome = if is_flight number s.items.flight then gives (Wait number) s else gives Done s in
      fits_unless (first_of (force_to_refusals number s)) s (if asked then gives (Wait number) (asks_ckpt s) else rest) h
      (λ passes. fits_either asked (gives (Wait number) (asks_ckpt s)) rest (λ now. fits_same s _ refl refl refl refl h)
      (λ other. fits_either (is_flight number s.items.flight) (gives (Wait number) s) (gives Done s) (λ flies. h) (λ lands. h)))
  fits_call dropped Request.Push answer s sound h = fits_either (is_some s.shut) (gives (Refused Io) s) (gives Okay (asks_flush s)) (λ shut. h) (λ live. fits_same s _ refl refl refl refl h)
  fits_call dropped Request.Shutdown answer s sound h = fits_same s _ refl refl refl refl h
  fits_call dropped Request.Freeze answer s sound h = fits_unless (first_of (freeze_refusals s)) s (gives Okay (marked_frozen true s)) h (λ passes. fits_same s _ refl refl refl refl h)
  fits_call dropped Request.Thaw answer s sound h = fits_either s.frozen (gives Okay (marked_frozen false s)) (gives (Refused Invalid) s) (λ is. fits_same s _ refl refl refl refl h) (λ other. h)
  fits_call dropped Request.Stat answer s sound h = h
  fits_call dropped Request.Unmount answer s sound h = fits_either (is_in_use s) (gives (Refused Busy) s) (gives Okay s) (λ kept. h) (λ left. h)
