-- No call but one that names it, and no job, changes a transaction's record or a block that it has.
use Rattle.std.proofs.Common.{◌≡◌, ◌≢◌, ◌∙◌, ◌+◌, ◌-◌, ◌*◌, ◌≤◌, ◌∷◌, Bool, List, None, Option, Some, [], ap, arith, false, length, refl, subst, sym, true, ℕ}
use Rattle.std.proofs.lemmas.Bool.{eqb-false, not-false}
use Rattle.std.specs.Prelude.{filter, if◌then◌else◌, is_some, nat_le, nat_lt, not, ◌&&◌, ◌==◌, ◌||◌}
use Rattle.xt_base.proofs.LegLemmas.{own_one, own_trans}
use Rattle.xt_base.proofs.MapLemmas.{at_put_other}
use Rattle.xt_base.proofs.RisingLemmas.{each_at, each_in}
use Rattle.xt_base.proofs.SoundBuffers.{held_no_trans}
use Rattle.xt_base.proofs.SoundParts.{apart_from, none_else}
use Rattle.xt_base.proofs.SoundSteps.{passes_first}
use Rattle.xt_base.proofs.StillLemmas.{IsStill, fact_either, fact_if, fact_unless, fact_with_trans, still_aborted, still_busied, still_closed, still_ended, still_landed, still_leg, still_legs, still_made_fresh, still_not_fresh, still_owner, still_same, still_settled, still_shut_if, still_then, still_unowned}
use Rattle.xt_base.specs.Calls.{Outcome, alloc, alloc_refusals, allocated, alone_with, answered, asks_ckpt, asks_flush, at_end, brought, busied, cancel, closed, commit, commit_number, committed_of, edited, first_of, force, force_to, force_to_refusals, freeze, freeze_refusals, get, get_refusals, gives, held_of, hold, inval, inval_refusals, invalidated, io_of, is_absent, is_elsewhere, is_flight, is_fresh, is_held, is_in_use, is_no_room, is_own, join, join_refusals, legs_after, locked, log, log_refusals, logged_leg, made_fresh, marked_frozen, new_trans, not_fresh, push, read, read_refusals, release, released, relse, roll, seen, shut_down, shut_if, thaw, unhold, unmount, unowned, view, waits_for, with_leg, with_legs, with_owner, with_trans, without_hold}
use Rattle.xt_base.specs.Chunks.{marks}
use Rattle.xt_base.specs.Jobs.{begin, begun, cleaned, end, end_of, failed, finished, flush, flush_plan, flushed, gone, is_ok, landed, landed_items, next_pieces, posted, renewed, unflushed, waits_on}
use Rattle.xt_base.specs.Laws.{names}
use Rattle.xt_base.specs.Legs.{aborted, ended, is_dirty, is_stale, own_count}
use Rattle.xt_base.specs.Maps.{at, has, is_in, with_member}
use Rattle.xt_base.specs.Settle.{Dropped, settled}
use Rattle.xt_base.specs.Sound.{Each, IsFair, IsSound, Owns}
use Rattle.xt_base.specs.Space.{busy_count, charge, is_busy, used}
use Rattle.xt_base.specs.State.{Flight, Leg, State, Transaction}
use Rattle.xt_base.specs.declared.names.JobKind.{JobKind}
use Rattle.xt_base.specs.declared.steps.Answer.{Answer}
use Rattle.xt_base.specs.declared.steps.Errno.TheVariants.{Again, Busy, Invalid, Io, NoBufs, NoSpace}
use Rattle.xt_base.specs.declared.steps.HomeAnswers.{HomeAnswers}
use Rattle.xt_base.specs.declared.steps.LogAnswers.{LogAnswers}
use Rattle.xt_base.specs.declared.steps.Owner.TheVariants.{Trans}
use Rattle.xt_base.specs.declared.steps.Reason.TheVariants.{CorruptIncore, LogIoError, MetaIoError}
use Rattle.xt_base.specs.declared.steps.Reply.{Reply}
use Rattle.xt_base.specs.declared.steps.Reply.TheVariants.{Done, Failed, Free, Kept, Landed, Nothing, Okay, Refused, Wait}
use Rattle.xt_base.specs.declared.steps.Request.{Request}

module _ (t b : ℕ) (s : State) (h : IsSound s) (own : is_own s t b ≡ true) where
  -- the count of its lock
  abbrev its_count : ℕ
  its_count = (own_trans t (at b s.owners) own).0

  its_owner : at b s.owners ≡ Some (Trans t its_count)
  its_owner = (own_trans t (at b s.owners) own).1

  -- ---- other blocks
  -- what another transaction has is another block
  other_block : (u c : ℕ) → u ≢ t → is_own s u c ≡ true → c ≢ b
  other_block u c other theirs same = other (own_one u t (at b s.owners) (subst (λ (x : ℕ). Owns s.owners u x) same theirs) own)

  -- what another transaction may lock is another block
  free_block : (u c : ℕ) → u ≢ t → is_elsewhere s u c ≡ false → c ≢ b
  free_block u c other free same = other (none_else u c s.owners free t (subst (λ (x : ℕ). Owns s.owners t x) (sym same) own))

  -- a held block is another
  held_block : (c : ℕ) → is_held (at c s.owners) ≡ true → c ≢ b
  held_block c held same = held_no_trans t (at b s.owners) (subst (λ (x : ℕ). is_held (at x s.owners) ≡ true) same held) own

  -- another transaction's leg changed other blocks
  other_changes : (u : ℕ) (trans : Transaction) → u ≢ t → at u s.transactions ≡ Some trans → Each (λ c. c.0 ≢ b) trans.leg.changes
  other_changes u trans other is =
      (apart_from b s.owners (u, trans) (each_at (IsFair s.form.ends s.owners) u trans s.transactions is h.parts.fair) (λ theirs. other (own_one u t (at b s.owners) theirs own))).0

  -- ---- get and read
  brought_still : (u c : ℕ) (idle : Option (List ℕ)) → c ≢ b → IsStill t b s (with_owner c (Trans u 0) (brought c idle s))
  brought_still u c (Some content) other =
      still_then t b s (busied c content s) (with_owner c (Trans u 0) (busied c content s)) (still_busied t b its_count s its_owner c content other) (still_owner t b its_count (busied c content s) its_owner c (Trans u 0) other)
  brought_still u c None other =
      still_then t b s (made_fresh c s) (with_owner c (Trans u 0) (made_fresh c s)) (still_made_fresh t b its_count s its_owner c other) (still_owner t b its_count (made_fresh c s) its_owner c (Trans u 0) other)

  -- another block is locked
  locked_still : (u c : ℕ) (o : Option ℕ) → c ≢ b → IsStill t b s (locked u c o s)
  locked_still u c (Some count) other = still_owner t b its_count s its_owner c (Trans u (count + 1)) other
  locked_still u c None other =
      fact_if (λ m. IsStill t b s (with_owner c (Trans u 0) m)) (is_busy s c) s (brought c (at c s.frames.idle) s) (λ busy. still_owner t b its_count s its_owner c (Trans u 0) other)
      (λ idle. brought_still u c (at c s.frames.idle) other)

  still_get : (u c : ℕ) → u ≢ t → IsStill t b s (get u c s).state
  still_get u c other =
      let full : Bool = not (is_busy s c) && nat_le 64 (busy_count s) in
      let last : Bool = at_end (own_count u (at c s.owners)) in
      fact_unless (IsStill t b s) (first_of (get_refusals u c s)) s (gives Okay (locked u c (own_count u (at c s.owners)) s)) (still_same t b s)
      (λ passes.
      let first = passes_first (nat_le s.blocks c) Invalid ((is_some s.shut, Io) ∷ (last, Invalid) ∷ (is_elsewhere s u c, Again) ∷ (full, NoBufs) ∷ []) passes in
      let second = passes_first (is_some s.shut) Io ((last, Invalid) ∷ (is_elsewhere s u c, Again) ∷ (full, NoBufs) ∷ []) first.1 in
      let third = passes_first last Invalid ((is_elsewhere s u c, Again) ∷ (full, NoBufs) ∷ []) second.1 in
      let fourth = passes_first (is_elsewhere s u c) Again ((full, NoBufs) ∷ []) third.1 in
      locked_still u c (own_count u (at c s.owners)) (free_block u c other fourth.0))

  answered_still : (u c : ℕ) (leg : Leg) (answer : Answer) → c ≢ b → IsStill t b s (answered u c leg s answer).state
  answered_still u c leg (Answer.Content content) other = brought_still u c (Some content) other
  answered_still u c leg Answer.None other = still_shut_if t b s s (is_dirty leg) MetaIoError (still_same t b s)
  answered_still u c leg Answer.Failed other = still_shut_if t b s s (is_dirty leg) MetaIoError (still_same t b s)

  still_read : (u c : ℕ) (answer : Answer) (trans : Transaction) → u ≢ t → IsStill t b s (read u c answer s trans).state
  still_read u c answer trans other =
      let full : Bool = not (is_busy s c) && nat_le 64 (busy_count s) in
      let last : Bool = at_end (own_count u (at c s.owners)) || (is_own s u c && (is_fresh s c || is_stale c trans.leg)) in
      let there : Outcome = gives Okay (locked u c (own_count u (at c s.owners)) s) in
      fact_unless (IsStill t b s) (first_of (read_refusals u c trans.leg s)) s (if is_absent u c s then answered u c trans.leg s answer else there) (still_same t b s)
      (λ passes.
      let first = passes_first (nat_le s.blocks c) Invalid ((is_some s.shut, Io) ∷ (last, Invalid) ∷ (is_elsewhere s u c, Again) ∷ (full, NoBufs) ∷ []) passes in
      let second = passes_first (is_some s.shut) Io ((last, Invalid) ∷ (is_elsewhere s u c, Again) ∷ (full, NoBufs) ∷ []) first.1 in
      let third = passes_first last Invalid ((is_elsewhere s u c, Again) ∷ (full, NoBufs) ∷ []) second.1 in
      let fourth = passes_first (is_elsewhere s u c) Again ((full, NoBufs) ∷ []) third.1 in
      let apart : c ≢ b = free_block u c other fourth.0 in
      fact_either (IsStill t b s) (is_absent u c s) (answered u c trans.leg s answer) there (λ absent. answered_still u c trans.leg answer apart)
      (λ here. locked_still u c (own_count u (at c s.owners)) apart))

  -- ---- the leg
  still_view : (u c : ℕ) (trans : Transaction) → IsStill t b s (view u c s trans).state
  still_view u c trans =
      fact_either (IsStill t b s) (is_own s u c) (gives (Reply.Data (seen s.form.size c trans.leg s.frames)) s) (gives (Refused Invalid) s) (λ theirs. still_same t b s) (λ not_theirs. still_same t b s)

  changed_still : (u c : ℕ) (trans : Transaction) (leg : Leg) → u ≢ t → c ≢ b → IsStill t b s (not_fresh c (with_leg u trans leg s))
  changed_still u c trans leg other apart =
      still_then t b s (with_leg u trans leg s) (not_fresh c (with_leg u trans leg s)) (still_leg t b its_count s its_owner u trans leg other) (still_not_fresh t b its_count (with_leg u trans leg s) its_owner c apart)

  still_log : (u c first : ℕ) (bytes : List ℕ) (trans : Transaction) → u ≢ t → IsStill t b s (log u c first bytes s trans).state
  still_log u c first bytes trans other =
      let leg : Leg = logged_leg s.form.size c first bytes s.frames trans.leg in
      let empty : Bool = (length bytes == 0) || nat_lt s.form.size (first + length bytes) in
      let partly : Bool = (is_fresh s c || is_stale c trans.leg) && not ((first == 0) && (length bytes == s.form.size)) in
      let over : Bool = nat_lt trans.unit (charge s.form.ends (edited c [] (marks first (length bytes)) trans.leg).changes) in
      fact_unless (IsStill t b s) (first_of (log_refusals u c first bytes trans s)) s (gives Okay (not_fresh c (with_leg u trans leg s))) (still_same t b s)
      (λ passes.
      let theirs : is_own s u c ≡ true = not-false (is_own s u c) (passes_first (not (is_own s u c)) Invalid ((empty, Invalid) ∷ (partly, Invalid) ∷ (over, NoSpace) ∷ []) passes).0 in
      changed_still u c trans leg other (other_block u c other theirs))

  still_inval : (u c : ℕ) (trans : Transaction) → u ≢ t → IsStill t b s (inval u c s trans).state
  still_inval u c trans other =
      let leg : Leg = invalidated c trans.leg in
      let over : Bool = nat_lt trans.unit (charge s.form.ends leg.changes) in
      fact_unless (IsStill t b s) (first_of (inval_refusals u c trans s)) s (gives Okay (if is_stale c trans.leg then s else not_fresh c (with_leg u trans leg s))) (still_same t b s)
      (λ passes.
      let theirs : is_own s u c ≡ true = not-false (is_own s u c) (passes_first (not (is_own s u c)) Invalid ((over, NoSpace) ∷ []) passes).0 in
      fact_if (IsStill t b s) (is_stale c trans.leg) s (not_fresh c (with_leg u trans leg s)) (λ stale. still_same t b s) (λ new. changed_still u c trans leg other (other_block u c other theirs)))

  still_hold : (u c : ℕ) (trans : Transaction) → u ≢ t → IsStill t b s (hold u c s trans).state
  still_hold u c trans other =
      let leg : Leg = record trans.leg { holds = with_member c trans.leg.holds } in
      fact_either (IsStill t b s) (not (is_own s u c) || is_stale c trans.leg) (gives (Refused Invalid) s) (gives Okay (with_leg u trans leg s)) (λ refused. still_same t b s)
      (λ passes. still_leg t b its_count s its_owner u trans leg other)

  still_unhold : (u c : ℕ) (trans : Transaction) → u ≢ t → IsStill t b s (unhold u c s trans).state
  still_unhold u c trans other =
      let leg : Leg = without_hold c trans.leg in
      fact_either (IsStill t b s) (not (is_own s u c) || not (has trans.leg.holds c)) (gives (Refused Invalid) s) (gives Okay (with_leg u trans leg s)) (λ refused. still_same t b s)
      (λ passes. still_leg t b its_count s its_owner u trans leg other)

  -- ---- relse, join, release
  released_still : (dropped : Dropped) (u c : ℕ) (trans : Transaction) (o : Option ℕ) → u ≢ t → own_count u (at c s.owners) ≡ o → IsStill t b s (released dropped u c trans s o).state
  released_still dropped u c trans None other is = still_same t b s
  released_still dropped u c trans (Some count) other is =
      let apart : c ≢ b = other_block u c other (ap is_some is) in
      let m : State = with_leg u trans (without_hold c trans.leg) s in
      let freed : Outcome = gives Free (settled dropped (unowned c m)) in
      fact_either (IsStill t b s) (nat_lt 0 count) (gives Kept (with_owner c (Trans u (count - 1)) s)) (if is_in c trans.leg.changes then gives Kept s else freed)
      (λ more. still_owner t b its_count s its_owner c (Trans u (count - 1)) apart)
      (λ last.
      fact_either (IsStill t b s) (is_in c trans.leg.changes) (gives Kept s) freed (λ changed. still_same t b s)
      (λ unchanged.
      still_settled t b its_count s its_owner dropped (unowned c m)
      (still_then t b s m (unowned c m) (still_leg t b its_count s its_owner u trans (without_hold c trans.leg) other) (still_unowned t b its_count m its_owner c apart))))

  still_join : (u c : ℕ) (trans : Transaction) → IsStill t b s (join u c s trans).state
  still_join u c trans =
      fact_unless (IsStill t b s) (first_of (join_refusals c s)) s (gives Okay (with_owner c (Trans u 0) s)) (still_same t b s)
      (λ passes.
      let held : is_held (at c s.owners) ≡ true = not-false (is_held (at c s.owners)) (passes_first (not (is_held (at c s.owners))) Invalid ((is_some s.shut, Io) ∷ []) passes).0 in
      still_owner t b its_count s its_owner c (Trans u 0) (held_block c held))

  still_release : (dropped : Dropped) (c : ℕ) → IsStill t b s (release dropped c s).state
  still_release dropped c =
      fact_either (IsStill t b s) (is_held (at c s.owners)) (gives Okay (settled dropped (unowned c s))) (gives (Refused Invalid) s)
      (λ held. still_settled t b its_count s its_owner dropped (unowned c s) (still_unowned t b its_count s its_owner c (held_block c held))) (λ refused. still_same t b s)

  -- ---- the end of a leg
  module _ (u : ℕ) (trans : Transaction) (other : u ≢ t) (is : at u s.transactions ≡ Some trans) where
    given_up : IsStill t b s (aborted u trans.leg s)
    given_up = still_aborted t b its_count s its_owner u trans.leg other (other_changes u trans other is)

    went_on : IsStill t b s (ended u trans.leg s)
    went_on = still_ended t b its_count s its_owner u trans.leg other (other_changes u trans other is)

    -- each of them with its transaction gone
    gone_after : (n : State) → IsStill t b s n → IsStill t b s (closed u n)
    gone_after n still = still_then t b s n (closed u n) still (still_closed t b its_count n (still.owner ∙ its_owner) u other)

    legs_still : (legs : ℕ) (n : State) → IsStill t b s n → IsStill t b s (with_legs u legs trans n)
    legs_still legs n still = still_then t b s n (with_legs u legs trans n) still (still_legs t b its_count n (still.owner ∙ its_owner) u legs trans other)

    still_commit : (dropped : Dropped) → IsStill t b s (commit dropped u s trans).state
    still_commit dropped =
        fact_either (IsStill t b s) (is_dirty trans.leg && is_some s.shut) (gives (io_of (held_of trans.leg.holds)) (settled dropped (closed u (aborted u trans.leg s))))
        (gives (committed_of (commit_number trans.leg s) (held_of trans.leg.holds)) (settled dropped (closed u (ended u trans.leg s))))
        (λ up. still_settled t b its_count s its_owner dropped (closed u (aborted u trans.leg s)) (gone_after (aborted u trans.leg s) given_up))
        (λ on. still_settled t b its_count s its_owner dropped (closed u (ended u trans.leg s)) (gone_after (ended u trans.leg s) went_on))

    still_cancel : (dropped : Dropped) → IsStill t b s (cancel dropped u s trans).state
    still_cancel dropped =
        let m : State = closed u (aborted u trans.leg s) in
        still_settled t b its_count s its_owner dropped (shut_if (is_dirty trans.leg) CorruptIncore m) (still_shut_if t b s m (is_dirty trans.leg) CorruptIncore (gone_after (aborted u trans.leg s) given_up))

    still_roll : (dropped : Dropped) → IsStill t b s (roll dropped u s trans).state
    still_roll dropped =
        let up : Outcome = gives (io_of (held_of trans.leg.holds)) (settled dropped (with_legs u 0 trans (aborted u trans.leg s))) in
        let on : Outcome = gives (committed_of (commit_number trans.leg s) (held_of trans.leg.holds)) (settled dropped (with_legs u (legs_after trans.legs) trans (ended u trans.leg s))) in
        let wait : Outcome = gives (Refused Again) (asks_flush (asks_ckpt s)) in
        fact_either (IsStill t b s) (not trans.perm) (gives (Refused Invalid) s) (if is_some s.shut then up else (if is_no_room u trans s then wait else on)) (λ refused. still_same t b s)
        (λ may.
        fact_either (IsStill t b s) (is_some s.shut) up (if is_no_room u trans s then wait else on)
        (λ shut. still_settled t b its_count s its_owner dropped (with_legs u 0 trans (aborted u trans.leg s)) (legs_still 0 (aborted u trans.leg s) given_up))
        (λ live.
        fact_either (IsStill t b s) (is_no_room u trans s) wait on (λ full. record { form = refl; trans = refl; owner = refl; fresh = refl; content = refl })
        (λ room. still_settled t b its_count s its_owner dropped (with_legs u (legs_after trans.legs) trans (ended u trans.leg s)) (legs_still (legs_after trans.legs) (ended u trans.leg s) went_on))))

  -- ---- calls that name no transaction
  still_alloc : (unit count : ℕ) (perm : Bool) → is_in t s.transactions ≡ true → IsStill t b s (alloc unit count perm s).state
  still_alloc unit count perm there =
      let full : Bool = nat_lt s.log_bytes (used s + unit * count) in
      let below : t ≤ s.last_trans = each_in (λ q. q ≤ s.last_trans) t s.transactions there h.numbers in
      let waits : Outcome = gives (Refused Again) (asks_flush (asks_ckpt s)) in
      fact_unless (IsStill t b s) (first_of (alloc_refusals unit count perm s)) s (if full then waits else allocated unit count perm s) (still_same t b s)
      (λ passes.
      fact_either (IsStill t b s) full waits (allocated unit count perm s) (λ lack. record { form = refl; trans = refl; owner = refl; fresh = refl; content = refl })
      (λ room. record {
        form = refl;
        trans = at_put_other (s.last_trans + 1) t (new_trans unit count perm) s.transactions (λ same. omega (arith, same, below));
        owner = refl;
        fresh = refl;
        content = refl;
      }))

  still_force : IsStill t b s (force s).state
  still_force =
      let rest : Outcome = if length s.items.cil == 0 then gives (waits_for s.items.flight) s else gives (Wait s.items.open_number) (asks_ckpt s) in
      fact_either (IsStill t b s) (is_some s.shut) (gives (Refused Io) s) rest (λ shut. still_same t b s)
      (λ live.
      fact_either (IsStill t b s) (length s.items.cil == 0) (gives (waits_for s.items.flight) s) (gives (Wait s.items.open_number) (asks_ckpt s)) (λ none. still_same t b s)
      (λ some. record { form = refl; trans = refl; owner = refl; fresh = refl; content = refl }))

  still_force_to : (number : ℕ) → IsStill t b s (force_to number s).state
  still_force_to number =
      let asked : Bool = (number == s.items.open_number) && not (length s.items.cil == 0) in
      let rest : Outcome = if is_flight number s.items.flight then gives (Wait number) s else gives Done s in
      fact_unless (IsStill t b s) (first_of (force_to_refusals number s)) s (if asked then gives (Wait number) (asks_ckpt s) else rest) (still_same t b s)
      (λ passes.
      fact_either (IsStill t b s) asked (gives (Wait number) (asks_ckpt s)) rest (λ now. record { form = refl; trans = refl; owner = refl; fresh = refl; content = refl })
      (λ then_done. fact_either (IsStill t b s) (is_flight number s.items.flight) (gives (Wait number) s) (gives Done s) (λ flies. still_same t b s) (λ lands. still_same t b s)))

  still_push : IsStill t b s (push s).state
  still_push = fact_either (IsStill t b s) (is_some s.shut) (gives (Refused Io) s) (gives Okay (asks_flush s)) (λ shut. still_same t b s) (λ live. record { form = refl; trans = refl; owner = refl; fresh = refl; content = refl })

  still_freeze : IsStill t b s (freeze s).state
  still_freeze =
      fact_unless (IsStill t b s) (first_of (freeze_refusals s)) s (gives Okay (marked_frozen true s)) (still_same t b s) (λ passes. record { form = refl; trans = refl; owner = refl; fresh = refl; content = refl })

  still_thaw : IsStill t b s (thaw s).state
  still_thaw =
      fact_either (IsStill t b s) s.frozen (gives Okay (marked_frozen false s)) (gives (Refused Invalid) s) (λ frozen. record { form = refl; trans = refl; owner = refl; fresh = refl; content = refl }) (λ other. still_same t b s)

  still_unmount : IsStill t b s (unmount s).state
  still_unmount = fact_either (IsStill t b s) (is_in_use s) (gives (Refused Busy) s) (gives Okay s) (λ kept. still_same t b s) (λ left. still_same t b s)

  -- ---- any call that does not name the transaction
  with_other : (u : ℕ) (f : Transaction → Outcome) → (u == t) ≡ false → ((trans : Transaction) → u ≢ t → at u s.transactions ≡ Some trans → IsStill t b s (f trans).state) → IsStill t b s (with_trans (at u s.transactions) s f).state
  with_other u f other each = fact_with_trans (IsStill t b s) (at u s.transactions) s f (still_same t b s) (λ trans is. each trans (λ same. eqb-false u t other same) is)

  -- such a call
  pub still_call : (request : Request) (answer : Answer) (dropped : Dropped) → is_in t s.transactions ≡ true → names t request ≡ false → IsStill t b s (alone_with dropped request answer s).state
  still_call (Request.Alloc unit count perm) answer dropped there other = still_alloc unit count perm there
  still_call (Request.Get u c) answer dropped there other = with_other u (λ trans. get u c s) other (λ trans apart is. still_get u c apart)
  still_call (Request.Read u c) answer dropped there other = with_other u (read u c answer s) other (λ trans apart is. still_read u c answer trans apart)
  still_call (Request.View u c) answer dropped there other = with_other u (view u c s) other (λ trans apart is. still_view u c trans)
  still_call (Request.Log first u c bytes) answer dropped there other = with_other u (log u c first bytes s) other (λ trans apart is. still_log u c first bytes trans apart)
  still_call (Request.Hold u c) answer dropped there other = with_other u (hold u c s) other (λ trans apart is. still_hold u c trans apart)
  still_call (Request.Unhold u c) answer dropped there other = with_other u (unhold u c s) other (λ trans apart is. still_unhold u c trans apart)
  still_call (Request.Relse u c) answer dropped there other = with_other u (relse dropped u c s) other (λ trans apart is. released_still dropped u c trans (own_count u (at c s.owners)) apart refl)
  still_call (Request.Join u c) answer dropped there other = with_other u (join u c s) other (λ trans apart is. still_join u c trans)
  still_call (Request.Release c) answer dropped there other = still_release dropped c
  still_call (Request.Inval u c) answer dropped there other = with_other u (inval u c s) other (λ trans apart is. still_inval u c trans apart)
  still_call (Request.Commit u) answer dropped there other = with_other u (commit dropped u s) other (λ trans apart is. still_commit u trans apart is dropped)
  still_call (Request.Roll u) answer dropped there other = with_other u (roll dropped u s) other (λ trans apart is. still_roll u trans apart is dropped)
  still_call (Request.Cancel u) answer dropped there other = with_other u (cancel dropped u s) other (λ trans apart is. still_cancel u trans apart is dropped)
  still_call Request.Force answer dropped there other = still_force
  still_call (Request.ForceTo number) answer dropped there other = still_force_to number
  still_call Request.Push answer dropped there other = still_push
  still_call Request.Shutdown answer dropped there other = record { form = refl; trans = refl; owner = refl; fresh = refl; content = refl }
  still_call Request.Freeze answer dropped there other = still_freeze
  still_call Request.Thaw answer dropped there other = still_thaw
  still_call Request.Stat answer dropped there other = still_same t b s
  still_call Request.Unmount answer dropped there other = still_unmount

  -- ---- jobs
  -- a job is posted
  pub still_posted : (kind : JobKind) → IsStill t b s (posted kind s)
  still_posted kind = record { form = refl; trans = refl; owner = refl; fresh = refl; content = refl }

  -- a checkpoint begins
  pub still_begin : IsStill t b s (begin s).state
  still_begin =
      fact_either (IsStill t b s) (is_some s.shut) (gives Nothing (finished JobKind.Ckpt s)) (begun (next_pieces s) s) (λ shut. record { form = refl; trans = refl; owner = refl; fresh = refl; content = refl })
      (λ live. record { form = refl; trans = refl; owner = refl; fresh = refl; content = refl })

  end_still : (dropped : Dropped) (answers : LogAnswers) (flight : Option Flight) → IsStill t b s (end_of dropped answers s flight).state
  end_still dropped answers None = still_same t b s
  end_still dropped answers (Some f) =
      let still : IsStill t b s (record s { owners = filter (λ e. not (waits_on f.number e.1)) s.owners }) = still_landed t b its_count s its_owner f.number in
      fact_either (IsStill t b s) (is_ok answers.sync) (gives (Landed f.number) (landed dropped f s)) (gives (Failed f.number) (failed dropped s))
      (λ ok.
      still_settled t b its_count s its_owner dropped (finished JobKind.Ckpt (record s { owners = filter (λ e. not (waits_on f.number e.1)) s.owners; items = landed_items s.form.ends f s.items }))
      (record { form = refl; trans = refl; owner = still.owner; fresh = refl; content = refl }))
      (λ bad.
      still_settled t b its_count s its_owner dropped (finished JobKind.Ckpt (shut_down LogIoError (record s { items = record s.items { flight = None } })))
      (record { form = refl; trans = refl; owner = refl; fresh = refl; content = refl }))

  -- a checkpoint ends
  pub still_end : (answers : LogAnswers) (dropped : Dropped) → IsStill t b s (end dropped answers s).state
  still_end answers dropped = end_still dropped answers s.items.flight

  -- a flush
  pub still_flush : (answers : HomeAnswers) (dropped : Dropped) → IsStill t b s (flush dropped answers s).state
  still_flush answers dropped =
      fact_either (IsStill t b s) (length (flush_plan s) == 0) (gives Nothing (unflushed s)) (flushed dropped (flush_plan s) answers s) (λ none. record { form = refl; trans = refl; owner = refl; fresh = refl; content = refl })
      (λ some.
      still_settled t b its_count s its_owner dropped (renewed answers (finished JobKind.Flush (record s { items = cleaned (gone (flush_plan s) answers) s.items })))
      (record { form = refl; trans = refl; owner = refl; fresh = refl; content = refl }))
