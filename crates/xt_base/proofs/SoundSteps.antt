-- Each step of a mount keeps it sound: one lemma for each request and job.
use Rattle.std.proofs.Common.{◌≡◌, ◌≢◌, ◌∙◌, ◌⊎◌, ◌+◌, ◌*◌, ◌<◌, ◌≤◌, ◌∷◌, Bool, List, None, Option, Some, [], ap, arith, false, inl, inr, length, refl, subst, sym, true, ℕ}
use Rattle.std.proofs.Math.Nat.{le-mul_of_pos_right}
use Rattle.std.proofs.lemmas.Bool.{false≢true, and_cases, and_parts, eqb-false, false_from_ne_true, leb-false, ltb-false, ne_eqb, not-false, not-true, or_parts, or_right}
use Rattle.std.specs.Prelude.{filter, if◌then◌else◌, is_none, is_some, nat_le, nat_lt, not, sum_by, ◌&&◌, ◌/◌, ◌==◌, ◌||◌}
use Rattle.xt_base.proofs.BusyLemmas.{is_busy_in}
use Rattle.xt_base.proofs.KeyLemmas.{each_with_member, each_without_member, is_in_put, is_in_put_old, rises_keys_filter, rises_keys_with}
use Rattle.xt_base.proofs.LegLemmas.{charge_alike, covered_edit, is_in_with_marks, length_with_marks_ge, owned_there, rises_with_edits, rises_with_lost}
use Rattle.xt_base.proofs.MapLemmas.{at_put_same}
use Rattle.xt_base.proofs.RisingLemmas.{each_at, each_both, each_filter, each_in, each_map, each_passes, each_put, each_set_at, each_without, rises_filter, rises_put}
use Rattle.xt_base.proofs.OwnerNumbers.{IsGiven, given_aborted, given_ended, given_locked, given_more}
use Rattle.xt_base.proofs.SoundParts.{busy_active, busy_by, busy_committed, busy_flying, busy_owned, is_in_activated, none_else, parts_aborted, parts_empty, parts_ended, parts_failed, parts_flown, parts_landed, parts_leg, parts_locked, parts_opened}
use Rattle.xt_base.proofs.WrittenLemmas.{free_not_cancelled, written_ended, written_flown, written_landed, written_less, written_locked, written_none}
use Rattle.xt_base.specs.declared.steps.Reply.TheVariants.{Failed, Landed, Nothing, Okay, Refused, Wait}
use Rattle.xt_base.specs.Calls.{Outcome, commit_number, committed_of, gives, held_of, io_of, alloc, alloc_refusals, allocated, asks_ckpt, asks_flush, at_end, brought, busied, closed, commit, edited, first_of, force, freeze, freeze_refusals, get_refusals, is_elsewhere, is_fresh, is_own, locked, log_refusals, logged_leg, made_fresh, marked_frozen, new_trans, not_fresh, overwritten, push, seen, shut_down, shut_for, shutdown, thaw, unless, waits_for, with_leg, with_owner}
use Rattle.xt_base.specs.Chunks.{marks, union}
use Rattle.xt_base.specs.Form.{Form, IsForm}
use Rattle.xt_base.specs.Jobs.{activated, begin, begun, end, end_of, failed, finished, flown, is_ckpt, is_ok, is_outstanding, is_serial, is_waiting, landed, landed_items, next_pieces, posted, waits_on}
use Rattle.xt_base.specs.Legs.{aborted, change_of, ended, is_dirty, is_lost, is_stale, own_count, with_marks}
use Rattle.xt_base.specs.Maps.{at, is_in, put, set_at, without_member}
use Rattle.xt_base.specs.Owed.{is_owed, is_wanted, job}
use Rattle.xt_base.specs.Settle.{Dropped, settled}
use Rattle.xt_base.specs.Sound.{AreGiven, AreKept, AreNumbered, AreSound, AreWritten, Each, IsBetween, IsCovered, IsFair, IsReady, IsRising, IsSound, IsUnwritten, Owns, RisesFromKeys, is_cancelled}
use Rattle.xt_base.specs.Space.{busy_count, change_cost, charge, cost, flight_items, greatest, is_busy, is_listed, used}
use Rattle.xt_base.specs.State.{Change, Flight, Frames, Items, Jobs, Leg, State, Transaction, mount_of}
use Rattle.xt_base.specs.declared.names.JobKind.{JobKind}
use Rattle.xt_base.specs.declared.names.JobName.{JobName}
use Rattle.xt_base.specs.declared.sizes.TheConstants.{MOST_LOG}
use Rattle.xt_base.specs.declared.steps.Errno.{Errno}
use Rattle.xt_base.specs.declared.steps.Errno.TheVariants.{Again, Invalid, Io, NoBufs, NoSpace}
use Rattle.xt_base.specs.declared.steps.LogAnswers.{LogAnswers}
use Rattle.xt_base.specs.declared.steps.Owner.{Owner}
use Rattle.xt_base.specs.declared.steps.Owner.TheVariants.{Trans}
use Rattle.xt_base.specs.declared.steps.Reason.{Reason}
use Rattle.xt_base.specs.declared.steps.Reason.TheVariants.{ForceUmount, LogIoError}

-- ---- outcomes
-- one outcome or the other
pub sound_either : (b : Bool) (x y : Outcome) → (b ≡ true → IsSound x.state) → (b ≡ false → IsSound y.state) → IsSound (if b then x else y).state
sound_either true x y hx hy = hx refl
sound_either false x y hx hy = hy refl

-- refused and unchanged, or else what is done
pub sound_unless : (r : Option Errno) (s : State) (o : Outcome) → IsSound s → (None ≡ r → IsSound o.state) → IsSound (unless r s o).state
sound_unless None s o h passes = passes refl
sound_unless (Some e) s o h passes = h

-- the first of the tests that refuse does not hold, and neither do the others
pub passes_first : (t : Bool) (e : Errno) (rest : List (Bool × Errno)) → None ≡ first_of ((t, e) ∷ rest) → (t ≡ false) × (None ≡ first_of rest)
passes_first true e rest h = absurd (cc)
passes_first false e rest h = (refl, h)

-- nothing is none and some
pub is_none_some : {A : Type 0} (o : Option A) → is_none o ≡ true → is_some o ≡ true → ⊥
is_none_some None n s = absurd (cc)
is_none_some (Some x) n s = absurd (cc)

-- what is not some is none
pub is_none_not : {A : Type 0} (o : Option A) → is_some o ≡ false → is_none o ≡ true
is_none_not None h = refl
is_none_not (Some x) h = absurd (cc)

-- two do not hold both, and the first does
pub second_false : (x y : Bool) → x ≡ true → (x && y) ≡ false → y ≡ false
second_false true y is h = h
second_false false y is h = absurd (cc)

-- what holds of the first or the second, and not of the second
pub left_true : (x y : Bool) → y ≡ false → (x || y) ≡ true → x ≡ true
left_true true y off h = refl
left_true false y off h = absurd (cc)

-- on no list
pub listed_parts : (c f a : Bool) → (c || f || a) ≡ false → (c ≡ false) × (f ≡ false) × (a ≡ false)
listed_parts false false false h = (refl, refl, refl)
listed_parts true f a h = absurd (cc)
listed_parts false true a h = absurd (cc)
listed_parts false false true h = absurd (cc)

-- on no list, as each of the three says
pub unlisted_by : (c f a : Bool) → c ≡ false → f ≡ false → a ≡ false → (c || f || a) ≡ false
unlisted_by c f a hc hf ha = ap (λ x. x || f || a) hc ∙ ap (λ x. x || a) hf ∙ ha

none_flying : (o : Option Flight) (b : ℕ) → is_none o ≡ true → is_in b (flight_items o) ≡ true → ⊥
none_flying None b none there = false≢true there
none_flying (Some f) b none there = false≢true none

-- what neither flew nor was active is not active
not_active : (number : ℕ) (es : List (ℕ × List ℕ)) (ail : List (ℕ × ℕ)) (b : ℕ) → is_in b es ≡ false → is_in b ail ≡ false → is_in b (activated number es ail) ≡ false
not_active number es ail b flew old =
    false_from_ne_true (is_in b (activated number es ail))
    (λ there. elim (is_in_activated b number es ail there) [ inl now ↦ false≢true (sym flew ∙ now) | inr was ↦ false≢true (sym old ∙ was) ])

-- what no leg changed and no item was of is no item after a commit
pub not_marked : (cs : List (ℕ × Change)) (m : List (ℕ × List ℕ)) (b : ℕ) → is_in b cs ≡ false → is_in b m ≡ false → is_in b (with_marks cs m) ≡ false
not_marked cs m b changed old =
    false_from_ne_true (is_in b (with_marks cs m))
    (λ there. elim (is_in_with_marks b cs m there) [ inl now ↦ false≢true (sym changed ∙ now) | inr was ↦ false≢true (sym old ∙ was) ])

-- a block that nobody has was changed by nobody
unchanged_by : {ends : ℕ} (owners : List (ℕ × Owner)) (e : ℕ × Transaction) (b : ℕ) → is_in b owners ≡ false → IsFair ends owners e → is_in b e.1.leg.changes ≡ false
unchanged_by owners e b other fair =
    false_from_ne_true (is_in b e.1.leg.changes) (λ there. false≢true (sym other ∙ owned_there e.0 b owners (each_in (λ q. Owns owners e.0 q) b e.1.leg.changes there fair.owned)))

-- a change of a block changes no other
apart_put : (k b : ℕ) (c : Change) (changes : List (ℕ × Change)) → k ≢ b → is_in k changes ≡ false → is_in k (put b c changes) ≡ false
apart_put k b c changes other old = is_in_put k b c changes ∙ ap (λ x. x || is_in k changes) (ne_eqb k b other) ∙ old

-- a commit leaves a checkpoint that is outstanding something to write
pub ready_ended : (l : Items) (cs : List (ℕ × Change)) (j : Jobs) → IsReady l j → IsReady (record l { cil = with_marks cs l.cil }) j
ready_ended l cs j r = record {
  numbered = r.numbered;
  bounded = r.bounded;
  worth = λ out none. omega (arith, r.worth out none, length_with_marks_ge cs l.cil);
  room = r.room;
}

-- ---- steps that change no part
-- what was shut for a reason is not live
pub shut_for_some : (reason : Reason) (o : Option Reason) → is_none (shut_for reason o) ≡ true → ⊥
shut_for_some reason None h = absurd (cc)
shut_for_some reason (Some first) h = absurd (cc)

-- a mount is shut
pub sound_shut_down : (reason : Reason) (s : State) → IsSound s → IsSound (shut_down reason s)
sound_shut_down reason s h = record {
  form = h.form;
  log_small = h.log_small;
  numbers = h.numbers;
  parts = h.parts;
  kept = h.kept;
  ready = h.ready;
  legs_left = λ live. absurd (shut_for_some reason s.shut live);
  fresh_owned = λ live. absurd (shut_for_some reason s.shut live);
  given = h.given;
  written = λ live. absurd (shut_for_some reason s.shut live);
}

ready_jobs : (l : Items) (j k : Jobs) → k.ckpt ≡ j.ckpt → IsReady l j → IsReady l k
ready_jobs l j k same r = record {
  numbered = r.numbered;
  bounded = r.bounded;
  worth = λ out none. r.worth (sym (ap is_some same) ∙ out) none;
  room = λ out none. r.room (sym (ap is_some same) ∙ out) none;
}

-- other jobs, with the same outstanding checkpoint
pub sound_jobs : (k : Jobs) (s : State) → k.ckpt ≡ s.jobs.ckpt → IsSound s → IsSound (record s { jobs = k })
sound_jobs k s same h = record {
  form = h.form;
  log_small = h.log_small;
  numbers = h.numbers;
  parts = h.parts;
  kept = h.kept;
  ready = ready_jobs s.items s.jobs k same h.ready;
  legs_left = h.legs_left;
  fresh_owned = h.fresh_owned;
  given = h.given;
  written = h.written;
}

-- a checkpoint is asked
pub sound_asks_ckpt : (s : State) → IsSound s → IsSound (asks_ckpt s)
sound_asks_ckpt s h = sound_jobs (record s.jobs { asked_ckpt = s.jobs.asked_ckpt || not (length s.items.cil == 0) }) s refl h

-- a flush is asked
pub sound_asks_flush : (s : State) → IsSound s → IsSound (asks_flush s)
sound_asks_flush s h = sound_jobs (record s.jobs { asked_flush = true }) s refl h

-- a force
pub sound_force : (s : State) → IsSound s → IsSound (force s).state
sound_force s h =
    sound_either (is_some s.shut) (gives (Refused Io) s) (if length s.items.cil == 0 then gives (waits_for s.items.flight) s else gives (Wait s.items.open_number) (asks_ckpt s)) (λ shut. h)
    (λ live. sound_either (length s.items.cil == 0) (gives (waits_for s.items.flight) s) (gives (Wait s.items.open_number) (asks_ckpt s)) (λ none. h) (λ some. sound_asks_ckpt s h))

-- a push
pub sound_push : (s : State) → IsSound s → IsSound (push s).state
sound_push s h = sound_either (is_some s.shut) (gives (Refused Io) s) (gives Okay (asks_flush s)) (λ shut. h) (λ live. sound_asks_flush s h)

-- a shutdown
pub sound_shutdown : (s : State) → IsSound s → IsSound (shutdown s).state
sound_shutdown s h = sound_shut_down ForceUmount s h

-- the frozen mark is set or taken away
pub sound_marked_frozen : (frozen : Bool) (s : State) → IsSound s → IsSound (marked_frozen frozen s)
sound_marked_frozen frozen s h = record {
  form = h.form;
  log_small = h.log_small;
  numbers = h.numbers;
  parts = h.parts;
  kept = h.kept;
  ready = h.ready;
  legs_left = h.legs_left;
  fresh_owned = h.fresh_owned;
  given = h.given;
  written = h.written;
}

-- a freeze
pub sound_freeze : (s : State) → IsSound s → IsSound (freeze s).state
sound_freeze s h = sound_unless (first_of (freeze_refusals s)) s (gives Okay (marked_frozen true s)) h (λ passes. sound_marked_frozen true s h)

-- a thaw
pub sound_thaw : (s : State) → IsSound s → IsSound (thaw s).state
sound_thaw s h = sound_either s.frozen (gives Okay (marked_frozen false s)) (gives (Refused Invalid) s) (λ frozen. sound_marked_frozen false s h) (λ other. h)

-- ---- mount
-- a new mount with a log of at most 16 MiB
pub sound_mount : (slot life log_bytes blocks : ℕ) (form : Form) → IsForm form → log_bytes ≤ MOST_LOG → IsSound (mount_of slot life log_bytes blocks form)
sound_mount slot life log_bytes blocks form is small = record {
  form = is;
  log_small = small;
  numbers = tt;
  parts = parts_empty form.ends log_bytes;
  kept = record { committed_rises = tt; committed_busy = tt; fresh_rises = tt; fresh_busy = tt };
  ready = record { numbered = omega arith; bounded = omega arith; worth = λ out none. absurd (cc out); room = λ out none. absurd (cc out) };
  legs_left = λ live. tt;
  fresh_owned = λ live. tt;
  given = tt;
  written = λ live. written_none;
}

-- ---- settling
-- what holds of a state as it settles: what is not busy leaves its frames
pub sound_settling : (dropped : Dropped) (s : State) → IsForm s.form → s.log_bytes ≤ MOST_LOG → AreNumbered s.last_trans s.transactions → AreSound s.form.ends s.log_bytes s.owners s.transactions s.items → IsRising s.frames.committed → RisesFromKeys 0 s.frames.fresh → IsReady s.items s.jobs
    → (is_none s.shut ≡ true → Each (λ e. 1 ≤ e.1.legs) s.transactions)
    → (is_none s.shut ≡ true → Each (λ b. is_busy s b ≡ true → IsUnwritten s.owners s.transactions s.items b) s.frames.fresh)
    → AreGiven s.last_trans s.owners → (is_none s.shut ≡ true → AreWritten s.owners s.frames.committed s.items) → IsSound (settled dropped s)
sound_settling dropped s form small numbers parts committed fresh ready legs unwritten given written = record {
  form = form;
  log_small = small;
  numbers = numbers;
  parts = parts;
  kept = record {
    committed_rises = rises_filter 0 (λ e. is_busy s e.0) s.frames.committed committed;
    committed_busy = each_passes (λ e. is_busy s e.0) s.frames.committed;
    fresh_rises = rises_keys_filter 0 (is_busy s) s.frames.fresh fresh;
    fresh_busy = each_passes (is_busy s) s.frames.fresh;
  };
  ready = ready;
  legs_left = legs;
  fresh_owned = λ live.
      each_map (λ b. (is_busy s b ≡ true → IsUnwritten s.owners s.transactions s.items b) × (is_busy s b ≡ true)) (IsUnwritten s.owners s.transactions s.items) (filter (is_busy s) s.frames.fresh) (λ b both. both.0 both.1)
      (each_both (λ b. is_busy s b ≡ true → IsUnwritten s.owners s.transactions s.items b) (λ b. is_busy s b ≡ true) (filter (is_busy s) s.frames.fresh)
      (each_filter (λ b. is_busy s b ≡ true → IsUnwritten s.owners s.transactions s.items b) (is_busy s) s.frames.fresh (unwritten live)) (each_passes (is_busy s) s.frames.fresh));
  given = given;
  written = λ live. written_less s.owners s.frames.committed s.items (written live) (is_busy s) (λ b there. or_right (is_in b s.owners) (is_listed s.items b) there);
}

-- ---- alloc
-- a transaction opens, where its grant finds room
pub sound_allocated : (unit count : ℕ) (perm : Bool) (s : State) → IsSound s → 1 ≤ count → used s + unit * count ≤ s.log_bytes → IsSound (allocated unit count perm s).state
sound_allocated unit count perm s h some room = record {
  form = h.form;
  log_small = h.log_small;
  numbers = each_put (λ e. e.0 ≤ s.last_trans + 1) (s.last_trans + 1) (new_trans unit count perm) s.transactions (omega arith) (each_map (λ e. e.0 ≤ s.last_trans) (λ e. e.0 ≤ s.last_trans + 1) s.transactions (λ e below. omega (arith, below)) h.numbers);
  parts = parts_opened s.form.ends s.log_bytes s.owners s.transactions s.items h.parts (s.last_trans + 1) (new_trans unit count perm) (record { unit = omega arith; rising = tt; covered = tt; owned = tt; holds_rise = tt; holds_owned = tt }) room;
  kept = h.kept;
  ready = h.ready;
  legs_left = λ live. each_put (λ e. 1 ≤ e.1.legs) (s.last_trans + 1) (new_trans unit count perm) s.transactions some (h.legs_left live);
  fresh_owned = λ live.
      each_map (IsUnwritten s.owners s.transactions s.items) (IsUnwritten s.owners (put (s.last_trans + 1) (new_trans unit count perm) s.transactions) s.items) s.frames.fresh
      (λ b u. record {
        owned = u.owned;
        unlisted = u.unlisted;
        unchanged = each_put (λ e. is_in b e.1.leg.changes ≡ false) (s.last_trans + 1) (new_trans unit count perm) s.transactions refl u.unchanged;
      })
      (h.fresh_owned live);
  given = given_more s.last_trans s.owners h.given;
  written = h.written;
}

-- an alloc, refused or not
pub sound_alloc : (unit count : ℕ) (perm : Bool) (s : State) → IsSound s → IsSound (alloc unit count perm s).state
sound_alloc unit count perm s h =
    let full : Bool = nat_lt s.log_bytes (used s + unit * count) in
    let bad : Bool = (unit == 0) || (count == 0) || nat_lt 8 count || (nat_lt 1 count && not perm) || nat_lt s.log_bytes (unit * count) in
    sound_unless (first_of (alloc_refusals unit count perm s)) s (if full then gives (Refused Again) (asks_flush (asks_ckpt s)) else allocated unit count perm s) h
    (λ passes.
    sound_either full (gives (Refused Again) (asks_flush (asks_ckpt s))) (allocated unit count perm s) (λ lack. sound_asks_flush (asks_ckpt s) (sound_asks_ckpt s h))
    (λ room.
    let good = passes_first bad Invalid ((is_some s.shut, Io) ∷ (s.frozen, Again) ∷ (s.last_trans == greatest, NoSpace) ∷ (nat_le 32 (length s.transactions), Again) ∷ []) passes in
    let some : (count == 0) ≡ false = (or_parts (unit == 0) (count == 0) (or_parts _ _ (or_parts _ _ (or_parts _ _ good.0).0).0).0).1 in
    sound_allocated unit count perm s h (omega (arith, eqb-false count 0 some)) (ltb-false s.log_bytes (used s + unit * count) room)))

-- ---- post, begin
ready_posted : (kind : JobKind) (s : State) → IsReady s.items s.jobs → is_wanted kind s ≡ true → IsReady s.items (posted kind s).jobs
ready_posted JobKind.Ckpt s r wanted =
    let last : Bool = s.items.open_number == greatest in
    let empty : Bool = length s.items.cil == 0 in
    let least : ℕ = if s.jobs.asked_ckpt then 0 else s.log_bytes / 8 in
    let three : (is_none s.items.flight && not last && not empty) ≡ true = (and_parts (is_none s.items.flight && not last && not empty) (nat_le least (cost s.form.ends s.items.cil)) wanted).0 in
    let two : (is_none s.items.flight && not last) ≡ true = (and_parts (is_none s.items.flight && not last) (not empty) three).0 in
    let some : empty ≡ false = not-true empty (and_parts (is_none s.items.flight && not last) (not empty) three).1 in
    let left : last ≡ false = not-true last (and_parts (is_none s.items.flight) (not last) two).1 in
    let bounded = r.bounded in
    record {
      numbered = r.numbered;
      bounded = r.bounded;
      worth = λ out none. omega (arith, eqb-false (length s.items.cil) 0 some);
      room = λ out none. omega (arith, bounded, eqb-false s.items.open_number greatest left);
    }
ready_posted JobKind.Flush s r wanted = ready_jobs s.items s.jobs (posted JobKind.Flush s).jobs refl r

-- a job that is owed is posted
pub sound_posted : (kind : JobKind) (s : State) → IsSound s → is_owed kind s ≡ true → IsSound (posted kind s)
sound_posted kind s h owed = record {
  form = h.form;
  log_small = h.log_small;
  numbers = h.numbers;
  parts = h.parts;
  kept = h.kept;
  ready = ready_posted kind s h.ready (and_parts (is_none s.shut) (is_wanted kind s) (and_parts _ _ (and_parts _ _ owed).0).0).1;
  legs_left = h.legs_left;
  fresh_owned = h.fresh_owned;
  given = h.given;
  written = h.written;
}

serial_there : (n : ℕ) (o : Option ℕ) → is_serial n o ≡ true → is_some o ≡ true
serial_there n None h = h
serial_there n (Some k) h = refl

ckpt_there : (kind : JobKind) (n : ℕ) (j : Jobs) → is_ckpt kind ≡ true → is_serial n (job kind j) ≡ true → is_some j.ckpt ≡ true
ckpt_there JobKind.Ckpt n j is out = serial_there n j.ckpt out
ckpt_there JobKind.Flush n j is out = absurd (cc)

ready_finished : (l n : Items) (j : Jobs) → n.open_number ≡ l.open_number → IsReady l j → IsReady n (record j { ckpt = None })
ready_finished l n j same r =
    let numbered = r.numbered in
    let bounded = r.bounded in
    record {
      numbered = omega (arith, numbered, same);
      bounded = omega (arith, bounded, same);
      worth = λ out none. absurd (cc out);
      room = λ out none. absurd (cc out);
    }

-- no checkpoint is outstanding
pub sound_finished : (s : State) → IsSound s → IsSound (finished JobKind.Ckpt s)
sound_finished s h = record {
  form = h.form;
  log_small = h.log_small;
  numbers = h.numbers;
  parts = h.parts;
  kept = h.kept;
  ready = ready_finished s.items s.items s.jobs refl h.ready;
  legs_left = h.legs_left;
  fresh_owned = h.fresh_owned;
  given = h.given;
  written = h.written;
}

-- the flight comes before the open checkpoint
flies_below : (l : Items) (f : Flight) → l.flight ≡ Some f → IsBetween l.flight l → f.number < l.open_number
flies_below l f is between = (subst (λ o. IsBetween o l) is between).0

module _ (s : State) (h : IsSound s) where
  -- the frames of a step after which each busy block is busy still
  kept_on : (n : State) → ((b : ℕ) → is_busy s b ≡ true → is_busy n b ≡ true) → AreKept (is_busy n) s.frames
  kept_on n still = record {
    committed_rises = h.kept.committed_rises;
    committed_busy = each_map (λ e. is_busy s e.0 ≡ true) (λ e. is_busy n e.0 ≡ true) s.frames.committed (λ e busy. still e.0 busy) h.kept.committed_busy;
    fresh_rises = h.kept.fresh_rises;
    fresh_busy = each_map (λ b. is_busy s b ≡ true) (λ b. is_busy n b ≡ true) s.frames.fresh still h.kept.fresh_busy;
  }

  -- the committed items become the flight of an outstanding checkpoint
  pub sound_flown : (pieces : List (List ℕ)) → is_some s.jobs.ckpt ≡ true → is_none s.items.flight ≡ true → IsSound (flown pieces s)
  sound_flown pieces out none =
      let numbered = h.ready.numbered in
      let room = h.ready.room out none in
      let n : State = flown pieces s in
      record {
        form = h.form;
        log_small = h.log_small;
        numbers = h.numbers;
        parts = parts_flown s.form.ends s.log_bytes s.owners s.transactions s.items h.parts pieces none;
        kept = kept_on n (λ b busy. busy_by s.owners s.items b (is_busy n b) (busy_owned n.owners n.items b) (busy_flying n.owners n.items b) (λ there. absurd (none_flying s.items.flight b none there)) (busy_active n.owners n.items b) busy);
        ready = record {
          numbered = omega arith;
          bounded = omega (arith, room);
          worth = λ out none. absurd (cc none);
          room = λ out none. absurd (cc none);
        };
        legs_left = h.legs_left;
        fresh_owned = λ live.
            each_map (IsUnwritten s.owners s.transactions s.items) (IsUnwritten s.owners s.transactions n.items) s.frames.fresh
            (λ b u.
            let off = listed_parts (is_in b s.items.cil) (is_in b (flight_items s.items.flight)) (is_in b s.items.ail) u.unlisted in
            record { owned = u.owned; unlisted = unlisted_by false (is_in b s.items.cil) (is_in b s.items.ail) refl off.0 off.2; unchanged = u.unchanged })
            (h.fresh_owned live);
        given = h.given;
        written = λ live. written_flown s.owners s.frames.committed s.items (h.written live) pieces none;
      }

  -- the begin of a checkpoint job that waits
  pub sound_begin : (name : JobName) → is_waiting name s ≡ true → is_ckpt name.kind ≡ true → IsSound (begin s).state
  sound_begin name waits ckpt =
      let both = and_parts (is_outstanding name s) (not (is_ckpt name.kind && is_some s.items.flight)) waits in
      let out : is_some s.jobs.ckpt ≡ true = ckpt_there name.kind name.serial s.jobs ckpt (and_parts (name.life == s.life) (is_serial name.serial (job name.kind s.jobs)) both.0).1 in
      let none : is_none s.items.flight ≡ true = is_none_not s.items.flight (second_false (is_ckpt name.kind) (is_some s.items.flight) ckpt (not-true (is_ckpt name.kind && is_some s.items.flight) both.1)) in
      sound_either (is_some s.shut) (gives Nothing (finished JobKind.Ckpt s)) (begun (next_pieces s) s) (λ shut. sound_finished s h) (λ live. sound_flown (next_pieces s) out none)

  -- ---- end
  -- the flight is given up, and the mount is shut
  pub sound_failed : (dropped : Dropped) → IsSound (failed dropped s)
  sound_failed dropped =
      sound_settling dropped (finished JobKind.Ckpt (shut_down LogIoError (record s { items = record s.items { flight = None } }))) h.form h.log_small h.numbers
      (parts_failed s.form.ends s.log_bytes s.owners s.transactions s.items h.parts) h.kept.committed_rises h.kept.fresh_rises (ready_finished s.items (record s.items { flight = None }) s.jobs refl h.ready)
      (λ live. absurd (shut_for_some LogIoError s.shut live)) (λ live. absurd (shut_for_some LogIoError s.shut live)) h.given (λ live. absurd (shut_for_some LogIoError s.shut live))

  -- the flight is on the log
  pub sound_landed : (dropped : Dropped) (f : Flight) → s.items.flight ≡ Some f → IsSound (landed dropped f s)
  sound_landed dropped f is =
      let ns : List (ℕ × Owner) = filter (λ e. not (waits_on f.number e.1)) s.owners in
      let n : Items = landed_items s.form.ends f s.items in
      sound_settling dropped (finished JobKind.Ckpt (record s { owners = ns; items = n })) h.form h.log_small h.numbers
      (parts_landed s.form.ends s.log_bytes s.owners s.transactions s.items h.parts f is) h.kept.committed_rises h.kept.fresh_rises (ready_finished s.items n s.jobs refl h.ready) h.legs_left
      (λ live.
      each_map (IsUnwritten s.owners s.transactions s.items) (λ b. is_busy_in ns n b ≡ true → IsUnwritten ns s.transactions n b) s.frames.fresh
      (λ b u busy.
      let off = listed_parts (is_in b s.items.cil) (is_in b (flight_items s.items.flight)) (is_in b s.items.ail) u.unlisted in
      let inactive : is_in b n.ail ≡ false = not_active f.number f.items s.items.ail b (sym (ap (λ o. is_in b (flight_items o)) is) ∙ off.1) off.2 in
      let unlisted : is_listed n b ≡ false = unlisted_by (is_in b s.items.cil) false (is_in b n.ail) off.0 refl inactive in
      record { owned = left_true (is_in b ns) (is_listed n b) unlisted busy; unlisted = unlisted; unchanged = u.unchanged })
      (h.fresh_owned live))
      (each_filter (IsGiven s.last_trans) (λ e. not (waits_on f.number e.1)) s.owners h.given)
      (λ live. written_landed s.owners s.frames.committed s.items (h.written live) s.form.ends f is (flies_below s.items f is h.parts.flying) h.parts.owners_rise (subst (λ o. IsRising (flight_items o)) is h.parts.flight_rises) h.parts.ail_rises)

  end_sound : (dropped : Dropped) (answers : LogAnswers) (o : Option Flight) → s.items.flight ≡ o → IsSound (end_of dropped answers s o).state
  end_sound dropped answers None is = h
  end_sound dropped answers (Some f) is =
      sound_either (is_ok answers.sync) (gives (Landed f.number) (landed dropped f s)) (gives (Failed f.number) (failed dropped s)) (λ ok. sound_landed dropped f is) (λ bad. sound_failed dropped)

  -- the end of a checkpoint, whatever the log device answered
  pub sound_end : (dropped : Dropped) (answers : LogAnswers) → IsSound (end dropped answers s).state
  sound_end dropped answers = end_sound dropped answers s.items.flight refl

-- ---- get
-- a block that no other transaction has and that was not invalidated
module _ (t b count : ℕ) (s : State) (h : IsSound s) (below : t ≤ s.last_trans) (live : is_cancelled (at b s.owners) ≡ false) (free : (u : ℕ) → Owns s.owners u b → t ≡ u) where
  owned_more : (q : ℕ) → is_busy s q ≡ true → is_busy (with_owner b (Trans t count) s) q ≡ true
  owned_more q busy =
      let ns : List (ℕ × Owner) = put b (Trans t count) s.owners in
      busy_by s.owners s.items q (is_busy_in ns s.items q) (λ there. busy_owned ns s.items q (is_in_put_old q b (Trans t count) s.owners there))
      (busy_committed ns s.items q) (busy_flying ns s.items q) (busy_active ns s.items q) busy

  owned_now : is_busy (with_owner b (Trans t count) s) b ≡ true
  owned_now = busy_owned (put b (Trans t count) s.owners) s.items b (ap is_some (at_put_same b (Trans t count) s.owners))

  unwritten_more : (q : ℕ) → IsUnwritten s.owners s.transactions s.items q → IsUnwritten (put b (Trans t count) s.owners) s.transactions s.items q
  unwritten_more q u = record { owned = is_in_put_old q b (Trans t count) s.owners u.owned; unlisted = u.unlisted; unchanged = u.unchanged }

  -- with these frames
  pub sound_owner : (frames : Frames) → (is_busy s b ≡ true) ⊎ (busy_count s < 64) → AreKept (is_busy (with_owner b (Trans t count) s)) frames
      → (is_none s.shut ≡ true → Each (IsUnwritten (put b (Trans t count) s.owners) s.transactions s.items) frames.fresh) → ((q : ℕ) → is_in q s.frames.committed ≡ true → is_in q frames.committed ≡ true)
      → IsSound (with_owner b (Trans t count) (record s { frames = frames }))
  sound_owner frames room kept unwritten more = record {
    form = h.form;
    log_small = h.log_small;
    numbers = h.numbers;
    parts = parts_locked s.form.ends s.log_bytes s.owners s.transactions s.items h.parts t b count free room;
    kept = kept;
    ready = h.ready;
    legs_left = h.legs_left;
    fresh_owned = unwritten;
    given = given_locked s.last_trans b t count s.owners below h.given;
    written = λ on. written_locked s.owners s.frames.committed s.items (h.written on) t b count frames.committed live more;
  }

  -- a busy block
  pub sound_owner_busy : is_busy s b ≡ true → IsSound (with_owner b (Trans t count) s)
  sound_owner_busy busy =
      sound_owner s.frames (inl busy) (kept_on s h (with_owner b (Trans t count) s) owned_more)
      (λ live. each_map (IsUnwritten s.owners s.transactions s.items) (IsUnwritten (put b (Trans t count) s.owners) s.transactions s.items) s.frames.fresh unwritten_more (h.fresh_owned live)) (λ q there. there)

  -- a block with a content
  pub sound_owner_content : (content : List ℕ) → (is_busy s b ≡ true) ⊎ (busy_count s < 64) → IsSound (with_owner b (Trans t count) (busied b content s))
  sound_owner_content content room =
      let n : State = with_owner b (Trans t count) s in
      let kept = kept_on s h n owned_more in
      sound_owner (busied b content s).frames room
      (record {
        committed_rises = rises_put 0 b content s.frames.committed (omega arith) kept.committed_rises;
        committed_busy = each_put (λ e. is_busy n e.0 ≡ true) b content s.frames.committed owned_now kept.committed_busy;
        fresh_rises = kept.fresh_rises;
        fresh_busy = kept.fresh_busy;
      })
      (λ live. each_map (IsUnwritten s.owners s.transactions s.items) (IsUnwritten (put b (Trans t count) s.owners) s.transactions s.items) s.frames.fresh unwritten_more (h.fresh_owned live))
      (λ q there. is_in_put_old q b content s.frames.committed there)

  -- a block that is neither
  pub sound_owner_fresh : is_busy s b ≡ false → busy_count s < 64 → IsSound (with_owner b (Trans t count) (made_fresh b s))
  sound_owner_fresh other room =
      let n : State = with_owner b (Trans t count) s in
      let kept = kept_on s h n owned_more in
      let apart = or_parts (is_in b s.owners) (is_listed s.items b) other in
      let new : IsUnwritten (put b (Trans t count) s.owners) s.transactions s.items b = record {
        owned = ap is_some (at_put_same b (Trans t count) s.owners);
        unlisted = apart.1;
        unchanged = each_map (IsFair s.form.ends s.owners) (λ e. is_in b e.1.leg.changes ≡ false) s.transactions (λ e fair. unchanged_by s.owners e b apart.0 fair) h.parts.fair;
      } in
      sound_owner (made_fresh b s).frames (inr room)
      (record {
        committed_rises = kept.committed_rises;
        committed_busy = kept.committed_busy;
        fresh_rises = rises_keys_with 0 b s.frames.fresh (omega arith) kept.fresh_rises;
        fresh_busy = each_with_member (λ q. is_busy n q ≡ true) b s.frames.fresh owned_now kept.fresh_busy;
      })
      (λ live. each_with_member (IsUnwritten (put b (Trans t count) s.owners) s.transactions s.items) b s.frames.fresh new
      (each_map (IsUnwritten s.owners s.transactions s.items) (IsUnwritten (put b (Trans t count) s.owners) s.transactions s.items) s.frames.fresh unwritten_more (h.fresh_owned live))) (λ q there. there)

  brought_sound : (idle : Option (List ℕ)) → is_busy s b ≡ false → busy_count s < 64 → IsSound (with_owner b (Trans t count) (brought b idle s))
  brought_sound None other room = sound_owner_fresh other room
  brought_sound (Some content) other room = sound_owner_content content (inr room)

  first_sound : (busy : Bool) → is_busy s b ≡ busy → (not busy && nat_le 64 (busy_count s)) ≡ false → IsSound (with_owner b (Trans t count) (if busy then s else brought b (at b s.frames.idle) s))
  first_sound true is room = sound_owner_busy is
  first_sound false is room = brought_sound (at b s.frames.idle) is (leb-false 64 (busy_count s) room)

-- a block that a transaction has is locked once more, another is locked first
pub sound_locked : (t b : ℕ) (own : Option ℕ) (s : State) → IsSound s → t ≤ s.last_trans → own_count t (at b s.owners) ≡ own → is_elsewhere s t b ≡ false → (not (is_busy s b) && nat_le 64 (busy_count s)) ≡ false → IsSound (locked t b own s)
sound_locked t b (Some count) s h below is free room =
    sound_owner_busy t b (count + 1) s h below (free_not_cancelled t (at b s.owners) free) (none_else t b s.owners free) (busy_owned s.owners s.items b (owned_there t b s.owners (ap is_some is)))
sound_locked t b None s h below is free room = first_sound t b 0 s h below (free_not_cancelled t (at b s.owners) free) (none_else t b s.owners free) (is_busy s b) refl room

-- a get that nothing refuses
pub sound_get : (t b : ℕ) (s : State) → IsSound s → t ≤ s.last_trans → None ≡ first_of (get_refusals t b s) → IsSound (locked t b (own_count t (at b s.owners)) s)
sound_get t b s h below passes =
    let first = passes_first (nat_le s.blocks b) Invalid ((is_some s.shut, Io) ∷ (at_end (own_count t (at b s.owners)), Invalid) ∷ (is_elsewhere s t b, Again) ∷ (not (is_busy s b) && nat_le 64 (busy_count s), NoBufs) ∷ []) passes in
    let second = passes_first (is_some s.shut) Io ((at_end (own_count t (at b s.owners)), Invalid) ∷ (is_elsewhere s t b, Again) ∷ (not (is_busy s b) && nat_le 64 (busy_count s), NoBufs) ∷ []) first.1 in
    let third = passes_first (at_end (own_count t (at b s.owners))) Invalid ((is_elsewhere s t b, Again) ∷ (not (is_busy s b) && nat_le 64 (busy_count s), NoBufs) ∷ []) second.1 in
    let fourth = passes_first (is_elsewhere s t b) Again ((not (is_busy s b) && nat_le 64 (busy_count s), NoBufs) ∷ []) third.1 in
    let fifth = passes_first (not (is_busy s b) && nat_le 64 (busy_count s)) NoBufs [] fourth.1 in
    sound_locked t b (own_count t (at b s.owners)) s h below refl fourth.0 fifth.0

-- ---- log
-- a leg with one more edit, which is charged within the unit
pub edit_fair : (ends t b : ℕ) (content marked : List ℕ) (owners : List (ℕ × Owner)) (trans : Transaction) → IsFair ends owners (t, trans) → Owns owners t b
    → charge ends (edited b [] marked trans.leg).changes ≤ trans.unit → IsFair ends owners (t, record trans { leg = edited b content marked trans.leg })
edit_fair ends t b content marked owners trans fair own room =
    let c : Change = record { edit = Some content; marks = union (change_of b trans.leg).marks marked; charged = union (change_of b trans.leg).charged marked } in
    record {
      unit = omega (arith, room, charge_alike ends b content [] marked trans.leg fair.rising);
      rising = rises_put 0 b c trans.leg.changes (omega arith) fair.rising;
      covered = each_put IsCovered b c trans.leg.changes (covered_edit b content marked trans.leg fair.covered) fair.covered;
      owned = each_put (λ e. Owns owners t e.0) b c trans.leg.changes own fair.owned;
      holds_rise = fair.holds_rise;
      holds_owned = fair.holds_owned;
    }

-- a transaction's leg changes one more block, which is fresh no more
pub sound_changed : (t b : ℕ) (c : Change) (holds : List ℕ) (s : State) (trans : Transaction) → IsSound s → at t s.transactions ≡ Some trans
    → IsFair s.form.ends s.owners (t, record trans { leg = record { changes = put b c trans.leg.changes; holds = holds } }) → IsSound (not_fresh b (with_leg t trans (record { changes = put b c trans.leg.changes; holds = holds }) s))
sound_changed t b c holds s trans h is fair =
    let leg : Leg = record { changes = put b c trans.leg.changes; holds = holds } in
    let ts : List (ℕ × Transaction) = set_at t (record trans { leg = leg }) s.transactions in
    record {
      form = h.form;
      log_small = h.log_small;
      numbers = each_set_at (λ e. e.0 ≤ s.last_trans) t (record trans { leg = leg }) s.transactions (each_at (λ e. e.0 ≤ s.last_trans) t trans s.transactions is h.numbers) h.numbers;
      parts = parts_leg s.form.ends s.log_bytes s.owners s.transactions s.items h.parts t trans leg is fair;
      kept = record {
        committed_rises = h.kept.committed_rises;
        committed_busy = h.kept.committed_busy;
        fresh_rises = rises_keys_filter 0 (λ k. not (k == b)) s.frames.fresh h.kept.fresh_rises;
        fresh_busy = each_filter (λ k. is_busy s k ≡ true) (λ k. not (k == b)) s.frames.fresh h.kept.fresh_busy;
      };
      ready = h.ready;
      legs_left = λ live. each_set_at (λ e. 1 ≤ e.1.legs) t (record trans { leg = leg }) s.transactions (each_at (λ e. 1 ≤ e.1.legs) t trans s.transactions is (h.legs_left live)) (h.legs_left live);
      fresh_owned = λ live.
          each_map (λ k. IsUnwritten s.owners s.transactions s.items k × (k ≢ b)) (IsUnwritten s.owners ts s.items) (without_member b s.frames.fresh)
          (λ k both. record {
            owned = both.0.owned;
            unlisted = both.0.unlisted;
            unchanged =
                each_set_at (λ e. is_in k e.1.leg.changes ≡ false) t (record trans { leg = leg }) s.transactions
                (apart_put k b c trans.leg.changes both.1 (each_at (λ e. is_in k e.1.leg.changes ≡ false) t trans s.transactions is both.0.unchanged)) both.0.unchanged;
          })
          (each_without_member (IsUnwritten s.owners s.transactions s.items) b s.frames.fresh (h.fresh_owned live));
      given = h.given;
      written = h.written;
    }

-- a block that a transaction has is edited, within its unit
pub sound_edited : (t b : ℕ) (content marked : List ℕ) (s : State) (trans : Transaction) → IsSound s → at t s.transactions ≡ Some trans → is_own s t b ≡ true
    → charge s.form.ends (edited b [] marked trans.leg).changes ≤ trans.unit → IsSound (not_fresh b (with_leg t trans (edited b content marked trans.leg) s))
sound_edited t b content marked s trans h is own room =
    let fair : IsFair s.form.ends s.owners (t, trans) = each_at (IsFair s.form.ends s.owners) t trans s.transactions is h.parts.fair in
    sound_changed t b (record { edit = Some content; marks = union (change_of b trans.leg).marks marked; charged = union (change_of b trans.leg).charged marked }) trans.leg.holds s trans h is
    (edit_fair s.form.ends t b content marked s.owners trans fair own room)

-- a log request that nothing refuses
pub sound_log : (t b first : ℕ) (bytes : List ℕ) (s : State) (trans : Transaction) → IsSound s → at t s.transactions ≡ Some trans → None ≡ first_of (log_refusals t b first bytes trans s)
    → IsSound (not_fresh b (with_leg t trans (logged_leg s.form.size b first bytes s.frames trans.leg) s))
sound_log t b first bytes s trans h is passes =
    let empty : Bool = (length bytes == 0) || nat_lt s.form.size (first + length bytes) in
    let partly : Bool = (is_fresh s b || is_stale b trans.leg) && not ((first == 0) && (length bytes == s.form.size)) in
    let over : Bool = nat_lt trans.unit (charge s.form.ends (edited b [] (marks first (length bytes)) trans.leg).changes) in
    let one = passes_first (not (is_own s t b)) Invalid ((empty, Invalid) ∷ (partly, Invalid) ∷ (over, NoSpace) ∷ []) passes in
    let two = passes_first empty Invalid ((partly, Invalid) ∷ (over, NoSpace) ∷ []) one.1 in
    let three = passes_first partly Invalid ((over, NoSpace) ∷ []) two.1 in
    let four = passes_first over NoSpace [] three.1 in
    sound_edited t b (overwritten first bytes (seen s.form.size b trans.leg s.frames)) (marks first (length bytes)) s trans h is (not-false (is_own s t b) one.0)
    (ltb-false trans.unit (charge s.form.ends (edited b [] (marks first (length bytes)) trans.leg).changes) four.0)

-- ---- commit
-- on a live mount a grant covers the charge
pub charge_granted : (t : ℕ) (s : State) (trans : Transaction) → IsSound s → at t s.transactions ≡ Some trans → is_none s.shut ≡ true → charge s.form.ends trans.leg.changes ≤ trans.unit * trans.legs
charge_granted t s trans h is live =
    let fair : IsFair s.form.ends s.owners (t, trans) = each_at (IsFair s.form.ends s.owners) t trans s.transactions is h.parts.fair in
    let legs : 1 ≤ trans.legs = each_at (λ e. 1 ≤ e.1.legs) t trans s.transactions is (h.legs_left live) in
    let unit = fair.unit in
    omega (arith, unit, le-mul_of_pos_right {m = trans.legs} trans.unit (omega (arith, legs)))

clean_charge : (ends : ℕ) (leg : Leg) → is_dirty leg ≡ false → charge ends leg.changes ≡ 0
clean_charge ends leg clean = ap {B = ℕ} (λ (b : Bool). if b then 0 else ends + sum_by change_cost leg.changes) (not-false (length leg.changes == 0) clean)

module _ (dropped : Dropped) (t : ℕ) (s : State) (trans : Transaction) (h : IsSound s) (is : at t s.transactions ≡ Some trans) where
  -- a leg that is given up, on a shut mount
  pub sound_aborted : is_some s.shut ≡ true → IsSound (settled dropped (closed t (aborted t trans.leg s)))
  sound_aborted shut =
      sound_settling dropped (closed t (aborted t trans.leg s)) h.form h.log_small (each_without (λ e. e.0 ≤ s.last_trans) t s.transactions h.numbers) (parts_aborted s.form.ends s.log_bytes s.owners s.transactions s.items h.parts t trans is)
      (rises_filter 0 (λ e. not (is_lost trans.leg e.0)) s.frames.committed h.kept.committed_rises) (rises_with_lost trans.leg.changes trans.leg s.frames.fresh h.kept.fresh_rises) h.ready
      (λ live. absurd (is_none_some s.shut live shut)) (λ live. absurd (is_none_some s.shut live shut)) (given_aborted s.last_trans t trans.leg s.owners h.given) (λ live. absurd (is_none_some s.shut live shut))

  -- a leg that is committed
  pub sound_ended : charge s.form.ends trans.leg.changes ≤ trans.unit * trans.legs → IsSound (settled dropped (closed t (ended t trans.leg s)))
  sound_ended within =
      let n : State = closed t (ended t trans.leg s) in
      sound_settling dropped n h.form h.log_small (each_without (λ e. e.0 ≤ s.last_trans) t s.transactions h.numbers) (parts_ended s.form.ends s.log_bytes s.owners s.transactions s.items h.parts t trans is within)
      (rises_with_edits trans.leg.changes s.frames.committed h.kept.committed_rises) h.kept.fresh_rises (ready_ended s.items trans.leg.changes s.jobs h.ready)
      (λ live. each_without (λ e. 1 ≤ e.1.legs) t s.transactions (h.legs_left live))
      (λ live.
      each_map (IsUnwritten s.owners s.transactions s.items) (λ b. is_busy n b ≡ true → IsUnwritten n.owners n.transactions n.items b) s.frames.fresh
      (λ b u busy.
      let off = listed_parts (is_in b s.items.cil) (is_in b (flight_items s.items.flight)) (is_in b s.items.ail) u.unlisted in
      let unmarked : is_in b n.items.cil ≡ false = not_marked trans.leg.changes s.items.cil b (each_at (λ e. is_in b e.1.leg.changes ≡ false) t trans s.transactions is u.unchanged) off.0 in
      let unlisted : is_listed n.items b ≡ false = unlisted_by (is_in b n.items.cil) (is_in b (flight_items s.items.flight)) (is_in b s.items.ail) unmarked off.1 off.2 in
      record {
        owned = left_true (is_in b n.owners) (is_listed n.items b) unlisted busy;
        unlisted = unlisted;
        unchanged = each_without (λ e. is_in b e.1.leg.changes ≡ false) t s.transactions u.unchanged;
      })
      (h.fresh_owned live))
      (given_ended s.last_trans t trans.leg s.items.open_number s.owners h.given)
      (λ live. written_ended s.owners s.frames.committed s.items (h.written live) t trans h.parts.owners_rise (each_at (IsFair s.form.ends s.owners) t trans s.transactions is h.parts.fair) h.parts.flying)

  -- a commit, on a live mount or a shut one
  pub sound_commit : IsSound (commit dropped t s trans).state
  sound_commit =
      sound_either (is_dirty trans.leg && is_some s.shut) (gives (io_of (held_of trans.leg.holds)) (settled dropped (closed t (aborted t trans.leg s))))
      (gives (committed_of (commit_number trans.leg s) (held_of trans.leg.holds)) (settled dropped (closed t (ended t trans.leg s))))
      (λ shut. sound_aborted (and_parts (is_dirty trans.leg) (is_some s.shut) shut).1)
      (λ commits.
      elim (and_cases (is_dirty trans.leg) (is_some s.shut) commits) [
        | inl clean ↦ sound_ended (omega (arith, clean_charge s.form.ends trans.leg clean))
        | inr live ↦ sound_ended (charge_granted t s trans h is (is_none_not s.shut live))
      ])
