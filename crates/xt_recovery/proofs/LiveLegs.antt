-- A live mount stays one over the calls that change blocks and end legs.
use Rattle.std.proofs.Common.{append_assoc, ◌≡◌, ◌≢◌, ◌∙◌, ◌⊎◌, ◌≤◌, ◌+◌, ◌∷◌, ◌++◌, ◌*◌, Bool, List, None, Option, Some, [], ap, arith, false, inl, inr, length, refl, subst, sym, true, ℕ}
use Rattle.std.proofs.lemmas.Bool.{and_cases, and_parts, cases_eq, eqb-true, eqb-false, false≢true, ltb-false, not-false, or_cases, or_parts, or_right}
use Rattle.std.proofs.lemmas.List.{length-append, length-drop, length-take-le}
use Rattle.std.specs.Prelude.{drop, filter, if◌then◌else◌, is_none, is_some, nat_lt, not, take, unwrap_or, ◌&&◌, ◌/◌, ◌-◌, ◌<◌, ◌==◌, ◌||◌}
use Rattle.xt_base.proofs.ChunkCounts.{has-chunks_where}
use Rattle.xt_base.proofs.ChunkLemmas.{touched}
use Rattle.xt_base.proofs.LegLemmas.{own_trans, rises_with_edits}
use Rattle.xt_base.proofs.MapLemmas.{at_set_other, at_set_same, at_without_other, some_none, some_same}
use Rattle.xt_base.proofs.RisingLemmas.{each_at}
use Rattle.xt_base.proofs.SoundLegs.{clean_changes, sound_clean_cancel, sound_rolled}
use Rattle.xt_base.proofs.SoundSteps.{is_none_not, is_none_some, passes_first, shut_for_some, sound_commit}
use Rattle.xt_base.proofs.WrittenLemmas.{at_without_same}
use Rattle.xt_base.specs.Calls.{Outcome, cancel, closed, commit, commit_number, committed_of, edited, first_of, gives, held_of, inval, inval_refusals, invalidated, io_of, is_fresh, is_no_room, is_own, legs_after, log, log_refusals, logged_leg, not_fresh, overwritten, roll, seen, shut_if, with_leg, with_legs, asks_ckpt, asks_flush}
use Rattle.xt_base.specs.Chunks.{marks, touches, union}
use Rattle.xt_base.specs.Legs.{aborted, change_of, clean_leg, ended, is_dirty, is_stale}
use Rattle.xt_base.specs.Maps.{at, has, is_in, set_at, without, without_member}
use Rattle.xt_base.specs.Settle.{Dropped, settled}
use Rattle.xt_base.specs.Sound.{IsFair, IsRising, IsSound}
use Rattle.xt_base.specs.Space.{charge}
use Rattle.xt_base.specs.State.{Change, Leg, State, Transaction}
use Rattle.xt_base.specs.Text.{chunk, zeros}
use Rattle.xt_base.specs.declared.steps.Errno.TheVariants.{Again, Invalid, NoSpace}
use Rattle.xt_base.specs.declared.steps.Reason.TheVariants.{CorruptIncore}
use Rattle.xt_base.specs.declared.steps.Reply.TheVariants.{Okay, Refused}
use Rattle.xt_recovery.proofs.EditLemmas.{agrees_logged}
use Rattle.xt_recovery.proofs.MatchCalls.{matches_beside}
use Rattle.xt_recovery.proofs.MatchLegs.{chunk_small, has_union, matches_ended}
use Rattle.xt_recovery.proofs.MatchLemmas.{matches_settled}
use Rattle.xt_recovery.proofs.LiveLocks.{lives_either, lives_unless}
use Rattle.xt_recovery.proofs.ConsistentEnds.{consistent_ended, consistent_settled}
use Rattle.xt_recovery.proofs.ConsistentLemmas.{consistent_changed}
use Rattle.xt_recovery.proofs.Consistent.{IsMarkedEdit, is_known}
use Rattle.xt_recovery.proofs.Invariant.{IsLive, IsLiveUnlessShut}
use Rattle.xt_recovery.proofs.Matching.{MatchesDisks}
use Rattle.xt_recovery.specs.Disks.{Disks}
use Rattle.xt_recovery.specs.Log.{HasChunk}
use Rattle.xt_base.specs.Form.{IsForm}
use Rattle.xt_base.specs.Sized.{AreSizedChanges, IsSized}
use Rattle.xt_base.proofs.SizedLemmas.{seen_sized}

-- ---- log
pub length_overwritten : (first : ℕ) (bytes old : List ℕ) → first + length bytes ≤ length old → length (overwritten first bytes old) ≡ length old
length_overwritten first bytes old fits =
    let front : length (take first old) ≡ first = length-take-le first old (omega (arith, fits)) in
    let back : length (drop (first + length bytes) old) ≡ length old - (first + length bytes) = length-drop (first + length bytes) old in
    let whole : length (take first old ++ (bytes ++ drop (first + length bytes) old)) ≡ length (take first old) + (length bytes + length (drop (first + length bytes) old)) =
    length-append (take first old) (bytes ++ drop (first + length bytes) old) ∙ ap (λ n. length (take first old) + n) (length-append bytes (drop (first + length bytes) old)) in
    ap length (append_assoc (take first old) bytes (drop (first + length bytes) old)) ∙ whole ∙ omega (arith, front, back, fits)

-- what a leg sees of a block agrees with the committed content outside its marks, where the block is neither fresh nor invalidated
seen_agrees : (size : ℕ) (edit : Option (List ℕ)) (bare : Bool) (committed : Option (List ℕ)) (k : ℕ) → bare ≡ false → ((e : List ℕ) → edit ≡ Some e → (is_some committed ≡ true) × (chunk e k ≡ chunk (unwrap_or committed (zeros size)) k))
    → (edit ≡ None → is_some committed ≡ true) → (is_some committed ≡ true) × (chunk (unwrap_or edit (if bare then zeros size else unwrap_or committed (zeros size))) k ≡ chunk (unwrap_or committed (zeros size)) k)
seen_agrees size (Some e) bare committed k clear he there = he e refl
seen_agrees size None true committed k clear he there = absurd (false≢true (sym clear))
seen_agrees size None false committed k clear he there = (there refl, refl)

positive : (n : ℕ) → (n == 0) ≡ false → 0 < n
positive n h = let other = eqb-false n 0 h in omega (arith, other)

-- a leg that did nothing to a block tells the truth of it
change_tells : (size : ℕ) (committed : Option (List ℕ)) (o : Option Change) → ((c : Change) → o ≡ Some c → IsMarkedEdit size committed c) → IsMarkedEdit size committed (unwrap_or {T = Change} o (record { edit = None; marks = []; charged = [] }))
change_tells size committed None h = record { agrees = λ e k is small absent. absurd (cc); marks = λ e is. absurd (cc) }
change_tells size committed (Some c) h = h c refl

-- a block that is written whole is marked whole
all_touched : (size k : ℕ) → size ≡ 128 * (size / 128) → HasChunk size k → touches 0 size k ≡ true
all_touched size k chunks there =
    let one : k < size / 128 = there in
    touched 0 size k (omega (arith, chunks, one)) (omega arith) (omega (arith, chunks, one))

-- what is written is marked somewhere
one_touched : (size first n : ℕ) → size ≡ 128 * (size / 128) → 0 < n → first + n ≤ size → (k : ℕ) × HasChunk size k × (touches first n k ≡ true)
one_touched size first n chunks some fits =
    let there : first / 128 < size / 128 = omega (arith, chunks, some, fits) in
    (first / 128, there, touched first n (first / 128) some (omega arith) (omega (arith, some)))

module _ (t b first : ℕ) (bytes : List ℕ) (d : Disks) (s : State) (trans : Transaction) (is : at t s.transactions ≡ Some trans) (passes : None ≡ first_of (log_refusals t b first bytes trans s)) (fits : IsForm s.form) (sized : IsSized s) (l : IsLive d s) where
  abbrev whole_refuses : Bool
  whole_refuses = (is_fresh s b || is_stale b trans.leg) && not ((first == 0) && (length bytes == s.form.size))

  abbrev no_space : Bool
  no_space = nat_lt trans.unit (charge s.form.ends (edited b [] (marks first (length bytes)) trans.leg).changes)

  one : (not (is_own s t b) ≡ false) × (None ≡ first_of (((length bytes == 0) || nat_lt s.form.size (first + length bytes), Invalid) ∷ (whole_refuses, Invalid) ∷ (no_space, NoSpace) ∷ []))
  one = passes_first (not (is_own s t b)) Invalid (((length bytes == 0) || nat_lt s.form.size (first + length bytes), Invalid) ∷ (whole_refuses, Invalid) ∷ (no_space, NoSpace) ∷ []) passes

  two : (((length bytes == 0) || nat_lt s.form.size (first + length bytes)) ≡ false) × (None ≡ first_of ((whole_refuses, Invalid) ∷ (no_space, NoSpace) ∷ []))
  two = passes_first ((length bytes == 0) || nat_lt s.form.size (first + length bytes)) Invalid ((whole_refuses, Invalid) ∷ (no_space, NoSpace) ∷ []) one.1

  three : (whole_refuses ≡ false) × (None ≡ first_of ((no_space, NoSpace) ∷ []))
  three = passes_first whole_refuses Invalid ((no_space, NoSpace) ∷ []) two.1

  some_bytes : 0 < length bytes
  some_bytes = positive (length bytes) (or_parts (length bytes == 0) (nat_lt s.form.size (first + length bytes)) two.0).0

  within : first + length bytes ≤ s.form.size
  within = ltb-false s.form.size (first + length bytes) (or_parts (length bytes == 0) (nat_lt s.form.size (first + length bytes)) two.0).1

  tells_old : IsMarkedEdit s.form.size (at b s.frames.committed) (change_of b trans.leg)
  tells_old = change_tells s.form.size (at b s.frames.committed) (at b trans.leg.changes) (l.own.edits t trans is b)

  abbrev bare : Bool
  bare = has s.frames.fresh b || is_stale b trans.leg

  abbrev old : List ℕ
  old = seen s.form.size b trans.leg s.frames

  old_whole : length old ≡ s.form.size
  old_whole = seen_sized s.form.size b trans.leg s.frames (each_at (λ e. AreSizedChanges s.form.size e.1.leg.changes) t trans s.transactions is sized.changes) sized.committed

  -- what is neither fresh nor changed by the leg is committed
  known_committed : bare ≡ false → (change_of b trans.leg).edit ≡ None → is_in b s.frames.committed ≡ true
  known_committed clear none =
      let own = own_trans t (at b s.owners) (not-false (is_own s t b) one.0) in
      let neither = or_parts (has s.frames.fresh b) (is_stale b trans.leg) clear in
      let unchanged : is_in b trans.leg.changes ≡ false =
      elim (and_cases (is_in b trans.leg.changes) (is_none (change_of b trans.leg).edit) neither.1) [
        | inl off ↦ off
        | inr edited_ ↦ absurd (false≢true (sym edited_ ∙ ap is_none none))
      ] in
      elim (or_cases (is_known s.frames b) (is_in b trans.leg.changes) (l.own.owned b t own.0 trans own.1 is)) [
        | inl known ↦
            elim (or_cases (has s.frames.fresh b) (is_in b s.frames.committed) known) [
              | inl fresh ↦ absurd (false≢true (sym neither.0 ∙ fresh))
              | inr there ↦ there
            ]
        | inr changed ↦ absurd (false≢true (sym unchanged ∙ changed))
      ]

  -- the change of a log request
  abbrev logged : Change
  logged = record { edit = Some (overwritten first bytes old); marks = union (change_of b trans.leg).marks (marks first (length bytes)); charged = union (change_of b trans.leg).charged (marks first (length bytes)) }

  logged_agrees : (k : ℕ) → HasChunk s.form.size k → has logged.marks k ≡ false
      → (is_in b s.frames.committed ≡ true) × (chunk (overwritten first bytes old) k ≡ chunk (unwrap_or (at b s.frames.committed) (zeros s.form.size)) k)
  logged_agrees k there absent =
      let small : k < 32 = chunk_small s.form fits k there in
      elim (and_cases bare (not ((first == 0) && (length bytes == s.form.size))) three.0) [
        | inl clear ↦
            agrees_logged s.form.size first k (at b s.frames.committed) (change_of b trans.leg).marks bytes old small some_bytes (omega (arith, within, old_whole))
            (λ off. seen_agrees s.form.size (change_of b trans.leg).edit bare (at b s.frames.committed) k clear (λ e has_edit. tells_old.agrees e k has_edit there off) (known_committed clear)) absent
        | inr whole ↦
            let parts = and_parts (first == 0) (length bytes == s.form.size) (not-false ((first == 0) && (length bytes == s.form.size)) whole) in
            let from_start : first ≡ 0 = eqb-true first 0 parts.0 in
            let all : length bytes ≡ s.form.size = eqb-true (length bytes) s.form.size parts.1 in
            let marked : has (marks first (length bytes)) k ≡ true = has-chunks_where (touches first (length bytes)) k small ∙ ap (λ x. touches x (length bytes) k) from_start ∙ ap (λ n. touches 0 n k) all ∙ all_touched s.form.size k fits.whole there in
            absurd (false≢true (sym absent ∙ has_union (change_of b trans.leg).marks (marks first (length bytes)) k small ∙ or_right (has (change_of b trans.leg).marks k) (has (marks first (length bytes)) k) marked))
      ]

  logged_marks : (k : ℕ) × HasChunk s.form.size k × (has logged.marks k ≡ true)
  logged_marks =
      let place = one_touched s.form.size first (length bytes) fits.whole some_bytes within in
      let small : place.0 < 32 = chunk_small s.form fits place.0 place.1 in (
        place.0,
        place.1,
        has_union (change_of b trans.leg).marks (marks first (length bytes)) place.0 small
            ∙ or_right (has (change_of b trans.leg).marks place.0) (has (marks first (length bytes)) place.0) (has-chunks_where (touches first (length bytes)) place.0 small ∙ place.2),
      )

  tells_logged : IsMarkedEdit s.form.size (at b s.frames.committed) logged
  tells_logged = record {
    agrees = λ content k e small absent.
        subst (λ (x : List ℕ). (is_in b s.frames.committed ≡ true) × (chunk x k ≡ chunk (unwrap_or (at b s.frames.committed) (zeros s.form.size)) k)) (some_same (overwritten first bytes old) content e)
        (logged_agrees k small absent);
    marks = λ content e. logged_marks;
  }

  -- a log request that nothing refuses keeps a mount live
  pub live_log : IsLive d (not_fresh b (with_leg t trans (logged_leg s.form.size b first bytes s.frames trans.leg) s))
  live_log =
      let leg : Leg = logged_leg s.form.size b first bytes s.frames trans.leg in
      record {
        matches = matches_beside d s (with_leg t trans leg s).transactions s.last_trans s.jobs s.frozen (without_member b s.frames.fresh) l.matches;
        own = consistent_changed t b trans logged leg s is (not-false (is_own s t b) one.0) refl tells_logged l.own;
      }

pub lives_log : (t b first : ℕ) (bytes : List ℕ) (d : Disks) (s : State) (trans : Transaction) → at t s.transactions ≡ Some trans → IsForm s.form → IsSized s → IsLiveUnlessShut d s → IsLiveUnlessShut d (log t b first bytes s trans).state
lives_log t b first bytes d s trans is fits sized h =
    lives_unless d (first_of (log_refusals t b first bytes trans s)) s (gives Okay (not_fresh b (with_leg t trans (logged_leg s.form.size b first bytes s.frames trans.leg) s))) h
    (λ passes still. live_log t b first bytes d s trans is passes fits sized (h still))

-- ---- inval
live_stale_if : (stale : Bool) (t b : ℕ) (d : Disks) (s : State) (trans : Transaction) → at t s.transactions ≡ Some trans → is_own s t b ≡ true → IsLiveUnlessShut d s → IsLiveUnlessShut d (if stale then s else not_fresh b (with_leg t trans (invalidated b trans.leg) s))
live_stale_if true t b d s trans is own h = h
live_stale_if false t b d s trans is own h = λ still.
    let leg : Leg = invalidated b trans.leg in
    let c : Change = record { edit = None; marks = []; charged = (change_of b trans.leg).charged } in
    let tells : IsMarkedEdit s.form.size (at b s.frames.committed) c = record { agrees = λ e k no small absent. absurd (cc); marks = λ e no. absurd (cc) } in
    record {
      matches = matches_beside d s (with_leg t trans leg s).transactions s.last_trans s.jobs s.frozen (without_member b s.frames.fresh) (h still).matches;
      own = consistent_changed t b trans c leg s is own refl tells (h still).own;
    }

pub lives_inval : (t b : ℕ) (d : Disks) (s : State) (trans : Transaction) → at t s.transactions ≡ Some trans → IsLiveUnlessShut d s → IsLiveUnlessShut d (inval t b s trans).state
lives_inval t b d s trans is h =
    let no_space_ : Bool = nat_lt trans.unit (charge s.form.ends (invalidated b trans.leg).changes) in
    lives_unless d (first_of (inval_refusals t b trans s)) s (gives Okay (if is_stale b trans.leg then s else not_fresh b (with_leg t trans (invalidated b trans.leg) s))) h
    (λ passes.
    let first_ = passes_first (not (is_own s t b)) Invalid ((no_space_, NoSpace) ∷ []) passes in
    live_stale_if (is_stale b trans.leg) t b d s trans is (not-false (is_own s t b) first_.0) h)

-- ---- commit, roll, cancel
-- the leg ends, its transaction's record with it or clean, and what is no longer busy settles
live_ended : (dropped : Dropped) (t : ℕ) (trans : Transaction) (ts : List (ℕ × Transaction)) (d : Disks) (s : State) → IsSound s → s.form ≡ d.form → at t s.transactions ≡ Some trans
    → IsSound (settled dropped (record (ended t trans.leg s) { transactions = ts }))
    → ((u : ℕ) (x : Transaction) → at u ts ≡ Some x → ((u ≡ t) × (x.leg.changes ≡ [])) ⊎ ((u ≢ t) × (at u s.transactions ≡ Some x))) → IsLive d s
    → IsLive d (settled dropped (record (ended t trans.leg s) { transactions = ts }))
live_ended dropped t trans ts d s sound form is after rest l =
    let n : State = record (ended t trans.leg s) { transactions = ts } in
    let fair : IsFair s.form.ends s.owners (t, trans) = each_at (IsFair s.form.ends s.owners) t trans s.transactions is sound.parts.fair in
    let rises : IsRising n.frames.committed = rises_with_edits trans.leg.changes s.frames.committed sound.kept.committed_rises in
    let over : MatchesDisks d (ended t trans.leg s) = matches_ended t trans d s sound.form form fair sound.kept.committed_rises (l.own.edits t trans is) l.matches in
    let before : MatchesDisks d n = matches_beside d (ended t trans.leg s) ts s.last_trans s.jobs s.frozen s.frames.fresh over in
    record {
      matches = matches_settled dropped d n rises before;
      own = consistent_settled dropped d n after rises before (consistent_ended t trans d s sound is l.matches l.own ts rest);
    }

-- the transactions without one that ended
rest_closed : (t : ℕ) (ts : List (ℕ × Transaction)) → IsRising ts → (u : ℕ) (x : Transaction) → at u (without t ts) ≡ Some x → ((u ≡ t) × (x.leg.changes ≡ [])) ⊎ ((u ≢ t) × (at u ts ≡ Some x))
rest_closed t ts rises u x there =
    elim (cases_eq u t) [
      | inl same ↦ some_none x (((u ≡ t) × (x.leg.changes ≡ [])) ⊎ ((u ≢ t) × (at u ts ≡ Some x))) (sym there ∙ ap (λ (n : ℕ). at n (without t ts)) same ∙ at_without_same 0 t ts rises)
      | inr other ↦ inr (other, sym (at_without_other t u ts other) ∙ there)
    ]

-- the transactions where one has a clean leg
rest_rolled : (t legs : ℕ) (trans : Transaction) (ts : List (ℕ × Transaction)) → at t ts ≡ Some trans → (u : ℕ) (x : Transaction) → at u (set_at t (record trans { legs = legs; leg = clean_leg }) ts) ≡ Some x
    → ((u ≡ t) × (x.leg.changes ≡ [])) ⊎ ((u ≢ t) × (at u ts ≡ Some x))
rest_rolled t legs trans ts is u x there =
    let now : Transaction = record trans { legs = legs; leg = clean_leg } in
    elim (cases_eq u t) [
      | inl same ↦ inl (same, sym (ap (λ (y : Transaction). y.leg.changes) (some_same now x (sym (at_set_same t trans now ts is) ∙ sym (ap (λ (n : ℕ). at n (set_at t now ts)) same) ∙ there))))
      | inr other ↦ inr (other, sym (at_set_other t u now ts other) ∙ there)
    ]

second_branch : (t : Bool) (x y : Outcome) → t ≡ false → IsSound (if t then x else y).state → IsSound y.state
second_branch true x y is h = absurd (false≢true (sym is))
second_branch false x y is h = h

pub lives_commit : (dropped : Dropped) (t : ℕ) (d : Disks) (s : State) (trans : Transaction) → IsSound s → s.form ≡ d.form → at t s.transactions ≡ Some trans → IsLiveUnlessShut d s → IsLiveUnlessShut d (commit dropped t s trans).state
lives_commit dropped t d s trans sound form is h =
    let up : Outcome = gives (io_of (held_of trans.leg.holds)) (settled dropped (closed t (aborted t trans.leg s))) in
    let on : Outcome = gives (committed_of (commit_number trans.leg s) (held_of trans.leg.holds)) (settled dropped (closed t (ended t trans.leg s))) in
    lives_either d (is_dirty trans.leg && is_some s.shut) up on
    (λ shut still. absurd (is_none_some s.shut still (and_parts (is_dirty trans.leg) (is_some s.shut) shut).1))
    (λ commits still.
    let after : IsSound on.state = second_branch (is_dirty trans.leg && is_some s.shut) up on commits (sound_commit dropped t s trans sound is) in
    live_ended dropped t trans (without t s.transactions) d s sound form is after (rest_closed t s.transactions sound.parts.transactions_rise) (h still))

pub lives_roll : (dropped : Dropped) (t : ℕ) (d : Disks) (s : State) (trans : Transaction) → IsSound s → s.form ≡ d.form → at t s.transactions ≡ Some trans → IsLiveUnlessShut d s → IsLiveUnlessShut d (roll dropped t s trans).state
lives_roll dropped t d s trans sound form is h =
    let up : Outcome = gives (io_of (held_of trans.leg.holds)) (settled dropped (with_legs t 0 trans (aborted t trans.leg s))) in
    let on : Outcome = gives (committed_of (commit_number trans.leg s) (held_of trans.leg.holds)) (settled dropped (with_legs t (legs_after trans.legs) trans (ended t trans.leg s))) in
    let wait : Outcome = gives (Refused Again) (asks_flush (asks_ckpt s)) in
    lives_either d (not trans.perm) (gives (Refused Invalid) s) (if is_some s.shut then up else (if is_no_room t trans s then wait else on)) (λ refused. h)
    (λ may.
    lives_either d (is_some s.shut) up (if is_no_room t trans s then wait else on) (λ shut still. absurd (is_none_some s.shut still shut))
    (λ live.
    lives_either d (is_no_room t trans s) wait on
    (λ full still. record { matches = matches_beside d s s.transactions s.last_trans (asks_flush (asks_ckpt s)).jobs s.frozen s.frames.fresh (h still).matches; own = (h still).own })
    (λ room still.
    live_ended dropped t trans (set_at t (record trans { legs = legs_after trans.legs; leg = clean_leg }) s.transactions) d s sound form is (sound_rolled dropped t s trans sound is (is_none_not s.shut live) room)
    (rest_rolled t (legs_after trans.legs) trans s.transactions is) (h still))))

filter_all : (xs : List (ℕ × List ℕ)) → filter (λ e. true) xs ≡ xs
filter_all [] = refl
filter_all (x ∷ xs) = ap (λ ys. x ∷ ys) (filter_all xs)

-- a clean leg that is given up ends as if it was committed
clean_aborted : (t : ℕ) (holds : List ℕ) (s : State) → aborted t (record { changes = []; holds = holds }) s ≡ ended t (record { changes = []; holds = holds }) s
clean_aborted t holds s = ap (λ cs. record (ended t (record { changes = []; holds = holds }) s) { frames = record s.frames { committed = cs } }) (filter_all s.frames.committed)

aborted_ended : (t : ℕ) (leg : Leg) (s : State) → leg.changes ≡ [] → aborted t leg s ≡ ended t leg s
aborted_ended t leg s clean =
    let bare : Leg = record { changes = []; holds = leg.holds } in
    let same : leg ≡ bare = ap (λ (cs : List (ℕ × Change)). record { changes = cs; holds = leg.holds }) clean in
    ap (λ (x : Leg). aborted t x s) same ∙ clean_aborted t leg.holds s ∙ sym (ap (λ (x : Leg). ended t x s) same)

-- a leg is given up: a dirty one shuts the mount
lives_given_up : (dropped : Dropped) (t : ℕ) (d : Disks) (s : State) (trans : Transaction) (dirty : Bool) → is_dirty trans.leg ≡ dirty → IsSound s → s.form ≡ d.form → at t s.transactions ≡ Some trans → IsLiveUnlessShut d s
    → IsLiveUnlessShut d (settled dropped (shut_if dirty CorruptIncore (closed t (aborted t trans.leg s))))
lives_given_up dropped t d s trans true has_changes sound form is h = λ still. absurd (shut_for_some CorruptIncore s.shut still)
lives_given_up dropped t d s trans false clean sound form is h =
    let none : trans.leg.changes ≡ [] = clean_changes trans.leg clean in
    let same : closed t (aborted t trans.leg s) ≡ closed t (ended t trans.leg s) = ap (closed t) (aborted_ended t trans.leg s none) in
    let after : IsSound (settled dropped (closed t (ended t trans.leg s))) = subst (λ (n : State). IsSound (settled dropped n)) same (sound_clean_cancel dropped t s trans sound is none) in
    subst (λ (n : State). IsLiveUnlessShut d (settled dropped n)) (sym same)
    (λ still. live_ended dropped t trans (without t s.transactions) d s sound form is after (rest_closed t s.transactions sound.parts.transactions_rise) (h still))

pub lives_cancel : (dropped : Dropped) (t : ℕ) (d : Disks) (s : State) (trans : Transaction) → IsSound s → s.form ≡ d.form → at t s.transactions ≡ Some trans → IsLiveUnlessShut d s → IsLiveUnlessShut d (cancel dropped t s trans).state
lives_cancel dropped t d s trans sound form is h = lives_given_up dropped t d s trans (is_dirty trans.leg) refl sound form is h
