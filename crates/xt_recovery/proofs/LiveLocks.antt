-- A live mount stays one over the calls that lock and unlock blocks.
use Rattle.std.proofs.Common.{◌≡◌, ◌∙◌, ◌+◌, ◌∷◌, Bool, List, None, Option, Some, [], ap, false, inl, inr, refl, subst, sym, true, ℕ}
use Rattle.std.proofs.lemmas.Bool.{and_cases, and_parts, false≢true, not-false, not-true, or_left, or_parts, or_right}
use Rattle.std.specs.Prelude.{if◌then◌else◌, is_none, is_some, nat_le, nat_lt, not, ◌&&◌, ◌-◌, ◌||◌}
use Rattle.xt_base.proofs.KeyLemmas.{each_has}
use Rattle.xt_base.proofs.LegLemmas.{own_trans}
use Rattle.xt_base.proofs.MapLemmas.{at_put_same, some_same}
use Rattle.xt_base.proofs.SoundBuffers.{sound_freed, sound_release, sound_without_hold}
use Rattle.xt_base.proofs.SoundSteps.{is_none_not, passes_first, shut_for_some}
use Rattle.xt_base.proofs.WrittenLemmas.{other_of}
use Rattle.xt_base.specs.Calls.{Outcome, answered, at_end, brought, busied, first_of, get, get_refusals, gives, hold, is_absent, is_elsewhere, is_fresh, is_held, is_own, is_resident, join, join_refusals, locked, made_fresh, read, read_refusals, release, released, relse, shut_if, unhold, unless, unowned, with_leg, with_owner, without_hold}
use Rattle.xt_base.specs.Legs.{is_dirty, is_stale, own_count}
use Rattle.xt_base.specs.Maps.{at, has, is_in, put, with_member, without}
use Rattle.xt_base.specs.Settle.{Dropped, settled}
use Rattle.xt_base.specs.Sound.{IsSound, IsUnwritten, is_cancelled}
use Rattle.xt_base.specs.Space.{busy_count, is_busy, is_listed}
use Rattle.xt_base.specs.State.{Leg, State, Transaction}
use Rattle.xt_base.specs.Text.{chunk}
use Rattle.xt_base.specs.declared.steps.Answer.{Answer}
use Rattle.xt_base.specs.declared.steps.Errno.{Errno}
use Rattle.xt_base.specs.declared.steps.Errno.TheVariants.{Again, Invalid, Io, NoBufs}
use Rattle.xt_base.specs.declared.steps.Owner.{Owner}
use Rattle.xt_base.specs.declared.steps.Owner.TheVariants.{Held, Stale, Trans}
use Rattle.xt_base.specs.declared.steps.Reason.TheVariants.{MetaIoError}
use Rattle.xt_base.specs.declared.steps.Reply.TheVariants.{Free, Kept, Okay, Refused}
use Rattle.xt_recovery.proofs.DistinctLemmas.{apart_without, each_apart}
use Rattle.xt_recovery.proofs.MatchCalls.{matches_beside, matches_idle, matches_owner, matches_read, matches_unowned}
use Rattle.xt_recovery.proofs.MatchLemmas.{matches_settled}
use Rattle.xt_recovery.proofs.ConsistentEnds.{busy_not_idle, owned_busy, consistent_settled}
use Rattle.xt_recovery.proofs.ConsistentLemmas.{member_there, consistent_busied, consistent_count, consistent_fresh, consistent_leg, consistent_lock, consistent_unowned}
use Rattle.xt_recovery.proofs.Invariant.{IsLive, IsLiveUnlessShut}
use Rattle.xt_recovery.proofs.Matching.{MatchesDisks}
use Rattle.xt_recovery.proofs.Recoverable.{IsRecoverable}
use Rattle.xt_recovery.specs.DiskSteps.{IsContentOf}
use Rattle.xt_recovery.specs.Disks.{Disks}
use Rattle.xt_recovery.specs.Log.{HasChunk}
use Rattle.xt_base.specs.Form.{Form}

-- ---- outcomes
pub lives_either : (d : Disks) (t : Bool) (x y : Outcome) → (t ≡ true → IsLiveUnlessShut d x.state) → (t ≡ false → IsLiveUnlessShut d y.state) → IsLiveUnlessShut d (if t then x else y).state
lives_either d true x y hx hy = hx refl
lives_either d false x y hx hy = hy refl

pub lives_unless : (d : Disks) (r : Option Errno) (s : State) (o : Outcome) → IsLiveUnlessShut d s → (None ≡ r → IsLiveUnlessShut d o.state) → IsLiveUnlessShut d (unless r s o).state
lives_unless d None s o h ho = ho refl
lives_unless d (Some e) s o h ho = h

-- ---- owners
-- no owner but this transaction's, and not this one's: none
pub free_of : (t : ℕ) (o : Option Owner) → (is_some o && not (is_some (own_count t o))) ≡ false → is_some (own_count t o) ≡ false → is_some o ≡ false
free_of t o free not_own =
    elim (and_cases (is_some o) (not (is_some (own_count t o))) free) [
      | inl none ↦ none
      | inr own ↦ absurd (false≢true (sym not_own ∙ not-false (is_some (own_count t o)) own))
    ]

-- nobody's block waits for no checkpoint
free_waits : (b : ℕ) (s : State) → is_in b s.owners ≡ false → (n : ℕ) → at b s.owners ≡ Some (Stale n) → ⊥
free_waits b s free n waits = false≢true (sym free ∙ ap is_some waits)

-- a transaction's block does neither
own_waits : (b t count : ℕ) (s : State) → at b s.owners ≡ Some (Trans t count) → (n : ℕ) → at b s.owners ≡ Some (Stale n) → ⊥
own_waits b t count s own n waits = other_kind t count n (some_same (Trans t count) (Stale n) (sym own ∙ waits))
  where
    other_kind : (t count n : ℕ) → Trans t count ≡ Stale n → ⊥
    other_kind t count n h = absurd (cc)

-- the transaction's block has another count
pub live_count : (b t old count : ℕ) (d : Disks) (s : State) → at b s.owners ≡ Some (Trans t old) → IsLive d s → IsLive d (with_owner b (Trans t count) s)
live_count b t old count d s own l = record {
  matches = matches_owner b d s (own_waits b t old s own) l.matches (Trans t count) (busy_not_idle b d s l.matches (owned_busy b (Trans t old) s own));
  own = consistent_count b t old count s own l.own;
}

-- a listed block that nobody has
live_listed : (b t : ℕ) (d : Disks) (s : State) → IsSound s → is_none s.shut ≡ true → is_in b s.owners ≡ false → is_busy s b ≡ true → IsLive d s → IsLive d (with_owner b (Trans t 0) s)
live_listed b t d s sound live free busy l =
    let listed : is_listed s.items b ≡ true = other_of (is_in b s.owners) (is_listed s.items b) busy free in
    let there : is_in b s.frames.committed ≡ true = content_of_listed (is_in b s.frames.committed) (at b s.owners) ((sound.written live).listed b listed) free in
    record {
      matches = matches_owner b d s (free_waits b s free) l.matches (Trans t 0) (busy_not_idle b d s l.matches busy);
      own = consistent_lock b t 0 s (or_right (has s.frames.fresh b) (is_in b s.frames.committed) there) l.own;
    }
  where
    content_of_listed : (c : Bool) (o : Option Owner) → (c || is_cancelled o) ≡ true → is_some o ≡ false → c ≡ true
    content_of_listed true o h none = refl
    content_of_listed false None h none = absurd (false≢true h)
    content_of_listed false (Some x) h none = absurd (false≢true (sym none))

-- a block that comes in with its content
live_busied : (b t : ℕ) (content : List ℕ) (d : Disks) (s : State) → IsSound s → is_in b s.owners ≡ false → MatchesDisks d (with_owner b (Trans t 0) (busied b content s)) → IsLive d s
    → IsLive d (with_owner b (Trans t 0) (busied b content s))
live_busied b t content d s sound free faithful l = record {
  matches = faithful;
  own = consistent_lock b t 0 (busied b content s) (or_right (has s.frames.fresh b) (is_in b (put b content s.frames.committed)) (ap is_some (at_put_same b content s.frames.committed))) (consistent_busied b content s sound free l.own);
}

-- an idle block
live_idle : (b t : ℕ) (content : List ℕ) (d : Disks) (s : State) → IsSound s → is_in b s.owners ≡ false → at b s.frames.idle ≡ Some content → IsLive d s → IsLive d (with_owner b (Trans t 0) (busied b content s))
live_idle b t content d s sound free there l =
    live_busied b t content d s sound free
    (matches_idle t b content d s there (each_apart b (without b s.frames.idle) (apart_without b s.frames.idle l.own.idle_once)) l.matches) l

-- a fresh block
live_fresh : (b t : ℕ) (d : Disks) (s : State) → is_in b s.owners ≡ false → is_in b s.frames.idle ≡ false → IsLive d s → IsLive d (with_owner b (Trans t 0) (made_fresh b s))
live_fresh b t d s free absent l = record {
  matches = matches_owner b d (made_fresh b s) (free_waits b s free) (matches_beside d s s.transactions s.last_trans s.jobs s.frozen (with_member b s.frames.fresh) l.matches) (Trans t 0) absent;
  own = consistent_lock b t 0 (made_fresh b s) (or_left (has (with_member b s.frames.fresh) b) (is_in b s.frames.committed) (member_there b s.frames.fresh)) (consistent_fresh b s l.own);
}

live_brought : (b t : ℕ) (o : Option (List ℕ)) (d : Disks) (s : State) → IsSound s → is_in b s.owners ≡ false → at b s.frames.idle ≡ o → IsLive d s → IsLive d (with_owner b (Trans t 0) (brought b o s))
live_brought b t None d s sound free idle l = live_fresh b t d s free (ap is_some idle) l
live_brought b t (Some content) d s sound free idle l = live_idle b t content d s sound free idle l

live_first : (b t : ℕ) (busy : Bool) (d : Disks) (s : State) → IsSound s → is_none s.shut ≡ true → is_in b s.owners ≡ false → is_busy s b ≡ busy → IsLive d s → IsLive d (with_owner b (Trans t 0) (if busy then s else brought b (at b s.frames.idle) s))
live_first b t true d s sound live free busy l = live_listed b t d s sound live free busy l
live_first b t false d s sound live free busy l = live_brought b t (at b s.frames.idle) d s sound free refl l

-- a lock of a block that is nobody else's
pub live_locked : (t b : ℕ) (own : Option ℕ) (d : Disks) (s : State) → IsSound s → is_none s.shut ≡ true → own_count t (at b s.owners) ≡ own → is_elsewhere s t b ≡ false → IsLive d s → IsLive d (locked t b own s)
live_locked t b (Some count) d s sound live is free l = let old = own_trans t (at b s.owners) (ap is_some is) in live_count b t old.0 (count + 1) d s old.1 l
live_locked t b None d s sound live is free l = live_first b t (is_busy s b) d s sound live (free_of t (at b s.owners) free (ap is_some is)) refl l

-- ---- get and read
pub lives_get : (t b : ℕ) (d : Disks) (s : State) → IsSound s → IsLiveUnlessShut d s → IsLiveUnlessShut d (get t b s).state
lives_get t b d s sound h =
    let end_ : Bool = at_end (own_count t (at b s.owners)) in
    let full : Bool = not (is_busy s b) && nat_le 64 (busy_count s) in
    lives_unless d (first_of (get_refusals t b s)) s (gives Okay (locked t b (own_count t (at b s.owners)) s)) h
    (λ passes.
    let first = passes_first (nat_le s.blocks b) Invalid ((is_some s.shut, Io) ∷ (end_, Invalid) ∷ (is_elsewhere s t b, Again) ∷ (full, NoBufs) ∷ []) passes in
    let second = passes_first (is_some s.shut) Io ((end_, Invalid) ∷ (is_elsewhere s t b, Again) ∷ (full, NoBufs) ∷ []) first.1 in
    let third = passes_first end_ Invalid ((is_elsewhere s t b, Again) ∷ (full, NoBufs) ∷ []) second.1 in
    let fourth = passes_first (is_elsewhere s t b) Again ((full, NoBufs) ∷ []) third.1 in
    let live : is_none s.shut ≡ true = is_none_not s.shut second.0 in
    λ still. live_locked t b (own_count t (at b s.owners)) d s sound live refl fourth.0 (h live))

-- a device is asked of a block that is neither busy nor idle
absent_off : (t b : ℕ) (s : State) → IsSound s → is_none s.shut ≡ true → is_elsewhere s t b ≡ false → is_absent t b s ≡ true → (is_in b s.owners ≡ false) × (is_busy s b ≡ false) × (is_in b s.frames.idle ≡ false)
absent_off t b s sound live free absent =
    let two = and_parts (not (is_own s t b)) (not (is_resident s b)) absent in
    let nobody : is_in b s.owners ≡ false = free_of t (at b s.owners) free (not-true (is_own s t b) two.0) in
    let away = or_parts (is_busy s b && not (is_fresh s b)) (is_in b s.frames.idle) (not-true (is_resident s b) two.1) in (
      nobody,
      elim (and_cases (is_busy s b) (not (is_fresh s b)) away.0) [
        | inl off ↦ off
        | inr fresh ↦
            let u : IsUnwritten s.owners s.transactions s.items b = each_has (IsUnwritten s.owners s.transactions s.items) b s.frames.fresh (not-false (has s.frames.fresh b) fresh) (sound.fresh_owned live) in
            absurd (false≢true (sym nobody ∙ u.owned))
      ],
      away.1,
    )

lives_shut_if : (dirty : Bool) (d : Disks) (s : State) → IsLiveUnlessShut d s → IsLiveUnlessShut d (shut_if dirty MetaIoError s)
lives_shut_if true d s h = λ still. absurd (shut_for_some MetaIoError s.shut still)
lives_shut_if false d s h = h

-- what the device answered, where a content is what stands at home
lives_answered : (t b : ℕ) (leg : Leg) (d : Disks) (s : State) (answer : Answer) → IsSound s → s.form ≡ d.form → is_none s.shut ≡ true → IsRecoverable d s.items → is_in b s.owners ≡ false → is_busy s b ≡ false → is_in b s.frames.idle ≡ false
    → ((content : List ℕ) → answer ≡ Answer.Content content → IsContentOf d.home b s.form.size content) → IsLiveUnlessShut d s → IsLiveUnlessShut d (answered t b leg s answer).state
lives_answered t b leg d s (Answer.Content content) sound form live r nobody off absent honest h =
    let c = honest content refl in
    let same : (k : ℕ) → HasChunk d.form.size k → chunk content k ≡ d.home b k = λ k there. c.same k (subst (λ (x : Form). HasChunk x.size k) (sym form) there) in
    λ still. live_busied b t content d s sound nobody (matches_read t b content d s off absent r same (h live).matches) (h live)
lives_answered t b leg d s Answer.None sound form live r nobody off absent honest h = lives_shut_if (is_dirty leg) d s h
lives_answered t b leg d s Answer.Failed sound form live r nobody off absent honest h = lives_shut_if (is_dirty leg) d s h

pub lives_read : (t b : ℕ) (answer : Answer) (d : Disks) (s : State) (trans : Transaction) → IsSound s → s.form ≡ d.form → IsRecoverable d s.items
    → ((content : List ℕ) → answer ≡ Answer.Content content → None ≡ first_of (read_refusals t b trans.leg s) → is_absent t b s ≡ true → IsContentOf d.home b s.form.size content) → IsLiveUnlessShut d s → IsLiveUnlessShut d (read t b answer s trans).state
lives_read t b answer d s trans sound form r honest h =
    let own : Bool = at_end (own_count t (at b s.owners)) || (is_own s t b && (is_fresh s b || is_stale b trans.leg)) in
    let full : Bool = not (is_busy s b) && nat_le 64 (busy_count s) in
    lives_unless d (first_of (read_refusals t b trans.leg s)) s (if is_absent t b s then answered t b trans.leg s answer else gives Okay (locked t b (own_count t (at b s.owners)) s)) h
    (λ passes.
    let first = passes_first (nat_le s.blocks b) Invalid ((is_some s.shut, Io) ∷ (own, Invalid) ∷ (is_elsewhere s t b, Again) ∷ (full, NoBufs) ∷ []) passes in
    let second = passes_first (is_some s.shut) Io ((own, Invalid) ∷ (is_elsewhere s t b, Again) ∷ (full, NoBufs) ∷ []) first.1 in
    let third = passes_first own Invalid ((is_elsewhere s t b, Again) ∷ (full, NoBufs) ∷ []) second.1 in
    let fourth = passes_first (is_elsewhere s t b) Again ((full, NoBufs) ∷ []) third.1 in
    let live : is_none s.shut ≡ true = is_none_not s.shut second.0 in
    lives_either d (is_absent t b s) (answered t b trans.leg s answer) (gives Okay (locked t b (own_count t (at b s.owners)) s))
    (λ absent.
    let off = absent_off t b s sound live fourth.0 absent in
    lives_answered t b trans.leg d s answer sound form live r off.0 off.1 off.2 (λ content is. honest content is passes absent) h)
    (λ there still. live_locked t b (own_count t (at b s.owners)) d s sound live refl fourth.0 (h live)))

-- ---- hold marks
live_leg : (t : ℕ) (trans : Transaction) (leg : Leg) (d : Disks) (s : State) → at t s.transactions ≡ Some trans → leg.changes ≡ trans.leg.changes → IsLive d s → IsLive d (with_leg t trans leg s)
live_leg t trans leg d s is same l = record {
  matches = matches_beside d s (with_leg t trans leg s).transactions s.last_trans s.jobs s.frozen s.frames.fresh l.matches;
  own = consistent_leg t trans leg s is same l.own;
}

pub lives_hold : (t b : ℕ) (d : Disks) (s : State) (trans : Transaction) → at t s.transactions ≡ Some trans → IsLiveUnlessShut d s → IsLiveUnlessShut d (hold t b s trans).state
lives_hold t b d s trans is h =
    let leg : Leg = record trans.leg { holds = with_member b trans.leg.holds } in
    lives_either d (not (is_own s t b) || is_stale b trans.leg) (gives (Refused Invalid) s) (gives Okay (with_leg t trans leg s)) (λ refused. h) (λ passes still. live_leg t trans leg d s is refl (h still))

pub lives_unhold : (t b : ℕ) (d : Disks) (s : State) (trans : Transaction) → at t s.transactions ≡ Some trans → IsLiveUnlessShut d s → IsLiveUnlessShut d (unhold t b s trans).state
lives_unhold t b d s trans is h =
    lives_either d (not (is_own s t b) || not (has trans.leg.holds b)) (gives (Refused Invalid) s) (gives Okay (with_leg t trans (without_hold b trans.leg) s)) (λ refused. h)
    (λ passes still. live_leg t trans (without_hold b trans.leg) d s is refl (h still))

-- ---- relse, join, release
-- a block loses its owner, and what is no longer busy settles
live_unowned : (dropped : Dropped) (b : ℕ) (d : Disks) (s : State) → IsSound s → IsSound (settled dropped (unowned b s)) → ((n : ℕ) → at b s.owners ≡ Some (Stale n) → ⊥) → IsLive d s → IsLive d (settled dropped (unowned b s))
live_unowned dropped b d s sound after waits l =
    let before : MatchesDisks d (unowned b s) = matches_unowned b d s waits l.matches in
    record {
      matches = matches_settled dropped d (unowned b s) sound.kept.committed_rises before;
      own = consistent_settled dropped d (unowned b s) after sound.kept.committed_rises before (consistent_unowned b s sound.parts.owners_rise l.own);
    }

lives_released : (dropped : Dropped) (t b : ℕ) (d : Disks) (s : State) (trans : Transaction) (own : Option ℕ) → IsSound s → at t s.transactions ≡ Some trans → own_count t (at b s.owners) ≡ own → IsLiveUnlessShut d s → IsLiveUnlessShut d (released dropped t b trans s own).state
lives_released dropped t b d s trans None sound is has_it h = h
lives_released dropped t b d s trans (Some count) sound is has_it h =
    let old = own_trans t (at b s.owners) (ap is_some has_it) in
    let less : State = with_leg t trans (without_hold b trans.leg) s in
    lives_either d (nat_lt 0 count) (gives Kept (with_owner b (Trans t (count - 1)) s)) (if is_in b trans.leg.changes then gives Kept s else gives Free (settled dropped (unowned b less)))
    (λ more still. live_count b t old.0 (count - 1) d s old.1 (h still))
    (λ last.
    lives_either d (is_in b trans.leg.changes) (gives Kept s) (gives Free (settled dropped (unowned b less))) (λ changed. h)
    (λ unchanged still.
    let freed : IsSound (settled dropped (unowned b less)) = sound_freed dropped t b s trans sound is (ap is_some has_it) unchanged in
    let rising : IsSound less = sound_without_hold t b s trans sound is in
    live_unowned dropped b d less rising freed (own_waits b t old.0 s old.1) (live_leg t trans (without_hold b trans.leg) d s is refl (h still))))

pub lives_relse : (dropped : Dropped) (t b : ℕ) (d : Disks) (s : State) (trans : Transaction) → IsSound s → at t s.transactions ≡ Some trans → IsLiveUnlessShut d s → IsLiveUnlessShut d (relse dropped t b s trans).state
lives_relse dropped t b d s trans sound is h = lives_released dropped t b d s trans (own_count t (at b s.owners)) sound is refl h

held_is : (o : Option Owner) → is_held o ≡ true → o ≡ Some Held
held_is None h = absurd (false≢true h)
held_is (Some Held) h = refl
held_is (Some (Stale n)) h = absurd (false≢true h)
held_is (Some (Trans t count)) h = absurd (false≢true h)

held_waits : (b : ℕ) (s : State) → at b s.owners ≡ Some Held → (n : ℕ) → at b s.owners ≡ Some (Stale n) → ⊥
held_waits b s held n waits = other_kind n (some_same Held (Stale n) (sym held ∙ waits))
  where
    other_kind : (n : ℕ) → Held ≡ Stale n → ⊥
    other_kind n h = absurd (cc)

pub lives_join : (t b : ℕ) (d : Disks) (s : State) (trans : Transaction) → IsLiveUnlessShut d s → IsLiveUnlessShut d (join t b s trans).state
lives_join t b d s trans h =
    lives_unless d (first_of (join_refusals b s)) s (gives Okay (with_owner b (Trans t 0) s)) h
    (λ passes still.
    let first = passes_first (not (is_held (at b s.owners))) Invalid ((is_some s.shut, Io) ∷ []) passes in
    let held = held_is (at b s.owners) (not-false (is_held (at b s.owners)) first.0) in
    let l = h still in
    record {
      matches = matches_owner b d s (held_waits b s held) l.matches (Trans t 0) (busy_not_idle b d s l.matches (owned_busy b Held s held));
      own = consistent_lock b t 0 s (l.own.held b held) l.own;
    })

-- the branch that is taken
first_branch : (t : Bool) (x y : Outcome) → t ≡ true → IsSound (if t then x else y).state → IsSound x.state
first_branch true x y is h = h
first_branch false x y is h = absurd (false≢true is)

pub lives_release : (dropped : Dropped) (b : ℕ) (d : Disks) (s : State) → IsSound s → IsLiveUnlessShut d s → IsLiveUnlessShut d (release dropped b s).state
lives_release dropped b d s sound h =
    let freed : Outcome = gives Okay (settled dropped (unowned b s)) in
    lives_either d (is_held (at b s.owners)) freed (gives (Refused Invalid) s)
    (λ held still.
    live_unowned dropped b d s sound (first_branch (is_held (at b s.owners)) freed (gives (Refused Invalid) s) held (sound_release dropped b s sound)) (held_waits b s (held_is (at b s.owners) held)) (h still))
    (λ other. h)
