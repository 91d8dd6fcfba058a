-- What the reply of a call carries, and what a call leaves as it was: of a mount, and of a step on a slot.
use Rattle.std.proofs.Common.{[], IsSomeAnd, ◌≡◌, ◌∙◌, Bool, List, None, Option, Some, ap, false, length, refl, sym, true, ℕ}
use Rattle.std.proofs.lemmas.Bool.{false≢true}
use Rattle.std.proofs.lemmas.Option.{none-some, same_Some}
use Rattle.std.specs.List.{list_any}
use Rattle.std.specs.Prelude.{is_none, if◌then◌else◌, is_some, not, ◌&&◌, ◌==◌, ◌||◌}
use Rattle.xt_base.specs.Alone.{Turn, alone, call, called, carries_content, is_okay, names_held, reason_of, turn}
use Rattle.xt_base.specs.Carried.{is_view, may_leave_held}
use Rattle.xt_base.specs.Calls.{Outcome, is_held, alloc, alone_with, answered, brought, cancel, closed, commit, committed_of, force, force_to, freeze, get, gives, held_of, hold, inval, io_of, is_in_use, is_unmount, join, locked, log, okay_of, push, read, release, released, roll, shut_for, shut_if, stat, thaw, unhold, unless, unmount, view, waits_for, with_trans}
use Rattle.xt_base.specs.Legs.{aborted, is_dirty, own_count}
use Rattle.xt_base.specs.Maps.{at}
use Rattle.xt_base.specs.Settle.{Dropped}
use Rattle.xt_base.specs.State.{Flight, Leg, Lone, State, Transaction}
use Rattle.xt_base.specs.declared.steps.Answer.{Answer}
use Rattle.xt_base.specs.declared.steps.Errno.{Errno}
use Rattle.xt_base.specs.declared.steps.Errno.TheVariants.{Busy, Io}
use Rattle.xt_base.specs.declared.steps.Reason.{Reason}
use Rattle.xt_base.specs.declared.steps.Reason.TheVariants.{CorruptIncore, MetaIoError}
use Rattle.xt_base.specs.declared.steps.Reply.{Reply}
use Rattle.xt_base.specs.declared.steps.Reply.TheVariants.{Data, Okay, Refused}
use Rattle.xt_base.specs.declared.steps.Request.{Request}
use Rattle.xt_base.specs.declared.steps.Step.TheVariants.{Call}

-- what no call changes: the slot, the life, the last serial, the jobs that are posted and not finished, and the checkpoint in flight
pub record Numbers : Type 0 where
  pub slot : ℕ
  pub life : ℕ
  pub last_serial : ℕ
  pub ckpt : Option ℕ
  pub flush : Option ℕ
  pub flight : Option Flight

-- those of a mount
abbrev pub numbers : State → Numbers
numbers s = record { slot = s.slot; life = s.life; last_serial = s.jobs.last_serial; ckpt = s.jobs.ckpt; flush = s.jobs.flush; flight = s.items.flight }

-- those of a slot, if it is mounted
abbrev pub numbers_of : Option State → Option Numbers
numbers_of None = None
numbers_of (Some m) = Some (numbers m)

-- a state with the same numbers, and shut for the same reason or not at all
abbrev IsKept : State → State → Type 0
IsKept s t = (numbers t ≡ numbers s) × (t.shut ≡ s.shut)

-- a state that stays shut where it was
abbrev pub StaysShut : State → State → Type 0
StaysShut s t = (r : Reason) → s.shut ≡ Some r → t.shut ≡ Some r

-- a call whose reply may carry a content, or name held blocks, only where that is said, and which leaves those numbers and the first reason to be shut
record Fares (content held : Bool) (s : State) (o : Outcome) : Type 0 where
  carries : carries_content o.reply ≡ true → content ≡ true
  names : names_held o.reply ≡ true → held ≡ true
  keeps : numbers o.state ≡ numbers s
  stays : StaysShut s o.state

stays_same : (s t : State) → t.shut ≡ s.shut → StaysShut s t
stays_same s t h r e = h ∙ e

never : (b c : Bool) → b ≡ false → b ≡ true → c ≡ true
never b c off on = absurd (false≢true (sym off ∙ on))

-- ---- the parts of a call
module _ (content held : Bool) (s : State) where
  -- a reply that carries nothing
  plain : (r : Reply) (t : State) → carries_content r ≡ false → names_held r ≡ false → IsKept s t → Fares content held s (gives r t)
  plain r t c h k = record { carries = never (carries_content r) content c; names = never (names_held r) held h; keeps = k.0; stays = stays_same s t k.1 }

  fares_either : (b : Bool) (x y : Outcome) → Fares content held s x → Fares content held s y → Fares content held s (if b then x else y)
  fares_either true x y hx hy = hx
  fares_either false x y hx hy = hy

  fares_unless : (r : Option Errno) (o : Outcome) → Fares content held s o → Fares content held s (unless r s o)
  fares_unless None o h = h
  fares_unless (Some e) o h = plain (Refused e) s refl refl (refl, refl)

  fares_with : (o : Option Transaction) (f : Transaction → Outcome) → ((trans : Transaction) → Fares content held s (f trans)) → Fares content held s (with_trans o s f)
  fares_with None f h = plain (Refused Errno.Invalid) s refl refl (refl, refl)
  fares_with (Some trans) f h = h trans

module _ (s : State) where
  kept_either : (b : Bool) (x y : State) → IsKept s x → IsKept s y → IsKept s (if b then x else y)
  kept_either true x y hx hy = hx
  kept_either false x y hx hy = hy

  kept_brought : (b : ℕ) (o : Option (List ℕ)) → IsKept s (brought b o s)
  kept_brought b None = (refl, refl)
  kept_brought b (Some content) = (refl, refl)

  kept_locked : (t b : ℕ) (o : Option ℕ) → IsKept s (locked t b o s)
  kept_locked t b (Some count) = (refl, refl)
  kept_locked t b None =
      let inner = kept_either _ s (brought b (at b s.frames.idle) s) (refl, refl) (kept_brought b (at b s.frames.idle)) in
      (inner.0, inner.1)

  -- shut for a further reason
  keeps_shut : (dirty : Bool) (reason : Reason) (t : State) → IsKept s t → numbers (shut_if dirty reason t) ≡ numbers s
  keeps_shut true reason t k = k.0
  keeps_shut false reason t k = k.0

  stays_shut : (dirty : Bool) (reason : Reason) (t : State) → IsKept s t → StaysShut s (shut_if dirty reason t)
  stays_shut true reason t k r e = ap (shut_for reason) (k.1 ∙ e)
  stays_shut false reason t k r e = k.1 ∙ e

-- ---- what carries no content
okay_plain : (o : Option (List ℕ)) → carries_content (okay_of o) ≡ false
okay_plain None = refl
okay_plain (Some held) = refl

io_plain : (o : Option (List ℕ)) → carries_content (io_of o) ≡ false
io_plain None = refl
io_plain (Some held) = refl

committed_plain : (number : ℕ) (o : Option (List ℕ)) → carries_content (committed_of number o) ≡ false
committed_plain number None = refl
committed_plain number (Some held) = refl

-- ---- each request
module _ (s : State) where
  -- a call that carries nothing
  abbrev IsPlain : Outcome → Type 0
  IsPlain o = Fares false false s o

  -- the end of a leg
  leaves : (r : Reply) (t : State) → carries_content r ≡ false → IsKept s t → Fares false true s (gives r t)
  leaves r t c k = record { carries = never (carries_content r) false c; names = λ e. refl; keeps = k.0; stays = stays_same s t k.1 }

  plain_alloc : (unit count : ℕ) (perm : Bool) → IsPlain (alloc unit count perm s)
  plain_alloc unit count perm = search (fares_unless, fares_either, plain)

  plain_get : (t b : ℕ) → IsPlain (get t b s)
  plain_get t b = search (fares_unless, plain, kept_locked)

  plain_failed : (dirty : Bool) → IsPlain (gives (Refused Io) (shut_if dirty MetaIoError s))
  plain_failed dirty = record {
    carries = λ e. e;
    names = λ e. e;
    keeps = keeps_shut s dirty MetaIoError s (refl, refl);
    stays = stays_shut s dirty MetaIoError s (refl, refl);
  }

  plain_answered : (t b : ℕ) (leg : Leg) (answer : Answer) → IsPlain (answered t b leg s answer)
  plain_answered t b leg (Answer.Content content) = record { carries = λ e. e; names = λ e. e; keeps = refl; stays = λ r e. e }
  plain_answered t b leg Answer.None = plain_failed (is_dirty leg)
  plain_answered t b leg Answer.Failed = plain_failed (is_dirty leg)

  plain_read : (t b : ℕ) (answer : Answer) (trans : Transaction) → IsPlain (read t b answer s trans)
  plain_read t b answer trans = search (fares_unless, fares_either, plain, plain_answered, kept_locked)

  shown : (content : List ℕ) → Fares true false s (gives (Data content) s)
  shown content = record { carries = λ e. e; names = λ e. e; keeps = refl; stays = λ r e. e }

  fares_view : (t b : ℕ) (trans : Transaction) → Fares true false s (view t b s trans)
  fares_view t b trans = search (fares_either, shown, plain)

  plain_log : (t b first : ℕ) (bytes : List ℕ) (trans : Transaction) → IsPlain (log t b first bytes s trans)
  plain_log t b first bytes trans = search (fares_unless, plain)

  plain_hold : (t b : ℕ) (trans : Transaction) → IsPlain (hold t b s trans)
  plain_hold t b trans = search (fares_either, plain)

  plain_unhold : (t b : ℕ) (trans : Transaction) → IsPlain (unhold t b s trans)
  plain_unhold t b trans = search (fares_either, plain)

  plain_released : (dropped : Dropped) (t b : ℕ) (trans : Transaction) (o : Option ℕ) → IsPlain (released dropped t b trans s o)
  plain_released dropped t b trans None = search (plain)
  plain_released dropped t b trans (Some count) = search (fares_either, plain)

  plain_join : (t b : ℕ) (trans : Transaction) → IsPlain (join t b s trans)
  plain_join t b trans = search (fares_unless, plain)

  plain_release : (dropped : Dropped) (b : ℕ) → IsPlain (release dropped b s)
  plain_release dropped b = search (fares_either, plain)

  plain_inval : (t b : ℕ) (trans : Transaction) → IsPlain (inval t b s trans)
  plain_inval t b trans = search (fares_unless, plain, kept_either)

  fares_commit : (dropped : Dropped) (t : ℕ) (trans : Transaction) → Fares false true s (commit dropped t s trans)
  fares_commit dropped t trans = search (fares_either, leaves, io_plain, committed_plain)

  fares_roll : (dropped : Dropped) (t : ℕ) (trans : Transaction) → Fares false true s (roll dropped t s trans)
  fares_roll dropped t trans = search (fares_either, leaves, io_plain, committed_plain)

  fares_cancel : (dropped : Dropped) (t : ℕ) (trans : Transaction) → Fares false true s (cancel dropped t s trans)
  fares_cancel dropped t trans = record {
    carries = never (carries_content (okay_of (held_of trans.leg.holds))) false (okay_plain (held_of trans.leg.holds));
    names = λ e. refl;
    keeps = keeps_shut s (is_dirty trans.leg) CorruptIncore (closed t (aborted t trans.leg s)) (refl, refl);
    stays = stays_shut s (is_dirty trans.leg) CorruptIncore (closed t (aborted t trans.leg s)) (refl, refl);
  }

  plain_waits : (o : Option Flight) → IsPlain (gives (waits_for o) s)
  plain_waits None = search (plain)
  plain_waits (Some f) = search (plain)

  plain_force : IsPlain (force s)
  plain_force = search (fares_either, plain, plain_waits)

  plain_force_to : (number : ℕ) → IsPlain (force_to number s)
  plain_force_to number = search (fares_unless, fares_either, plain)

  plain_push : IsPlain (push s)
  plain_push = search (fares_either, plain)

  plain_freeze : IsPlain (freeze s)
  plain_freeze = search (fares_unless, plain)

  plain_thaw : IsPlain (thaw s)
  plain_thaw = search (fares_either, plain)

  plain_stat : IsPlain (stat s)
  plain_stat = search (plain)

  plain_unmount : IsPlain (unmount s)
  plain_unmount = search (fares_either, plain)

  fares : (dropped : Dropped) (request : Request) (answer : Answer) → Fares (is_view request) (may_leave_held request) s (alone_with dropped request answer s)
  fares dropped (Request.Alloc unit count perm) answer = plain_alloc unit count perm
  fares dropped (Request.Get t b) answer = fares_with false false s (at t s.transactions) _ (λ trans. plain_get t b)
  fares dropped (Request.Read t b) answer = fares_with false false s (at t s.transactions) _ (plain_read t b answer)
  fares dropped (Request.View t b) answer = fares_with true false s (at t s.transactions) _ (fares_view t b)
  fares dropped (Request.Log first t b bytes) answer = fares_with false false s (at t s.transactions) _ (plain_log t b first bytes)
  fares dropped (Request.Hold t b) answer = fares_with false false s (at t s.transactions) _ (plain_hold t b)
  fares dropped (Request.Unhold t b) answer = fares_with false false s (at t s.transactions) _ (plain_unhold t b)
  fares dropped (Request.Relse t b) answer = fares_with false false s (at t s.transactions) _ (λ trans. plain_released dropped t b trans (own_count t (at b s.owners)))
  fares dropped (Request.Join t b) answer = fares_with false false s (at t s.transactions) _ (plain_join t b)
  fares dropped (Request.Release b) answer = plain_release dropped b
  fares dropped (Request.Inval t b) answer = fares_with false false s (at t s.transactions) _ (plain_inval t b)
  fares dropped (Request.Commit t) answer = fares_with false true s (at t s.transactions) _ (fares_commit dropped t)
  fares dropped (Request.Roll t) answer = fares_with false true s (at t s.transactions) _ (fares_roll dropped t)
  fares dropped (Request.Cancel t) answer = fares_with false true s (at t s.transactions) _ (fares_cancel dropped t)
  fares dropped Request.Force answer = plain_force
  fares dropped (Request.ForceTo number) answer = plain_force_to number
  fares dropped Request.Push answer = plain_push
  fares dropped Request.Shutdown answer = record { carries = λ e. e; names = λ e. e; keeps = refl; stays = λ r e. ap (shut_for Reason.ForceUmount) e }
  fares dropped Request.Freeze answer = plain_freeze
  fares dropped Request.Thaw answer = plain_thaw
  fares dropped Request.Stat answer = plain_stat
  fares dropped Request.Unmount answer = plain_unmount

-- ---- a call of a mount
-- only a view is answered a content
pub data_only_view : (dropped : Dropped) (request : Request) (answer : Answer) (m : State) → carries_content (alone_with dropped request answer m).reply ≡ true → is_view request ≡ true
data_only_view dropped request answer m = (fares m dropped request answer).carries

-- only the end of a leg names blocks that stay held
pub held_only : (dropped : Dropped) (request : Request) (answer : Answer) (m : State) → names_held (alone_with dropped request answer m).reply ≡ true → may_leave_held request ≡ true
held_only dropped request answer m = (fares m dropped request answer).names

-- a call leaves those numbers
pub call_keeps_numbers : (dropped : Dropped) (request : Request) (answer : Answer) (m : State) → numbers (alone_with dropped request answer m).state ≡ numbers m
call_keeps_numbers dropped request answer m = (fares m dropped request answer).keeps

-- each of those numbers the same
pub record IsSameJobs (s t : State) : Type 0 where
  pub slot : t.slot ≡ s.slot
  pub life : t.life ≡ s.life
  pub last_serial : t.jobs.last_serial ≡ s.jobs.last_serial
  pub ckpt : t.jobs.ckpt ≡ s.jobs.ckpt
  pub flush : t.jobs.flush ≡ s.jobs.flush
  pub flight : t.items.flight ≡ s.items.flight

same_jobs : (s t : State) → numbers t ≡ numbers s → IsSameJobs s t
same_jobs s t e = record {
  slot = ap (λ (n : Numbers). n.slot) e;
  life = ap (λ (n : Numbers). n.life) e;
  last_serial = ap (λ (n : Numbers). n.last_serial) e;
  ckpt = ap (λ (n : Numbers). n.ckpt) e;
  flush = ap (λ (n : Numbers). n.flush) e;
  flight = ap (λ (n : Numbers). n.flight) e;
}

-- a call leaves life, last serial, posted jobs and flight
pub call_keeps_jobs : (dropped : Dropped) (request : Request) (answer : Answer) (m : State) → IsSameJobs m (alone_with dropped request answer m).state
call_keeps_jobs dropped request answer m = same_jobs m (alone_with dropped request answer m).state (call_keeps_numbers dropped request answer m)

-- a call of a shut mount leaves it shut, for the same reason
pub shut_stays : (dropped : Dropped) (request : Request) (answer : Answer) (m : State) → StaysShut m (alone_with dropped request answer m).state
shut_stays dropped request answer m = (fares m dropped request answer).stays

state_either : (b : Bool) (x y : Reply) (m : State) → (if b then gives x m else gives y m).state ≡ m
state_either true x y m = refl
state_either false x y m = refl

viewed_keeps : (t b : ℕ) (m : State) (o : Option Transaction) → (with_trans o m (view t b m)).state ≡ m
viewed_keeps t b m None = refl
viewed_keeps t b m (Some trans) = state_either _ _ _ m

-- a view changes nothing
pub view_keeps : (dropped : Dropped) (t b : ℕ) (answer : Answer) (m : State) → (alone_with dropped (Request.View t b) answer m).state ≡ m
view_keeps dropped t b answer m = viewed_keeps t b m (at t m.transactions)

-- ---- a call as a step of a slot
-- what holds of a call's turn: its reply carries and names what its request may; unless it unmounted, it leaves the numbers of the mount, or no mount, and a shut one shut
record FaresIn (request : Request) (o : Option State) (t : Turn) : Type 0 where
  carries : carries_content t.reply ≡ true → is_view request ≡ true
  names : names_held t.reply ≡ true → may_leave_held request ≡ true
  keeps : (is_unmount request && is_okay t.reply) ≡ false → numbers_of t.slot.mounted ≡ numbers_of o
  stays : (is_unmount request && is_okay t.reply) ≡ false → (r : Reason) → reason_of o ≡ Some r → reason_of t.slot.mounted ≡ Some r

-- the mount after a call that did not unmount
after_keeps : (o : Outcome) (gone : Bool) → gone ≡ false → numbers_of (if gone then None else Some o.state) ≡ Some (numbers o.state)
after_keeps o false off = refl
after_keeps o true off = absurd (false≢true (sym off))

after_stays : (o : Outcome) (gone : Bool) (r : Reason) → gone ≡ false → o.state.shut ≡ Some r → reason_of (if gone then None else Some o.state) ≡ Some r
after_stays o false r off e = e
after_stays o true r off e = absurd (false≢true (sym off))

module _ (slot life : ℕ) (request : Request) (answer : Answer) (s : Lone) where
  refused_fares : (o : Option State) (e : Errno) → s.mounted ≡ o → FaresIn request o (turn (Refused e) s)
  refused_fares o e h = record {
    carries = λ on. absurd (false≢true on);
    names = λ on. absurd (false≢true on);
    keeps = λ off. ap numbers_of h;
    stays = λ off r e. ap reason_of h ∙ e;
  }

  called_fares : (m : State) → FaresIn request (Some m) (called request s (alone_with [] request answer m))
  called_fares m =
      let o = alone_with [] request answer m in
      record {
        carries = data_only_view [] request answer m;
        names = held_only [] request answer m;
        keeps = λ off. after_keeps o (is_unmount request && is_okay o.reply) off ∙ ap Some (call_keeps_numbers [] request answer m);
        stays = λ off r e. after_stays o (is_unmount request && is_okay o.reply) r off (shut_stays [] request answer m r e);
      }

  lives_fare : (m : State) (b : Bool) → s.mounted ≡ Some m → FaresIn request (Some m) (if b then called request s (alone_with [] request answer m) else turn (Refused Errno.Stale) s)
  lives_fare m true h = called_fares m
  lives_fare m false h = refused_fares (Some m) Errno.Stale h

  call_fares : (o : Option State) → s.mounted ≡ o → FaresIn request o (call [] life request answer s o)
  call_fares None h = refused_fares None Errno.NoDevice h
  call_fares (Some m) h = lives_fare m (m.life == life) h

  step_fares : FaresIn request s.mounted (alone (Call slot life request answer) s)
  step_fares = call_fares s.mounted refl

  -- only a view's step is answered a content
  pub step_data_only_view : carries_content (alone (Call slot life request answer) s).reply ≡ true → is_view request ≡ true
  step_data_only_view = step_fares.carries

  -- only a step that ends a leg names blocks that stay held
  pub step_held_only : names_held (alone (Call slot life request answer) s).reply ≡ true → may_leave_held request ≡ true
  step_held_only = step_fares.names

  -- a call's step that does not unmount leaves the numbers of the mount, or no mount
  pub step_keeps_numbers :
      (is_unmount request && is_okay (alone (Call slot life request answer) s).reply) ≡ false
      → numbers_of (alone (Call slot life request answer) s).slot.mounted ≡ numbers_of s.mounted
  step_keeps_numbers = step_fares.keeps

  -- and a shut one shut, for the same reason
  pub step_shut_stays :
      (is_unmount request && is_okay (alone (Call slot life request answer) s).reply) ≡ false
      → (r : Reason) → reason_of s.mounted ≡ Some r → reason_of (alone (Call slot life request answer) s).slot.mounted ≡ Some r
  step_shut_stays = step_fares.stays

mounted_same : (n : Numbers) (o : Option State) → numbers_of o ≡ Some n → (u : State) × (o ≡ Some u) × (numbers u ≡ n)
mounted_same n None e = absurd (none-some n e)
mounted_same n (Some u) e = (u, refl, same_Some (numbers u) n e)

unmounted_same : (o : Option State) → numbers_of o ≡ None → o ≡ None
unmounted_same None e = refl
unmounted_same (Some u) e = absurd (none-some (numbers u) (sym e))

-- the same of a slot that is mounted: there is a mount after it, with life, last serial, posted jobs and flight the same
pub step_keeps_jobs :
    (slot life : ℕ) (request : Request) (answer : Answer) (s : Lone) (m : State) → s.mounted ≡ Some m
    → (is_unmount request && is_okay (alone (Call slot life request answer) s).reply) ≡ false
    → (u : State) × ((alone (Call slot life request answer) s).slot.mounted ≡ Some u) × IsSameJobs m u
step_keeps_jobs slot life request answer s m h off =
    let found = mounted_same (numbers m) (alone (Call slot life request answer) s).slot.mounted (step_keeps_numbers slot life request answer s off ∙ ap numbers_of h) in
    (found.0, found.1, same_jobs m found.0 found.2)

unmounted_call : (life : ℕ) (request : Request) (answer : Answer) (s : Lone) → s.mounted ≡ None → (o : Option State) → o ≡ None → (call [] life request answer s o).slot.mounted ≡ None
unmounted_call life request answer s h None e = h
unmounted_call life request answer s h (Some m) e = absurd (none-some m (sym e))

-- and of one that is not
pub step_stays_unmounted :
    (slot life : ℕ) (request : Request) (answer : Answer) (s : Lone) → s.mounted ≡ None
    → (alone (Call slot life request answer) s).slot.mounted ≡ None
step_stays_unmounted slot life request answer s h = unmounted_call life request answer s h s.mounted h

-- ---- the step of a view
module _ (slot life t b : ℕ) (answer : Answer) (s : Lone) where
  viewed_slot : (m : State) (same : Bool) → s.mounted ≡ Some m → (if same then called (Request.View t b) s (alone_with [] (Request.View t b) answer m) else turn (Refused Errno.Stale) s).slot ≡ s
  viewed_slot m true h = ap (λ (x : State). record s { mounted = Some x }) (view_keeps [] t b answer m) ∙ ap (λ (o : Option State). record s { mounted = o }) (sym h)
  viewed_slot m false h = refl

  viewed_call : (o : Option State) → s.mounted ≡ o → (call [] life (Request.View t b) answer s o).slot ≡ s
  viewed_call None h = refl
  viewed_call (Some m) h = viewed_slot m (m.life == life) h

  -- it changes nothing
  pub step_view_keeps : (alone (Call slot life (Request.View t b) answer) s).slot ≡ s
  step_view_keeps = viewed_call s.mounted refl

-- ---- unmount
-- no job is posted and not finished
abbrev pub IsIdle : State → Type 0
IsIdle m = (m.jobs.ckpt ≡ None) × (m.jobs.flush ≡ None)

idle_of : (a b : Bool) (ckpt flush : Option ℕ) (d : Bool) → (a || b || is_some ckpt || is_some flush || d) ≡ false → (ckpt ≡ None) × (flush ≡ None)
idle_of false false None None d e = (refl, refl)
idle_of false false None (Some x) d e = absurd (false≢true (sym e))
idle_of false false (Some x) flush d e = absurd (false≢true (sym e))
idle_of false true ckpt flush d e = absurd (false≢true (sym e))
idle_of true b ckpt flush d e = absurd (false≢true (sym e))

unmount_idle_if : (b : Bool) (m : State) → is_okay (if b then gives (Refused Busy) m else gives Okay m).reply ≡ true → b ≡ false
unmount_idle_if true m e = absurd (false≢true e)
unmount_idle_if false m e = refl

-- an unmount that is answered ok found no such job
pub unmount_is_idle : (dropped : Dropped) (answer : Answer) (m : State) → is_okay (alone_with dropped Request.Unmount answer m).reply ≡ true → IsIdle m
unmount_is_idle dropped answer m e =
    idle_of (not (length m.transactions == 0)) (list_any (λ e. is_held (Some e.1)) m.owners) m.jobs.ckpt m.jobs.flush
    (is_none m.shut && not ((length m.items.cil == 0) && is_none m.items.flight && (length m.items.ail == 0)))
    (unmount_idle_if (is_in_use m) m e)

module _ (slot life : ℕ) (answer : Answer) (s : Lone) where
  unmounts_if : (b : Bool) (m : State) → (if b then called Request.Unmount s (alone_with [] Request.Unmount answer m) else turn (Refused Errno.Stale) s).reply ≡ Okay → IsIdle m
  unmounts_if true m e = unmount_is_idle [] answer m (ap is_okay e)
  unmounts_if false m e = absurd (false≢true (ap is_okay e))

  unmounts : (o : Option State) → (call [] life Request.Unmount answer s o).reply ≡ Okay → IsSomeAnd o IsIdle
  unmounts None e = absurd (false≢true (ap is_okay e))
  unmounts (Some m) e = unmounts_if (m.life == life) m e

  empties_if : (b : Bool) (m : State) → (if b then called Request.Unmount s (alone_with [] Request.Unmount answer m) else turn (Refused Errno.Stale) s).reply ≡ Okay
      → (if b then called Request.Unmount s (alone_with [] Request.Unmount answer m) else turn (Refused Errno.Stale) s).slot.mounted ≡ None
  empties_if true m e = ap (λ (r : Reply). if is_okay r then None else Some (alone_with [] Request.Unmount answer m).state) e
  empties_if false m e = absurd (false≢true (ap is_okay e))

  empties : (o : Option State) → (call [] life Request.Unmount answer s o).reply ≡ Okay → (call [] life Request.Unmount answer s o).slot.mounted ≡ None
  empties None e = absurd (false≢true (ap is_okay e))
  empties (Some m) e = empties_if (m.life == life) m e

  -- an unmount that is answered ok leaves no mount
  pub unmount_empties : (alone (Call slot life Request.Unmount answer) s).reply ≡ Okay → (alone (Call slot life Request.Unmount answer) s).slot.mounted ≡ None
  unmount_empties = empties s.mounted

  -- a slot that is unmounted had a mount, with no such job
  pub unmount_idle : (alone (Call slot life Request.Unmount answer) s).reply ≡ Okay → IsSomeAnd s.mounted IsIdle
  unmount_idle = unmounts s.mounted
