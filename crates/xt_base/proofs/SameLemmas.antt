-- What each call and each job step of a mount leaves as it was: slot, life and last serial, and but for a begin and an end the flight.
use Rattle.std.proofs.Common.{◌≡◌, Bool, List, None, Option, Some, false, length, refl, true, ℕ}
use Rattle.std.specs.Prelude.{if◌then◌else◌, is_some, nat_lt, not, ◌&&◌, ◌-◌, ◌==◌}
use Rattle.xt_base.specs.Calls.{Outcome, alloc, alloc_refusals, alone_with, answered, asks_ckpt, asks_flush, brought, cancel, closed, commit, commit_number, committed_of, first_of, force, force_to, force_to_refusals, freeze, freeze_refusals, get, get_refusals, gives, held_of, hold, inval, inval_refusals, io_of, is_absent, is_flight, is_no_room, join, join_refusals, legs_after, locked, log, log_refusals, push, read, read_refusals, release, released, roll, shut_down, shut_if, thaw, unhold, unless, unmount, unowned, view, waits_for, with_leg, with_legs, with_owner, with_trans, without_hold}
use Rattle.xt_base.specs.Jobs.{begin, end, end_of, is_ok, flush, flush_of, flush_plan}
use Rattle.xt_base.specs.Legs.{aborted, ended, is_dirty, own_count}
use Rattle.xt_base.specs.Maps.{at, is_in}
use Rattle.xt_base.specs.Settle.{Dropped, settled}
use Rattle.xt_base.specs.State.{Flight, Leg, State, Transaction}
use Rattle.xt_base.specs.declared.steps.Answer.{Answer}
use Rattle.xt_base.specs.declared.steps.Errno.{Errno}
use Rattle.xt_base.specs.declared.steps.Errno.TheVariants.{Again, Invalid, Io}
use Rattle.xt_base.specs.declared.steps.HomeAnswers.{HomeAnswers}
use Rattle.xt_base.specs.declared.steps.LogAnswers.{LogAnswers}
use Rattle.xt_base.specs.declared.steps.Reason.TheVariants.{CorruptIncore}
use Rattle.xt_base.specs.declared.steps.Owner.TheVariants.{Trans}
use Rattle.xt_base.specs.declared.steps.Reply.TheVariants.{Done, Free, Kept, Refused, Wait}
use Rattle.xt_base.specs.declared.steps.Request.{Request}

-- the same slot, life and last serial
pub record IsSameLife (s t : State) : Type 0 where
  pub slot : t.slot ≡ s.slot
  pub life : t.life ≡ s.life
  pub serial : t.jobs.last_serial ≡ s.jobs.last_serial

-- the same flight too
pub record IsSameFlight (s t : State) : Type 0 where
  pub slot : t.slot ≡ s.slot
  pub life : t.life ≡ s.life
  pub serial : t.jobs.last_serial ≡ s.jobs.last_serial
  pub flight : t.items.flight ≡ s.items.flight

pub same_life : (s t : State) → IsSameFlight s t → IsSameLife s t
same_life s t e = record { slot = e.slot; life = e.life; serial = e.serial }

-- of any state and itself
pub same : (s : State) → IsSameFlight s s
same s = record { slot = refl; life = refl; serial = refl; flight = refl }

module _ (s : State) where
  same_either : (b : Bool) (x y : Outcome) → IsSameFlight s x.state → IsSameFlight s y.state → IsSameFlight s (if b then x else y).state
  same_either true x y hx hy = hx
  same_either false x y hx hy = hy

  life_either : (b : Bool) (x y : Outcome) → IsSameLife s x.state → IsSameLife s y.state → IsSameLife s (if b then x else y).state
  life_either true x y hx hy = hx
  life_either false x y hx hy = hy

  same_chosen : (b : Bool) (x y : State) → IsSameFlight s x → IsSameFlight s y → IsSameFlight s (if b then x else y)
  same_chosen true x y hx hy = hx
  same_chosen false x y hx hy = hy

  same_unless : (r : Option Errno) (o : Outcome) → IsSameFlight s o.state → IsSameFlight s (unless r s o).state
  same_unless None o h = h
  same_unless (Some e) o h = same s

  same_with : (o : Option Transaction) (f : Transaction → Outcome) → ((trans : Transaction) → IsSameFlight s (f trans).state) → IsSameFlight s (with_trans o s f).state
  same_with None f h = same s
  same_with (Some trans) f h = h trans

  same_alloc : (unit count : ℕ) (perm : Bool) → IsSameFlight s (alloc unit count perm s).state
  same_alloc unit count perm = same_unless (first_of (alloc_refusals unit count perm s)) _ (same_either _ _ _ (record { slot = refl; life = refl; serial = refl; flight = refl }) (record { slot = refl; life = refl; serial = refl; flight = refl }))

  same_brought : (b : ℕ) (o : Option (List ℕ)) → IsSameFlight s (brought b o s)
  same_brought b None = record { slot = refl; life = refl; serial = refl; flight = refl }
  same_brought b (Some content) = record { slot = refl; life = refl; serial = refl; flight = refl }

  same_locked : (t b : ℕ) (o : Option ℕ) → IsSameFlight s (locked t b o s)
  same_locked t b (Some count) = record { slot = refl; life = refl; serial = refl; flight = refl }
  same_locked t b None =
      let inner = same_chosen _ s (brought b (at b s.frames.idle) s) (same s) (same_brought b (at b s.frames.idle)) in
      record { slot = inner.slot; life = inner.life; serial = inner.serial; flight = inner.flight }

  same_get : (t b : ℕ) → IsSameFlight s (get t b s).state
  same_get t b = same_unless (first_of (get_refusals t b s)) _ (same_locked t b (own_count t (at b s.owners)))

  same_answered : (t b : ℕ) (leg : Leg) (answer : Answer) → IsSameFlight s (answered t b leg s answer).state
  same_answered t b leg (Answer.Content content) = record { slot = refl; life = refl; serial = refl; flight = refl }
  same_answered t b leg Answer.None = same_chosen _ _ s (record { slot = refl; life = refl; serial = refl; flight = refl }) (same s)
  same_answered t b leg Answer.Failed = same_chosen _ _ s (record { slot = refl; life = refl; serial = refl; flight = refl }) (same s)

  same_read : (t b : ℕ) (answer : Answer) (trans : Transaction) → IsSameFlight s (read t b answer s trans).state
  same_read t b answer trans =
      same_unless (first_of (read_refusals t b trans.leg s)) _
      (same_either (is_absent t b s) _ _ (same_answered t b trans.leg answer) (same_locked t b (own_count t (at b s.owners))))

  same_view : (t b : ℕ) (trans : Transaction) → IsSameFlight s (view t b s trans).state
  same_view t b trans = same_either _ _ _ (same s) (same s)

  same_log : (t b first : ℕ) (bytes : List ℕ) (trans : Transaction) → IsSameFlight s (log t b first bytes s trans).state
  same_log t b first bytes trans = same_unless (first_of (log_refusals t b first bytes trans s)) _ (record { slot = refl; life = refl; serial = refl; flight = refl })

  same_hold : (t b : ℕ) (trans : Transaction) → IsSameFlight s (hold t b s trans).state
  same_hold t b trans = same_either _ _ _ (same s) (record { slot = refl; life = refl; serial = refl; flight = refl })

  same_unhold : (t b : ℕ) (trans : Transaction) → IsSameFlight s (unhold t b s trans).state
  same_unhold t b trans = same_either _ _ _ (same s) (record { slot = refl; life = refl; serial = refl; flight = refl })

  same_released : (dropped : Dropped) (t b : ℕ) (trans : Transaction) (o : Option ℕ) → IsSameFlight s (released dropped t b trans s o).state
  same_released dropped t b trans None = same s
  same_released dropped t b trans (Some count) =
      let free = gives Free (settled dropped (unowned b (with_leg t trans (without_hold b trans.leg) s))) in
      let last = if is_in b trans.leg.changes then gives Kept s else free in
      same_either (nat_lt 0 count) (gives Kept (with_owner b (Trans t (count - 1)) s)) last (record { slot = refl; life = refl; serial = refl; flight = refl })
      (same_either (is_in b trans.leg.changes) (gives Kept s) free (same s) (record { slot = refl; life = refl; serial = refl; flight = refl }))

  same_join : (t b : ℕ) (trans : Transaction) → IsSameFlight s (join t b s trans).state
  same_join t b trans = same_unless (first_of (join_refusals b s)) _ (record { slot = refl; life = refl; serial = refl; flight = refl })

  same_release : (dropped : Dropped) (b : ℕ) → IsSameFlight s (release dropped b s).state
  same_release dropped b = same_either _ _ _ (record { slot = refl; life = refl; serial = refl; flight = refl }) (same s)

  same_inval : (t b : ℕ) (trans : Transaction) → IsSameFlight s (inval t b s trans).state
  same_inval t b trans = same_unless (first_of (inval_refusals t b trans s)) _ (same_chosen _ s _ (same s) (record { slot = refl; life = refl; serial = refl; flight = refl }))

  same_commit : (dropped : Dropped) (t : ℕ) (trans : Transaction) → IsSameFlight s (commit dropped t s trans).state
  same_commit dropped t trans = same_either _ _ _ (record { slot = refl; life = refl; serial = refl; flight = refl }) (record { slot = refl; life = refl; serial = refl; flight = refl })

  same_roll : (dropped : Dropped) (t : ℕ) (trans : Transaction) → IsSameFlight s (roll dropped t s trans).state
  same_roll dropped t trans =
      let went = gives (committed_of (commit_number trans.leg s) (held_of trans.leg.holds)) (settled dropped (with_legs t (legs_after trans.legs) trans (ended t trans.leg s))) in
      let full = gives (Refused Again) (asks_flush (asks_ckpt s)) in
      let shut = gives (io_of (held_of trans.leg.holds)) (settled dropped (with_legs t 0 trans (aborted t trans.leg s))) in
      let live = if is_no_room t trans s then full else went in
      same_either (not trans.perm) (gives (Refused Invalid) s) (if is_some s.shut then shut else live) (same s)
      (same_either (is_some s.shut) shut live (record { slot = refl; life = refl; serial = refl; flight = refl })
      (same_either (is_no_room t trans s) full went (record { slot = refl; life = refl; serial = refl; flight = refl }) (record { slot = refl; life = refl; serial = refl; flight = refl })))

  same_shut_if : (b : Bool) (u : State) → IsSameFlight s u → IsSameFlight s (shut_if b CorruptIncore u)
  same_shut_if b u h = same_chosen b (shut_down CorruptIncore u) u (record { slot = h.slot; life = h.life; serial = h.serial; flight = h.flight }) h

  same_cancel : (dropped : Dropped) (t : ℕ) (trans : Transaction) → IsSameFlight s (cancel dropped t s trans).state
  same_cancel dropped t trans =
      let shut = same_shut_if (is_dirty trans.leg) (closed t (aborted t trans.leg s)) (record { slot = refl; life = refl; serial = refl; flight = refl }) in
      record { slot = shut.slot; life = shut.life; serial = shut.serial; flight = shut.flight }

  same_force : IsSameFlight s (force s).state
  same_force =
      let later = if length s.items.cil == 0 then gives (waits_for s.items.flight) s else gives (Wait s.items.open_number) (asks_ckpt s) in
      same_either (is_some s.shut) (gives (Refused Io) s) later (same s)
      (same_either (length s.items.cil == 0) (gives (waits_for s.items.flight) s) (gives (Wait s.items.open_number) (asks_ckpt s)) (same s) (record { slot = refl; life = refl; serial = refl; flight = refl }))

  same_force_to : (number : ℕ) → IsSameFlight s (force_to number s).state
  same_force_to number =
      let flying = if is_flight number s.items.flight then gives (Wait number) s else gives Done s in
      same_unless (first_of (force_to_refusals number s)) _
      (same_either ((number == s.items.open_number) && not (length s.items.cil == 0)) (gives (Wait number) (asks_ckpt s)) flying (record { slot = refl; life = refl; serial = refl; flight = refl })
      (same_either (is_flight number s.items.flight) (gives (Wait number) s) (gives Done s) (same s) (same s)))

  same_push : IsSameFlight s (push s).state
  same_push = same_either _ _ _ (same s) (record { slot = refl; life = refl; serial = refl; flight = refl })

  same_freeze : IsSameFlight s (freeze s).state
  same_freeze = same_unless (first_of (freeze_refusals s)) _ (record { slot = refl; life = refl; serial = refl; flight = refl })

  same_thaw : IsSameFlight s (thaw s).state
  same_thaw = same_either _ _ _ (record { slot = refl; life = refl; serial = refl; flight = refl }) (same s)

  same_unmount : IsSameFlight s (unmount s).state
  same_unmount = same_either _ _ _ (same s) (same s)

  -- a call leaves slot, life, last serial and flight
  pub same_call : (dropped : Dropped) (request : Request) (answer : Answer) → IsSameFlight s (alone_with dropped request answer s).state
  same_call dropped (Request.Alloc unit count perm) answer = same_alloc unit count perm
  same_call dropped (Request.Get t b) answer = same_with (at t s.transactions) _ (λ trans. same_get t b)
  same_call dropped (Request.Read t b) answer = same_with (at t s.transactions) _ (same_read t b answer)
  same_call dropped (Request.View t b) answer = same_with (at t s.transactions) _ (same_view t b)
  same_call dropped (Request.Log first t b bytes) answer = same_with (at t s.transactions) _ (same_log t b first bytes)
  same_call dropped (Request.Hold t b) answer = same_with (at t s.transactions) _ (same_hold t b)
  same_call dropped (Request.Unhold t b) answer = same_with (at t s.transactions) _ (same_unhold t b)
  same_call dropped (Request.Relse t b) answer = same_with (at t s.transactions) _ (λ trans. same_released dropped t b trans (own_count t (at b s.owners)))
  same_call dropped (Request.Join t b) answer = same_with (at t s.transactions) _ (same_join t b)
  same_call dropped (Request.Release b) answer = same_release dropped b
  same_call dropped (Request.Inval t b) answer = same_with (at t s.transactions) _ (same_inval t b)
  same_call dropped (Request.Commit t) answer = same_with (at t s.transactions) _ (same_commit dropped t)
  same_call dropped (Request.Roll t) answer = same_with (at t s.transactions) _ (same_roll dropped t)
  same_call dropped (Request.Cancel t) answer = same_with (at t s.transactions) _ (same_cancel dropped t)
  same_call dropped Request.Force answer = same_force
  same_call dropped (Request.ForceTo number) answer = same_force_to number
  same_call dropped Request.Push answer = same_push
  same_call dropped Request.Shutdown answer = record { slot = refl; life = refl; serial = refl; flight = refl }
  same_call dropped Request.Freeze answer = same_freeze
  same_call dropped Request.Thaw answer = same_thaw
  same_call dropped Request.Stat answer = same s
  same_call dropped Request.Unmount answer = same_unmount

  -- a begin leaves slot, life and last serial
  pub same_begin : IsSameLife s (begin s).state
  same_begin = life_either (is_some s.shut) _ _ (record { slot = refl; life = refl; serial = refl }) (record { slot = refl; life = refl; serial = refl })

  same_end_of : (dropped : Dropped) (answers : LogAnswers) (o : Option Flight) → IsSameLife s (end_of dropped answers s o).state
  same_end_of dropped answers None = record { slot = refl; life = refl; serial = refl }
  same_end_of dropped answers (Some f) = life_either (is_ok answers.sync) _ _ (record { slot = refl; life = refl; serial = refl }) (record { slot = refl; life = refl; serial = refl })

  -- an end does too
  pub same_end : (dropped : Dropped) (answers : LogAnswers) → IsSameLife s (end dropped answers s).state
  same_end dropped answers = same_end_of dropped answers s.items.flight

  same_flush_of : (dropped : Dropped) (answers : HomeAnswers) (plan : List ℕ) → IsSameFlight s (flush_of dropped answers s plan).state
  same_flush_of dropped answers plan = same_either _ _ _ (record { slot = refl; life = refl; serial = refl; flight = refl }) (record { slot = refl; life = refl; serial = refl; flight = refl })

  -- a flush leaves the flight too
  pub same_flush : (dropped : Dropped) (answers : HomeAnswers) → IsSameFlight s (flush dropped answers s).state
  same_flush dropped answers = same_flush_of dropped answers (flush_plan s)
