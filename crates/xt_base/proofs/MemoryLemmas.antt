-- A step of a slot alone is never answered ENOMEM.
use Rattle.std.proofs.Common.{◌≡◌, ◌∷◌, Bool, List, None, Option, Some, [], false, length, refl, true, ℕ}
use Rattle.std.specs.List.{list_all}
use Rattle.std.specs.Prelude.{if◌then◌else◌, is_some, nat_lt, not, ◌&&◌, ◌*◌, ◌+◌, ◌-◌, ◌==◌, ◌||◌}
use Rattle.std.proofs.lemmas.Bool.{and_parts, not-true}
use Rattle.xt_base.specs.Alone.{Turn, alone, call, called, goes_on, mount_refusals, mounted_new, on_mount, turn, unless_refused, with_mount}
use Rattle.xt_base.specs.Calls.{Outcome, alloc, alloc_refusals, allocated, alone_with, answered, asks_ckpt, asks_flush, closed, commit, commit_number, committed_of, first_of, force, force_to, force_to_refusals, freeze, freeze_refusals, get, get_refusals, gives, held_of, hold, inval, inval_refusals, io_of, is_absent, is_flight, is_held, is_in_use, is_no_room, is_own, join, join_refusals, legs_after, locked, log, log_refusals, logged_leg, invalidated, marked_frozen, not_fresh, okay_of, push, read, read_refusals, release, released, roll, seen, thaw, unhold, unless, unmount, unowned, view, waits_for, with_leg, with_legs, with_owner, with_trans, without_hold}
use Rattle.xt_base.specs.Isolation.{is_memory, is_no_memory}
use Rattle.xt_base.specs.Jobs.{begin, begun, end, end_of, end_offers, failed, finished, flush, flush_of, flush_offers, flush_plan, flushed, is_ok, landed, next_pieces, posted, unflushed}
use Rattle.xt_base.specs.Legs.{aborted, ended, is_dirty, is_stale, own_count}
use Rattle.xt_base.specs.Maps.{at, has, is_in, with_member}
use Rattle.xt_base.specs.Settle.{Dropped, settled}
use Rattle.xt_base.specs.Space.{used}
use Rattle.xt_base.specs.State.{Flight, Leg, Lone, State, Transaction}
use Rattle.xt_base.specs.declared.names.JobKind.{JobKind}
use Rattle.xt_base.specs.declared.steps.Answer.{Answer}
use Rattle.xt_base.specs.declared.steps.Errno.{Errno}
use Rattle.xt_base.specs.declared.steps.Errno.TheVariants.{Again, Busy, Invalid, Io, Stale}
use Rattle.xt_base.specs.declared.steps.HomeAnswers.{HomeAnswers}
use Rattle.xt_base.specs.declared.steps.HomeOffer.{HomeOffer}
use Rattle.xt_base.specs.declared.steps.LogAnswers.{LogAnswers}
use Rattle.xt_base.specs.declared.steps.LogOffer.{LogOffer}
use Rattle.xt_base.specs.declared.steps.Owner.TheVariants.{Trans}
use Rattle.xt_base.specs.declared.steps.Reply.TheVariants.{Done, Failed, Free, Kept, Landed, Nothing, Okay, Refused, Wait}
use Rattle.xt_base.specs.declared.steps.Request.{Request}
use Rattle.xt_base.specs.declared.steps.Step.{Step}
use Rattle.xt_base.specs.declared.steps.Step.TheVariants.{Begin, Call, End, Flush, Mount, Peek, Post, Show, Take}
use Rattle.xt_base.specs.declared.steps.Reply.TheVariants as Reply

-- an outcome whose reply is not ENOMEM
abbrev pub IsNoWant : Outcome → Type 0
IsNoWant o = is_no_memory o.reply ≡ false

either : (b : Bool) (x y : Outcome) → IsNoWant x → IsNoWant y → IsNoWant (if b then x else y)
either true x y hx hy = hx
either false x y hx hy = hy

refused : (b : Bool) (e : Errno) (r : Option Errno) (s : State) (o : Outcome) → not (is_memory e) ≡ true → IsNoWant (unless r s o) → IsNoWant (unless (if b then Some e else r) s o)
refused true e r s o other h = not-true (is_memory e) other
refused false e r s o other h = h

-- the refusals of a list that does not name it
listed : (rs : List (Bool × Errno)) (s : State) (o : Outcome) → list_all (λ r. not (is_memory r.1)) rs ≡ true → IsNoWant o → IsNoWant (unless (first_of rs) s o)
listed [] s o all h = h
listed (r ∷ rs) s o all h = refused r.0 r.1 (first_of rs) s o (and_parts (not (is_memory r.1)) (list_all (λ r. not (is_memory r.1)) rs) all).0 (listed rs s o (and_parts (not (is_memory r.1)) (list_all (λ r. not (is_memory r.1)) rs) all).1 h)

io_no_want : (held : List ℕ) → is_no_memory (io_of (held_of held)) ≡ false
io_no_want [] = refl
io_no_want (b ∷ bs) = refl

okay_no_want : (held : List ℕ) → is_no_memory (okay_of (held_of held)) ≡ false
okay_no_want [] = refl
okay_no_want (b ∷ bs) = refl

committed_no_want : (number : ℕ) (held : List ℕ) → is_no_memory (committed_of number (held_of held)) ≡ false
committed_no_want number [] = refl
committed_no_want number (b ∷ bs) = refl

waits_no_want : (o : Option Flight) → is_no_memory (waits_for o) ≡ false
waits_no_want None = refl
waits_no_want (Some f) = refl

module _ (s : State) where
  with_no_want : (o : Option Transaction) (f : Transaction → Outcome) → ((trans : Transaction) → IsNoWant (f trans)) → IsNoWant (with_trans o s f)
  with_no_want None f h = refl
  with_no_want (Some trans) f h = h trans

  alloc_no_want : (unit count : ℕ) (perm : Bool) → IsNoWant (alloc unit count perm s)
  alloc_no_want unit count perm =
      let full = gives (Refused Again) (asks_flush (asks_ckpt s)) in
      listed (alloc_refusals unit count perm s) s (if nat_lt s.log_bytes (used s + unit * count) then full else allocated unit count perm s) refl
      (either (nat_lt s.log_bytes (used s + unit * count)) full (allocated unit count perm s) refl refl)

  get_no_want : (t b : ℕ) → IsNoWant (get t b s)
  get_no_want t b = listed (get_refusals t b s) s (gives Okay (locked t b (own_count t (at b s.owners)) s)) refl refl

  answered_no_want : (t b : ℕ) (leg : Leg) (answer : Answer) → IsNoWant (answered t b leg s answer)
  answered_no_want t b leg (Answer.Content content) = refl
  answered_no_want t b leg Answer.None = refl
  answered_no_want t b leg Answer.Failed = refl

  read_no_want : (t b : ℕ) (answer : Answer) (trans : Transaction) → IsNoWant (read t b answer s trans)
  read_no_want t b answer trans =
      let there = gives Okay (locked t b (own_count t (at b s.owners)) s) in
      listed (read_refusals t b trans.leg s) s (if is_absent t b s then answered t b trans.leg s answer else there) refl
      (either (is_absent t b s) (answered t b trans.leg s answer) there (answered_no_want t b trans.leg answer) refl)

  view_no_want : (t b : ℕ) (trans : Transaction) → IsNoWant (view t b s trans)
  view_no_want t b trans = either (is_own s t b) (gives (Reply.Data (seen s.form.size b trans.leg s.frames)) s) (gives (Refused Invalid) s) refl refl

  log_no_want : (t b first : ℕ) (bytes : List ℕ) (trans : Transaction) → IsNoWant (log t b first bytes s trans)
  log_no_want t b first bytes trans =
      listed (log_refusals t b first bytes trans s) s (gives Okay (not_fresh b (with_leg t trans (logged_leg s.form.size b first bytes s.frames trans.leg) s))) refl refl

  hold_no_want : (t b : ℕ) (trans : Transaction) → IsNoWant (hold t b s trans)
  hold_no_want t b trans =
      either (not (is_own s t b) || is_stale b trans.leg) (gives (Refused Invalid) s) (gives Okay (with_leg t trans (record trans.leg { holds = with_member b trans.leg.holds }) s)) refl refl

  unhold_no_want : (t b : ℕ) (trans : Transaction) → IsNoWant (unhold t b s trans)
  unhold_no_want t b trans =
      either (not (is_own s t b) || not (has trans.leg.holds b)) (gives (Refused Invalid) s) (gives Okay (with_leg t trans (without_hold b trans.leg) s)) refl refl

  released_no_want : (dropped : Dropped) (t b : ℕ) (trans : Transaction) (o : Option ℕ) → IsNoWant (released dropped t b trans s o)
  released_no_want dropped t b trans None = refl
  released_no_want dropped t b trans (Some count) =
      let free = gives Free (settled dropped (unowned b (with_leg t trans (without_hold b trans.leg) s))) in
      let last = if is_in b trans.leg.changes then gives Kept s else free in
      either (nat_lt 0 count) (gives Kept (with_owner b (Trans t (count - 1)) s)) last refl (either (is_in b trans.leg.changes) (gives Kept s) free refl refl)

  join_no_want : (t b : ℕ) (trans : Transaction) → IsNoWant (join t b s trans)
  join_no_want t b trans = listed (join_refusals b s) s (gives Okay (with_owner b (Trans t 0) s)) refl refl

  release_no_want : (dropped : Dropped) (b : ℕ) → IsNoWant (release dropped b s)
  release_no_want dropped b = either (is_held (at b s.owners)) (gives Okay (settled dropped (unowned b s))) (gives (Refused Invalid) s) refl refl

  inval_no_want : (t b : ℕ) (trans : Transaction) → IsNoWant (inval t b s trans)
  inval_no_want t b trans =
      listed (inval_refusals t b trans s) s (gives Okay (if is_stale b trans.leg then s else not_fresh b (with_leg t trans (invalidated b trans.leg) s))) refl refl

  commit_no_want : (dropped : Dropped) (t : ℕ) (trans : Transaction) → IsNoWant (commit dropped t s trans)
  commit_no_want dropped t trans =
      let went = gives (committed_of (commit_number trans.leg s) (held_of trans.leg.holds)) (settled dropped (closed t (ended t trans.leg s))) in
      let lost = gives (io_of (held_of trans.leg.holds)) (settled dropped (closed t (aborted t trans.leg s))) in
      either (is_dirty trans.leg && is_some s.shut) lost went (io_no_want trans.leg.holds) (committed_no_want (commit_number trans.leg s) trans.leg.holds)

  roll_no_want : (dropped : Dropped) (t : ℕ) (trans : Transaction) → IsNoWant (roll dropped t s trans)
  roll_no_want dropped t trans =
      let went = gives (committed_of (commit_number trans.leg s) (held_of trans.leg.holds)) (settled dropped (with_legs t (legs_after trans.legs) trans (ended t trans.leg s))) in
      let full = gives (Refused Again) (asks_flush (asks_ckpt s)) in
      let shut = gives (io_of (held_of trans.leg.holds)) (settled dropped (with_legs t 0 trans (aborted t trans.leg s))) in
      let live = if is_no_room t trans s then full else went in
      either (not trans.perm) (gives (Refused Invalid) s) (if is_some s.shut then shut else live) refl
      (either (is_some s.shut) shut live (io_no_want trans.leg.holds) (either (is_no_room t trans s) full went refl (committed_no_want (commit_number trans.leg s) trans.leg.holds)))

  force_no_want : IsNoWant (force s)
  force_no_want =
      let now = gives (waits_for s.items.flight) s in
      let later = gives (Wait s.items.open_number) (asks_ckpt s) in
      either (is_some s.shut) (gives (Refused Io) s) (if length s.items.cil == 0 then now else later) refl (either (length s.items.cil == 0) now later (waits_no_want s.items.flight) refl)

  force_to_no_want : (number : ℕ) → IsNoWant (force_to number s)
  force_to_no_want number =
      let flying = if is_flight number s.items.flight then gives (Wait number) s else gives Done s in
      let asked = gives (Wait number) (asks_ckpt s) in
      let open_one = (number == s.items.open_number) && not (length s.items.cil == 0) in
      listed (force_to_refusals number s) s (if open_one then asked else flying) refl
      (either open_one asked flying refl (either (is_flight number s.items.flight) (gives (Wait number) s) (gives Done s) refl refl))

  push_no_want : IsNoWant (push s)
  push_no_want = either (is_some s.shut) (gives (Refused Io) s) (gives Okay (asks_flush s)) refl refl

  freeze_no_want : IsNoWant (freeze s)
  freeze_no_want = listed (freeze_refusals s) s (gives Okay (marked_frozen true s)) refl refl

  thaw_no_want : IsNoWant (thaw s)
  thaw_no_want = either s.frozen (gives Okay (marked_frozen false s)) (gives (Refused Invalid) s) refl refl

  unmount_no_want : IsNoWant (unmount s)
  unmount_no_want = either (is_in_use s) (gives (Refused Busy) s) (gives Okay s) refl refl

  -- a call is not
  pub call_no_want : (dropped : Dropped) (request : Request) (answer : Answer) → IsNoWant (alone_with dropped request answer s)
  call_no_want dropped (Request.Alloc unit count perm) answer = alloc_no_want unit count perm
  call_no_want dropped (Request.Get t b) answer = with_no_want (at t s.transactions) _ (λ trans. get_no_want t b)
  call_no_want dropped (Request.Read t b) answer = with_no_want (at t s.transactions) _ (read_no_want t b answer)
  call_no_want dropped (Request.View t b) answer = with_no_want (at t s.transactions) _ (view_no_want t b)
  call_no_want dropped (Request.Log first t b bytes) answer = with_no_want (at t s.transactions) _ (log_no_want t b first bytes)
  call_no_want dropped (Request.Hold t b) answer = with_no_want (at t s.transactions) _ (hold_no_want t b)
  call_no_want dropped (Request.Unhold t b) answer = with_no_want (at t s.transactions) _ (unhold_no_want t b)
  call_no_want dropped (Request.Relse t b) answer = with_no_want (at t s.transactions) _ (λ trans. released_no_want dropped t b trans (own_count t (at b s.owners)))
  call_no_want dropped (Request.Join t b) answer = with_no_want (at t s.transactions) _ (join_no_want t b)
  call_no_want dropped (Request.Release b) answer = release_no_want dropped b
  call_no_want dropped (Request.Inval t b) answer = with_no_want (at t s.transactions) _ (inval_no_want t b)
  call_no_want dropped (Request.Commit t) answer = with_no_want (at t s.transactions) _ (commit_no_want dropped t)
  call_no_want dropped (Request.Roll t) answer = with_no_want (at t s.transactions) _ (roll_no_want dropped t)
  call_no_want dropped (Request.Cancel t) answer = with_no_want (at t s.transactions) _ (λ trans. okay_no_want trans.leg.holds)
  call_no_want dropped Request.Force answer = force_no_want
  call_no_want dropped (Request.ForceTo number) answer = force_to_no_want number
  call_no_want dropped Request.Push answer = push_no_want
  call_no_want dropped Request.Shutdown answer = refl
  call_no_want dropped Request.Freeze answer = freeze_no_want
  call_no_want dropped Request.Thaw answer = thaw_no_want
  call_no_want dropped Request.Stat answer = refl
  call_no_want dropped Request.Unmount answer = unmount_no_want

  -- a begin
  pub begin_no_want : IsNoWant (begin s)
  begin_no_want = either (is_some s.shut) (gives Nothing (finished JobKind.Ckpt s)) (begun (next_pieces s) s) refl refl

  end_of_no_want : (dropped : Dropped) (answers : LogAnswers) (o : Option Flight) → IsNoWant (end_of dropped answers s o)
  end_of_no_want dropped answers None = refl
  end_of_no_want dropped answers (Some f) = either (is_ok answers.sync) (gives (Landed f.number) (landed dropped f s)) (gives (Failed f.number) (failed dropped s)) refl refl

  -- an end
  pub end_no_want : (dropped : Dropped) (answers : LogAnswers) → IsNoWant (end dropped answers s)
  end_no_want dropped answers = end_of_no_want dropped answers s.items.flight

  flush_of_no_want : (dropped : Dropped) (answers : HomeAnswers) (plan : List ℕ) → IsNoWant (flush_of dropped answers s plan)
  flush_of_no_want dropped answers plan = either (length plan == 0) (gives Nothing (unflushed s)) (flushed dropped plan answers s) refl refl

-- ---- any step
mount_refused : (b : Bool) (e : Errno) (r : Option Errno) (s : Lone) (t : Turn) → not (is_memory e) ≡ true → is_no_memory (unless_refused r s t).reply ≡ false → is_no_memory (unless_refused (if b then Some e else r) s t).reply ≡ false
mount_refused true e r s t other h = not-true (is_memory e) other
mount_refused false e r s t other h = h

mount_no_want : (rs : List (Bool × Errno)) (s : Lone) (t : Turn) → list_all (λ r. not (is_memory r.1)) rs ≡ true → is_no_memory t.reply ≡ false → is_no_memory (unless_refused (first_of rs) s t).reply ≡ false
mount_no_want [] s t all h = h
mount_no_want (r ∷ rs) s t all h =
    let parts = and_parts (not (is_memory r.1)) (list_all (λ r. not (is_memory r.1)) rs) all in
    mount_refused r.0 r.1 (first_of rs) s t parts.0 (mount_no_want rs s t parts.1 h)

turn_either : (b : Bool) (x y : Turn) → is_no_memory x.reply ≡ false → is_no_memory y.reply ≡ false → is_no_memory (if b then x else y).reply ≡ false
turn_either true x y hx hy = hx
turn_either false x y hx hy = hy

call_step : (dropped : Dropped) (life : ℕ) (request : Request) (answer : Answer) (s : Lone) (o : Option State) → is_no_memory (call dropped life request answer s o).reply ≡ false
call_step dropped life request answer s None = refl
call_step dropped life request answer s (Some m) =
    turn_either (m.life == life) (called request s (alone_with dropped request answer m)) (turn (Refused Stale) s) (call_no_want m dropped request answer) refl

job_step : (f : State → Outcome) (log : State → List LogOffer) (home : State → List HomeOffer) (s : Lone) (o : Option State) → ((m : State) → IsNoWant (f m))
    → is_no_memory (on_mount o s (λ m. goes_on (f m) (log m) (home m) s)).reply ≡ false
job_step f log home s None h = refl
job_step f log home s (Some m) h = h m

post_step : (kind : JobKind) (s : Lone) (o : Option State) → is_no_memory (on_mount o s (λ m. turn Okay (with_mount (posted kind m) s))).reply ≡ false
post_step kind s None = refl
post_step kind s (Some m) = refl

-- no step alone is answered ENOMEM
pub alone_no_want : (x : Step) (s : Lone) → is_no_memory (alone x s).reply ≡ false
alone_no_want (Mount slot log_bytes blocks size) s = mount_no_want (mount_refusals log_bytes blocks size s) s (mounted_new slot log_bytes blocks size s) refl refl
alone_no_want (Call slot life request answer) s = call_step [] life request answer s s.mounted
alone_no_want (Post name) s = post_step name.kind s s.mounted
alone_no_want (Take worker name) s = refl
alone_no_want (Begin worker name) s = job_step begin (λ m. []) (λ m. []) s s.mounted begin_no_want
alone_no_want (End worker name answers) s = job_step (end [] answers) (end_offers answers) (λ m. []) s s.mounted (λ m. end_no_want m [] answers)
alone_no_want (Flush worker name answers) s = job_step (flush [] answers) (λ m. []) (flush_offers answers) s s.mounted (λ m. flush_of_no_want m [] answers (flush_plan m))
alone_no_want (Show slot) s = refl
alone_no_want (Peek slot) s = refl
