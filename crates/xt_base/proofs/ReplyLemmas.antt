-- The reply of a call is one that its request may get, and only a read is answered by the home device.
use Rattle.std.proofs.Common.{[], Bool, List, None, Option, Some, ap, false, refl, sym, true, ℕ, ◌∙◌, ◌≡◌}
use Rattle.std.proofs.lemmas.Bool.{false≢true}
use Rattle.std.specs.Prelude.{if◌then◌else◌, ◌&&◌, ◌==◌, ◌||◌}
use Rattle.xt_base.specs.Alone.{alone, call, called, carries_content, is_okay, is_refusal, turn}
use Rattle.xt_base.specs.Calls.{Outcome, alloc, alone_with, answered, asks, cancel, commit, committed_of, force, force_to, freeze, get, gives, hold, inval, io_of, join, log, okay_of, push, read, release, released, roll, thaw, unhold, unless, unmount, view, waits_for, with_trans}
use Rattle.xt_base.specs.Legs.{own_count}
use Rattle.xt_base.specs.Maps.{at}
use Rattle.xt_base.specs.Order.{is_there, mount_is, of_life}
use Rattle.xt_base.specs.Replies.{is_commit, is_cancel, is_force, is_read, is_release, is_trans, may_get}
use Rattle.xt_base.specs.Settle.{Dropped}
use Rattle.xt_base.specs.State.{Flight, Leg, Lone, State, Transaction}
use Rattle.xt_base.specs.declared.steps.Answer.{Answer}
use Rattle.xt_base.specs.declared.steps.Errno.{Errno}
use Rattle.xt_base.specs.declared.steps.Reply.{Reply}
use Rattle.xt_base.specs.declared.steps.Request.{Request}
use Rattle.xt_base.specs.declared.steps.Step.TheVariants.{Call}

-- ---- the parts of a call
-- a call whose reply is a refusal, or passes a test
record Gets (own : Reply → Bool) (o : Outcome) : Type 0 where
  told : (is_refusal o.reply || own o.reply) ≡ true

module _ (own : Reply → Bool) where
  plain : (r : Reply) (s : State) → (is_refusal r || own r) ≡ true → Gets own (gives r s)
  plain r s h = record { told = h }

  gets_either : (b : Bool) (x y : Outcome) → Gets own x → Gets own y → Gets own (if b then x else y)
  gets_either true x y hx hy = hx
  gets_either false x y hx hy = hy

  gets_unless : (r : Option Errno) (s : State) (o : Outcome) → Gets own o → Gets own (unless r s o)
  gets_unless None s o h = h
  gets_unless (Some e) s o h = plain (Reply.Refused e) s refl

  gets_with : (o : Option Transaction) (s : State) (f : Transaction → Outcome) → ((trans : Transaction) → Gets own (f trans)) → Gets own (with_trans o s f)
  gets_with None s f h = plain (Reply.Refused Errno.Invalid) s refl
  gets_with (Some trans) s f h = h trans

io_gets : (o : Option (List ℕ)) → (is_refusal (io_of o) || is_commit (io_of o)) ≡ true
io_gets None = refl
io_gets (Some held) = refl

committed_gets : (number : ℕ) (o : Option (List ℕ)) → (is_refusal (committed_of number o) || is_commit (committed_of number o)) ≡ true
committed_gets number None = refl
committed_gets number (Some held) = refl

okay_gets : (o : Option (List ℕ)) → (is_refusal (okay_of o) || is_cancel (okay_of o)) ≡ true
okay_gets None = refl
okay_gets (Some held) = refl

waits_gets : (o : Option Flight) → (is_refusal (waits_for o) || is_force (waits_for o)) ≡ true
waits_gets None = refl
waits_gets (Some f) = refl

-- ---- each request
module _ (s : State) where
  alloc_gets : (unit count : ℕ) (perm : Bool) → Gets is_trans (alloc unit count perm s)
  alloc_gets unit count perm = search (gets_unless, gets_either, plain)

  get_gets : (t b : ℕ) → Gets is_okay (get t b s)
  get_gets t b = search (gets_unless, plain)

  answered_gets : (t b : ℕ) (leg : Leg) (answer : Answer) → Gets is_okay (answered t b leg s answer)
  answered_gets t b leg (Answer.Content content) = search (plain)
  answered_gets t b leg Answer.None = search (plain)
  answered_gets t b leg Answer.Failed = search (plain)

  read_gets : (t b : ℕ) (answer : Answer) (trans : Transaction) → Gets is_okay (read t b answer s trans)
  read_gets t b answer trans = search (gets_unless, gets_either, plain, answered_gets)

  view_gets : (t b : ℕ) (trans : Transaction) → Gets carries_content (view t b s trans)
  view_gets t b trans = search (gets_either, plain)

  log_gets : (t b first : ℕ) (bytes : List ℕ) (trans : Transaction) → Gets is_okay (log t b first bytes s trans)
  log_gets t b first bytes trans = search (gets_unless, plain)

  hold_gets : (t b : ℕ) (trans : Transaction) → Gets is_okay (hold t b s trans)
  hold_gets t b trans = search (gets_either, plain)

  unhold_gets : (t b : ℕ) (trans : Transaction) → Gets is_okay (unhold t b s trans)
  unhold_gets t b trans = search (gets_either, plain)

  released_gets : (dropped : Dropped) (t b : ℕ) (trans : Transaction) (o : Option ℕ) → Gets is_release (released dropped t b trans s o)
  released_gets dropped t b trans None = search (plain)
  released_gets dropped t b trans (Some count) = search (gets_either, plain)

  join_gets : (t b : ℕ) (trans : Transaction) → Gets is_okay (join t b s trans)
  join_gets t b trans = search (gets_unless, plain)

  release_gets : (dropped : Dropped) (b : ℕ) → Gets is_okay (release dropped b s)
  release_gets dropped b = search (gets_either, plain)

  inval_gets : (t b : ℕ) (trans : Transaction) → Gets is_okay (inval t b s trans)
  inval_gets t b trans = search (gets_unless, plain)

  commit_gets : (dropped : Dropped) (t : ℕ) (trans : Transaction) → Gets is_commit (commit dropped t s trans)
  commit_gets dropped t trans = search (gets_either, plain, io_gets, committed_gets)

  roll_gets : (dropped : Dropped) (t : ℕ) (trans : Transaction) → Gets is_commit (roll dropped t s trans)
  roll_gets dropped t trans = search (gets_either, plain, io_gets, committed_gets)

  cancel_gets : (dropped : Dropped) (t : ℕ) (trans : Transaction) → Gets is_cancel (cancel dropped t s trans)
  cancel_gets dropped t trans = search (plain, okay_gets)

  force_gets : Gets is_force (force s)
  force_gets = search (gets_either, plain, waits_gets)

  force_to_gets : (number : ℕ) → Gets is_force (force_to number s)
  force_to_gets number = search (gets_unless, gets_either, plain)

  push_gets : Gets is_okay (push s)
  push_gets = search (gets_either, plain)

  freeze_gets : Gets is_okay (freeze s)
  freeze_gets = search (gets_unless, plain)

  thaw_gets : Gets is_okay (thaw s)
  thaw_gets = search (gets_either, plain)

  unmount_gets : Gets is_okay (unmount s)
  unmount_gets = search (gets_either, plain)

  -- the reply of a call of a mount
  pub call_gets : (dropped : Dropped) (request : Request) (answer : Answer) → may_get request (alone_with dropped request answer s).reply ≡ true
  call_gets dropped (Request.Alloc unit count perm) answer = (alloc_gets unit count perm).told
  call_gets dropped (Request.Get t b) answer = (gets_with is_okay (at t s.transactions) s _ (λ trans. get_gets t b)).told
  call_gets dropped (Request.Read t b) answer = (gets_with is_okay (at t s.transactions) s _ (read_gets t b answer)).told
  call_gets dropped (Request.View t b) answer = (gets_with carries_content (at t s.transactions) s _ (view_gets t b)).told
  call_gets dropped (Request.Log first t b bytes) answer = (gets_with is_okay (at t s.transactions) s _ (log_gets t b first bytes)).told
  call_gets dropped (Request.Hold t b) answer = (gets_with is_okay (at t s.transactions) s _ (hold_gets t b)).told
  call_gets dropped (Request.Unhold t b) answer = (gets_with is_okay (at t s.transactions) s _ (unhold_gets t b)).told
  call_gets dropped (Request.Relse t b) answer = (gets_with is_release (at t s.transactions) s _ (λ trans. released_gets dropped t b trans (own_count t (at b s.owners)))).told
  call_gets dropped (Request.Join t b) answer = (gets_with is_okay (at t s.transactions) s _ (join_gets t b)).told
  call_gets dropped (Request.Release b) answer = (release_gets dropped b).told
  call_gets dropped (Request.Inval t b) answer = (gets_with is_okay (at t s.transactions) s _ (inval_gets t b)).told
  call_gets dropped (Request.Commit t) answer = (gets_with is_commit (at t s.transactions) s _ (commit_gets dropped t)).told
  call_gets dropped (Request.Roll t) answer = (gets_with is_commit (at t s.transactions) s _ (roll_gets dropped t)).told
  call_gets dropped (Request.Cancel t) answer = (gets_with is_cancel (at t s.transactions) s _ (cancel_gets dropped t)).told
  call_gets dropped Request.Force answer = force_gets.told
  call_gets dropped (Request.ForceTo number) answer = (force_to_gets number).told
  call_gets dropped Request.Push answer = push_gets.told
  call_gets dropped Request.Shutdown answer = refl
  call_gets dropped Request.Freeze answer = freeze_gets.told
  call_gets dropped Request.Thaw answer = thaw_gets.told
  call_gets dropped Request.Stat answer = refl
  call_gets dropped Request.Unmount answer = unmount_gets.told

-- the reply of a call as a step of a slot
pub step_gets : (slot life : ℕ) (request : Request) (answer : Answer) (s : Lone) → may_get request (alone (Call slot life request answer) s).reply ≡ true
step_gets slot life request answer s = by s.mounted
  where
    lives : (m : State) (b : Bool) → may_get request (if b then called request s (alone_with [] request answer m) else turn (Reply.Refused Errno.Stale) s).reply ≡ true
    lives m true = call_gets m [] request answer
    lives m false = refl

    by : (o : Option State) → may_get request (call [] life request answer s o).reply ≡ true
    by None = refl
    by (Some m) = lives m (m.life == life)

-- ---- what is asked of the home device
asks_nothing : (request : Request) (s : State) → is_read request ≡ false → asks request s ≡ false
asks_nothing (Request.Read t b) s other = absurd (false≢true (sym other))
asks_nothing (Request.Alloc unit count perm) s other = refl
asks_nothing (Request.Get t b) s other = refl
asks_nothing (Request.View t b) s other = refl
asks_nothing (Request.Log first t b bytes) s other = refl
asks_nothing (Request.Hold t b) s other = refl
asks_nothing (Request.Unhold t b) s other = refl
asks_nothing (Request.Relse t b) s other = refl
asks_nothing (Request.Join t b) s other = refl
asks_nothing (Request.Release b) s other = refl
asks_nothing (Request.Inval t b) s other = refl
asks_nothing (Request.Commit t) s other = refl
asks_nothing (Request.Roll t) s other = refl
asks_nothing (Request.Cancel t) s other = refl
asks_nothing Request.Force s other = refl
asks_nothing (Request.ForceTo number) s other = refl
asks_nothing Request.Push s other = refl
asks_nothing Request.Shutdown s other = refl
asks_nothing Request.Freeze s other = refl
asks_nothing Request.Thaw s other = refl
asks_nothing Request.Stat s other = refl
asks_nothing Request.Unmount s other = refl

asks_never : (life : ℕ) (request : Request) (o : Option State) → is_read request ≡ false → mount_is (of_life life request) o ≡ false
asks_never life request None other = refl
asks_never life request (Some m) other = by (m.life == life) (asks request m) (asks_nothing request m other)
  where
    by : (a b : Bool) → b ≡ false → (a && b) ≡ false
    by true b off = off
    by false b off = refl

not_answered : (answer : Answer) → is_there false answer ≡ true → answer ≡ Answer.None
not_answered Answer.None h = refl
not_answered (Answer.Content content) h = absurd (false≢true h)
not_answered Answer.Failed h = absurd (false≢true h)

-- an answer that is there where the mount asks for one is none, unless the request is a read
pub unasked : (life : ℕ) (request : Request) (o : Option State) (answer : Answer) → is_read request ≡ false → is_there (mount_is (of_life life request) o) answer ≡ true → answer ≡ Answer.None
unasked life request o answer other there = not_answered answer (sym (ap (λ b. is_there b answer) (asks_never life request o other)) ∙ there)
