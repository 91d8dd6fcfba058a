-- A call changes of the item lists the commit list alone.
use Rattle.std.proofs.Common.{◌≡◌, Bool, List, None, Option, Some, false, refl, true, ℕ}
use Rattle.std.specs.Prelude.{if◌then◌else◌}
use Rattle.xt_base.specs.Calls.{Outcome, alone_with, answered, brought, gives, locked, released, shut_if, unless, with_trans}
use Rattle.xt_base.specs.Legs.{is_dirty, own_count, with_marks}
use Rattle.xt_base.specs.Maps.{at}
use Rattle.xt_base.specs.Settle.{Dropped}
use Rattle.xt_base.specs.State.{Leg, State, Transaction}
use Rattle.xt_base.specs.declared.steps.Answer.{Answer}
use Rattle.xt_base.specs.declared.steps.Errno.{Errno}
use Rattle.xt_base.specs.declared.steps.Reason.{Reason}
use Rattle.xt_base.specs.declared.steps.Reply.{Reply}
use Rattle.xt_base.specs.declared.steps.Request.{Request}

module _ (s : State) where
  -- a state that has the item lists of s, with any commit list
  abbrev pub HasLists : State → Type 0
  HasLists t = (cil : List (ℕ × List ℕ)) × (t.items ≡ record s.items { cil = cil })

  -- ---- the parts of a call
  lists_of : (cil : List (ℕ × List ℕ)) (r : Reply) (t : State) → t.items ≡ record s.items { cil = cil } → HasLists (gives r t).state
  lists_of cil r t is = (cil, is)

  lists_same : (r : Reply) (t : State) → t.items ≡ s.items → HasLists (gives r t).state
  lists_same r t same = (s.items.cil, same)

  lists_either : (b : Bool) (x y : Outcome) → HasLists x.state → HasLists y.state → HasLists (if b then x else y).state
  lists_either true x y hx hy = hx
  lists_either false x y hx hy = hy

  lists_unless : (r : Option Errno) (o : Outcome) → HasLists o.state → HasLists (unless r s o).state
  lists_unless None o h = h
  lists_unless (Some e) o h = (s.items.cil, refl)

  lists_with : (o : Option Transaction) (f : Transaction → Outcome) → ((trans : Transaction) → HasLists (f trans).state) → HasLists (with_trans o s f).state
  lists_with None f h = (s.items.cil, refl)
  lists_with (Some trans) f h = h trans

  same_either : (b : Bool) (x y : State) → x.items ≡ s.items → y.items ≡ s.items → (if b then x else y).items ≡ s.items
  same_either true x y hx hy = hx
  same_either false x y hx hy = hy

  same_brought : (b : ℕ) (o : Option (List ℕ)) → (brought b o s).items ≡ s.items
  same_brought b None = refl
  same_brought b (Some content) = refl

  same_locked : (t b : ℕ) (o : Option ℕ) → (locked t b o s).items ≡ s.items
  same_locked t b (Some count) = refl
  same_locked t b None = same_either _ s (brought b (at b s.frames.idle) s) refl (same_brought b (at b s.frames.idle))

  same_shut : (dirty : Bool) (reason : Reason) (t : State) → t.items ≡ s.items → (shut_if dirty reason t).items ≡ s.items
  same_shut true reason t h = h
  same_shut false reason t h = h

  -- ---- each request
  lists_answered : (t b : ℕ) (leg : Leg) (answer : Answer) → HasLists (answered t b leg s answer).state
  lists_answered t b leg (Answer.Content content) = (s.items.cil, refl)
  lists_answered t b leg Answer.None = (s.items.cil, same_shut (is_dirty leg) _ s refl)
  lists_answered t b leg Answer.Failed = (s.items.cil, same_shut (is_dirty leg) _ s refl)

  lists_released : (dropped : Dropped) (t b : ℕ) (trans : Transaction) (o : Option ℕ) → HasLists (released dropped t b trans s o).state
  lists_released dropped t b trans None = (s.items.cil, refl)
  lists_released dropped t b trans (Some count) = search (lists_either, lists_same)

  -- so of each
  pub call_lists : (dropped : Dropped) (request : Request) (answer : Answer) → HasLists (alone_with dropped request answer s).state
  call_lists dropped (Request.Alloc unit count perm) answer = search (lists_unless, lists_either, lists_same)
  call_lists dropped (Request.Get t b) answer = lists_with (at t s.transactions) _ (λ trans. search (lists_unless, lists_same, same_locked))
  call_lists dropped (Request.Read t b) answer = lists_with (at t s.transactions) _ (λ trans. search (lists_unless, lists_either, lists_answered, lists_same, same_locked))
  call_lists dropped (Request.View t b) answer = lists_with (at t s.transactions) _ (λ trans. search (lists_either, lists_same))
  call_lists dropped (Request.Log first t b bytes) answer = lists_with (at t s.transactions) _ (λ trans. search (lists_unless, lists_same))
  call_lists dropped (Request.Hold t b) answer = lists_with (at t s.transactions) _ (λ trans. search (lists_either, lists_same))
  call_lists dropped (Request.Unhold t b) answer = lists_with (at t s.transactions) _ (λ trans. search (lists_either, lists_same))
  call_lists dropped (Request.Relse t b) answer = lists_with (at t s.transactions) _ (λ trans. lists_released dropped t b trans (own_count t (at b s.owners)))
  call_lists dropped (Request.Join t b) answer = lists_with (at t s.transactions) _ (λ trans. search (lists_unless, lists_same))
  call_lists dropped (Request.Release b) answer = search (lists_either, lists_same)
  call_lists dropped (Request.Inval t b) answer = lists_with (at t s.transactions) _ (λ trans. search (lists_unless, lists_same, same_either))
  call_lists dropped (Request.Commit t) answer = lists_with (at t s.transactions) _ (λ trans. search (lists_either, lists_same, lists_of (with_marks trans.leg.changes s.items.cil)))
  call_lists dropped (Request.Roll t) answer = lists_with (at t s.transactions) _ (λ trans. search (lists_either, lists_same, lists_of (with_marks trans.leg.changes s.items.cil)))
  call_lists dropped (Request.Cancel t) answer = lists_with (at t s.transactions) _ (λ trans. (s.items.cil, same_shut (is_dirty trans.leg) _ _ refl))
  call_lists dropped Request.Force answer = search (lists_either, lists_same)
  call_lists dropped (Request.ForceTo number) answer = search (lists_unless, lists_either, lists_same)
  call_lists dropped Request.Push answer = search (lists_either, lists_same)
  call_lists dropped Request.Shutdown answer = (s.items.cil, refl)
  call_lists dropped Request.Freeze answer = search (lists_unless, lists_same)
  call_lists dropped Request.Thaw answer = search (lists_either, lists_same)
  call_lists dropped Request.Stat answer = (s.items.cil, refl)
  call_lists dropped Request.Unmount answer = search (lists_either, lists_same)
