-- A call leaves the form of a mount as it is.
use Rattle.std.proofs.Common.{◌≡◌, Bool, List, None, Option, Some, false, refl, true, ℕ}
use Rattle.std.specs.Prelude.{if◌then◌else◌}
use Rattle.xt_base.specs.Calls.{Outcome, alone_with, answered, brought, closed, gives, invalidated, locked, not_fresh, released, shut_if, unless, with_leg, with_trans}
use Rattle.xt_base.specs.Legs.{aborted, is_dirty, is_stale, own_count}
use Rattle.xt_base.specs.Maps.{at}
use Rattle.xt_base.specs.Settle.{Dropped, settled}
use Rattle.xt_base.specs.Space.{is_busy}
use Rattle.xt_base.specs.State.{Leg, State, Transaction}
use Rattle.xt_base.specs.declared.steps.Answer.{Answer}
use Rattle.xt_base.specs.declared.steps.Errno.{Errno}
use Rattle.xt_base.specs.declared.steps.Reason.{Reason}
use Rattle.xt_base.specs.declared.steps.Reason.TheVariants.{CorruptIncore, MetaIoError}
use Rattle.xt_base.specs.declared.steps.Reply.{Reply}
use Rattle.xt_base.specs.declared.steps.Reply.TheVariants.{Okay}
use Rattle.xt_base.specs.declared.steps.Request.{Request}

-- ---- states
state_if : (c : Bool) (s x y : State) → x.form ≡ s.form → y.form ≡ s.form → (if c then x else y).form ≡ s.form
state_if true s x y hx hy = hx
state_if false s x y hx hy = hy

brought_form : (b : ℕ) (o : Option (List ℕ)) (s : State) → (brought b o s).form ≡ s.form
brought_form b None s = refl
brought_form b (Some content) s = refl

locked_form : (t b : ℕ) (own : Option ℕ) (s : State) → (locked t b own s).form ≡ s.form
locked_form t b None s = state_if (is_busy s b) s s (brought b (at b s.frames.idle) s) refl (brought_form b (at b s.frames.idle) s)
locked_form t b (Some count) s = refl

shut_form : (dirty : Bool) (reason : Reason) (s : State) → (shut_if dirty reason s).form ≡ s.form
shut_form true reason s = refl
shut_form false reason s = refl

-- ---- outcomes
-- an outcome has the form of the mount
record Keeps (s : State) (o : Outcome) : Type 0 where
  form : o.state.form ≡ s.form

module _ (s : State) where
  either : (c : Bool) (x y : Outcome) → Keeps s x → Keeps s y → Keeps s (if c then x else y)
  either true x y hx hy = hx
  either false x y hx hy = hy

  or_else : (r : Option Errno) (o : Outcome) → Keeps s o → Keeps s (unless r s o)
  or_else None o h = h
  or_else (Some e) o h = record { form = refl }

  with_some : (o : Option Transaction) (f : Transaction → Outcome) → ((trans : Transaction) → Keeps s (f trans)) → Keeps s (with_trans o s f)
  with_some None f each = record { form = refl }
  with_some (Some trans) f each = each trans

  gave : (reply : Reply) (n : State) → n.form ≡ s.form → Keeps s (gives reply n)
  gave reply n same = record { form = same }

  answered_form : (t b : ℕ) (leg : Leg) (answer : Answer) → Keeps s (answered t b leg s answer)
  answered_form t b leg (Answer.Content content) = record { form = refl }
  answered_form t b leg Answer.None = gave _ _ (shut_form (is_dirty leg) MetaIoError s)
  answered_form t b leg Answer.Failed = gave _ _ (shut_form (is_dirty leg) MetaIoError s)

  locked_keeps : (t b : ℕ) → Keeps s (gives Okay (locked t b (own_count t (at b s.owners)) s))
  locked_keeps t b = gave Okay (locked t b (own_count t (at b s.owners)) s) (locked_form t b (own_count t (at b s.owners)) s)

  released_form : (dropped : Dropped) (t b : ℕ) (trans : Transaction) (o : Option ℕ) → Keeps s (released dropped t b trans s o)
  released_form dropped t b trans None = record { form = refl }
  released_form dropped t b trans (Some count) = search (either, gave)

-- of any call
keeps_form : (dropped : Dropped) (request : Request) (answer : Answer) (s : State) → Keeps s (alone_with dropped request answer s)
keeps_form dropped (Request.Alloc unit count perm) answer s = search (or_else, either, gave)
keeps_form dropped (Request.Get t b) answer s = with_some s (at t s.transactions) _ (λ trans. or_else s _ _ (locked_keeps s t b))
keeps_form dropped (Request.Read t b) answer s = with_some s (at t s.transactions) _ (λ trans. or_else s _ _ (either s _ _ _ (answered_form s t b trans.leg answer) (locked_keeps s t b)))
keeps_form dropped (Request.View t b) answer s = with_some s (at t s.transactions) _ (λ trans. search (either, gave))
keeps_form dropped (Request.Log first t b bytes) answer s = with_some s (at t s.transactions) _ (λ trans. search (or_else, gave))
keeps_form dropped (Request.Hold t b) answer s = with_some s (at t s.transactions) _ (λ trans. search (either, gave))
keeps_form dropped (Request.Unhold t b) answer s = with_some s (at t s.transactions) _ (λ trans. search (either, gave))
keeps_form dropped (Request.Relse t b) answer s = with_some s (at t s.transactions) _ (λ trans. released_form s dropped t b trans (own_count t (at b s.owners)))
keeps_form dropped (Request.Join t b) answer s = with_some s (at t s.transactions) _ (λ trans. search (or_else, gave))
keeps_form dropped (Request.Release b) answer s = search (either, gave)
keeps_form dropped (Request.Inval t b) answer s =
    with_some s (at t s.transactions) _ (λ trans. or_else s _ _ (gave s Okay _ (state_if (is_stale b trans.leg) s s (not_fresh b (with_leg t trans (invalidated b trans.leg) s)) refl refl)))
keeps_form dropped (Request.Commit t) answer s = with_some s (at t s.transactions) _ (λ trans. search (either, gave))
keeps_form dropped (Request.Roll t) answer s = with_some s (at t s.transactions) _ (λ trans. search (either, gave))
keeps_form dropped (Request.Cancel t) answer s =
    with_some s (at t s.transactions) _ (λ trans. gave s _ (settled dropped (shut_if (is_dirty trans.leg) CorruptIncore (closed t (aborted t trans.leg s)))) (shut_form (is_dirty trans.leg) CorruptIncore (closed t (aborted t trans.leg s))))
keeps_form dropped Request.Force answer s = search (either, gave)
keeps_form dropped (Request.ForceTo number) answer s = search (or_else, either, gave)
keeps_form dropped Request.Push answer s = search (either, gave)
keeps_form dropped Request.Shutdown answer s = record { form = refl }
keeps_form dropped Request.Freeze answer s = search (or_else, gave)
keeps_form dropped Request.Thaw answer s = search (either, gave)
keeps_form dropped Request.Stat answer s = record { form = refl }
keeps_form dropped Request.Unmount answer s = search (either, gave)

-- a call leaves the form
pub call_form : (dropped : Dropped) (request : Request) (answer : Answer) (s : State) → (alone_with dropped request answer s).state.form ≡ s.form
call_form dropped request answer s = let kept = keeps_form dropped request answer s in kept.form
