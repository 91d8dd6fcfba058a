-- Each call keeps a mount sound.
use Rattle.std.proofs.Common.{◌≡◌, ◌≤◌, None, Option, Some, refl, ℕ}
use Rattle.xt_base.proofs.RisingLemmas.{each_at}
use Rattle.xt_base.proofs.SoundBuffers.{sound_get_call, sound_hold, sound_join, sound_log_call, sound_read, sound_release, sound_relse, sound_unhold}
use Rattle.xt_base.proofs.SoundJobs.{sound_force_to}
use Rattle.xt_base.proofs.SoundLegs.{sound_cancel, sound_inval, sound_roll}
use Rattle.xt_base.proofs.SoundSteps.{sound_alloc, sound_commit, sound_either, sound_force, sound_freeze, sound_push, sound_shutdown, sound_thaw}
use Rattle.xt_base.specs.Calls.{Outcome, alone_with, cancel, commit, get, gives, hold, inval, is_in_use, join, log, read, relse, roll, unhold, unmount, view, is_own, seen, with_trans}
use Rattle.xt_base.specs.Maps.{at}
use Rattle.xt_base.specs.Settle.{Dropped}
use Rattle.xt_base.specs.Sound.{IsSound}
use Rattle.xt_base.specs.State.{State, Transaction}
use Rattle.xt_base.specs.declared.steps.Answer.{Answer}
use Rattle.xt_base.specs.declared.steps.Errno.TheVariants.{Busy, Invalid}
use Rattle.xt_base.specs.declared.steps.Reply.{Reply}
use Rattle.xt_base.specs.declared.steps.Reply.TheVariants.{Okay, Refused}
use Rattle.xt_base.specs.declared.steps.Request.{Request}

-- a view changes nothing
pub sound_view : (t b : ℕ) (s : State) (trans : Transaction) → IsSound s → IsSound (view t b s trans).state
sound_view t b s trans h = sound_either (is_own s t b) (gives (Reply.Data (seen s.form.size b trans.leg s.frames)) s) (gives (Refused Invalid) s) (λ own. h) (λ other. h)

-- an unmount changes no mount
pub sound_unmount : (s : State) → IsSound s → IsSound (unmount s).state
sound_unmount s h = sound_either (is_in_use s) (gives (Refused Busy) s) (gives Okay s) (λ kept. h) (λ left. h)

with_some : (o : Option Transaction) (s : State) (f : Transaction → Outcome) → IsSound s → ((trans : Transaction) → o ≡ Some trans → IsSound (f trans).state) → IsSound (with_trans o s f).state
with_some None s f h each = h
with_some (Some trans) s f h each = each trans refl

-- what needs an open transaction keeps a mount sound, where it does with each that is open
pub sound_with_trans : (t : ℕ) (s : State) (f : Transaction → Outcome) → IsSound s → ((trans : Transaction) → at t s.transactions ≡ Some trans → IsSound (f trans).state) → IsSound (with_trans (at t s.transactions) s f).state
sound_with_trans t s f h each = with_some (at t s.transactions) s f h each

-- an open transaction has a number that was given
given_number : (t : ℕ) (s : State) (trans : Transaction) → IsSound s → at t s.transactions ≡ Some trans → t ≤ s.last_trans
given_number t s trans h is = each_at (λ e. e.0 ≤ s.last_trans) t trans s.transactions is h.numbers

-- any call, whatever the device answers and whatever finds no memory as it settles
pub sound_call : (dropped : Dropped) (request : Request) (answer : Answer) (s : State) → IsSound s → IsSound (alone_with dropped request answer s).state
sound_call dropped (Request.Alloc unit count perm) answer s h = sound_alloc unit count perm s h
sound_call dropped (Request.Get t b) answer s h = sound_with_trans t s (λ trans. get t b s) h (λ trans is. sound_get_call t b s h (given_number t s trans h is))
sound_call dropped (Request.Read t b) answer s h = sound_with_trans t s (read t b answer s) h (λ trans is. sound_read t b answer s trans h (given_number t s trans h is))
sound_call dropped (Request.View t b) answer s h = sound_with_trans t s (view t b s) h (λ trans is. sound_view t b s trans h)
sound_call dropped (Request.Log first t b bytes) answer s h = sound_with_trans t s (log t b first bytes s) h (λ trans is. sound_log_call t b first bytes s trans h is)
sound_call dropped (Request.Hold t b) answer s h = sound_with_trans t s (hold t b s) h (λ trans is. sound_hold t b s trans h is)
sound_call dropped (Request.Unhold t b) answer s h = sound_with_trans t s (unhold t b s) h (λ trans is. sound_unhold t b s trans h is)
sound_call dropped (Request.Relse t b) answer s h = sound_with_trans t s (relse dropped t b s) h (λ trans is. sound_relse dropped t b s trans h is)
sound_call dropped (Request.Join t b) answer s h = sound_with_trans t s (join t b s) h (λ trans is. sound_join t b s trans h (given_number t s trans h is))
sound_call dropped (Request.Release b) answer s h = sound_release dropped b s h
sound_call dropped (Request.Inval t b) answer s h = sound_with_trans t s (inval t b s) h (λ trans is. sound_inval t b s trans h is)
sound_call dropped (Request.Commit t) answer s h = sound_with_trans t s (commit dropped t s) h (λ trans is. sound_commit dropped t s trans h is)
sound_call dropped (Request.Roll t) answer s h = sound_with_trans t s (roll dropped t s) h (λ trans is. sound_roll dropped t s trans h is)
sound_call dropped (Request.Cancel t) answer s h = sound_with_trans t s (cancel dropped t s) h (λ trans is. sound_cancel dropped t s trans h is)
sound_call dropped Request.Force answer s h = sound_force s h
sound_call dropped (Request.ForceTo number) answer s h = sound_force_to number s h
sound_call dropped Request.Push answer s h = sound_push s h
sound_call dropped Request.Shutdown answer s h = sound_shutdown s h
sound_call dropped Request.Freeze answer s h = sound_freeze s h
sound_call dropped Request.Thaw answer s h = sound_thaw s h
sound_call dropped Request.Stat answer s h = h
sound_call dropped Request.Unmount answer s h = sound_unmount s h
