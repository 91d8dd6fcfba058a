-- Every call keeps what holds of a mount with its devices.
use Rattle.std.proofs.Common.{◌≡◌, ◌∙◌, ◌≤◌, ◌+◌, ◌*◌, Bool, List, None, Option, Some, ap, arith, false, inl, inr, length, refl, subst, sym, true, ℕ}
use Rattle.std.proofs.lemmas.Bool.{and_from, cases_eq}
use Rattle.std.specs.Prelude.{if◌then◌else◌, is_none, is_some, nat_lt, not, ◌&&◌, ◌==◌}
use Rattle.xt_base.proofs.LegLemmas.{own_itself}
use Rattle.xt_base.proofs.MapLemmas.{at_put_other, at_put_same, some_none, some_same}
use Rattle.xt_base.proofs.RisingLemmas.{each_at}
use Rattle.xt_base.proofs.SoundSteps.{shut_for_some}
use Rattle.xt_base.specs.Calls.{Outcome, alloc, alloc_refusals, allocated, alone_with, asks_ckpt, asks_flush, cancel, commit, first_of, force_to_refusals, freeze_refusals, get, gives, hold, inval, is_absent, is_flight, is_in_use, is_own, join, log, marked_frozen, new_trans, read, read_asks, read_refusals, relse, roll, seen, unhold, view, waits_for, with_trans}
use Rattle.xt_base.specs.Legs.{owned_by}
use Rattle.xt_base.specs.Maps.{at, put}
use Rattle.xt_base.specs.Settle.{Dropped}
use Rattle.xt_base.specs.Sound.{IsSound}
use Rattle.xt_base.specs.Space.{used}
use Rattle.xt_base.specs.State.{Jobs, State, Transaction}
use Rattle.xt_base.specs.declared.steps.Answer.{Answer}
use Rattle.xt_base.specs.declared.steps.Errno.TheVariants.{Again, Busy, Invalid, Io}
use Rattle.xt_base.specs.declared.steps.Owner.TheVariants.{Trans}
use Rattle.xt_base.specs.declared.steps.Reason.TheVariants.{ForceUmount}
use Rattle.xt_base.specs.declared.steps.Reply.{Reply}
use Rattle.xt_base.specs.declared.steps.Reply.TheVariants.{Done, Okay, Refused, Wait}
use Rattle.xt_base.specs.declared.steps.Request.{Request}
use Rattle.xt_recovery.proofs.CrashTheorems.{stands_call}
use Rattle.xt_recovery.proofs.MatchCalls.{matches_beside}
use Rattle.xt_recovery.proofs.LiveLegs.{lives_cancel, lives_commit, lives_inval, lives_log, lives_roll}
use Rattle.xt_recovery.proofs.LiveLocks.{lives_either, lives_get, lives_hold, lives_join, lives_read, lives_release, lives_relse, lives_unhold, lives_unless}
use Rattle.xt_recovery.proofs.Consistent.{IsMarkedEdit}
use Rattle.xt_recovery.proofs.Invariant.{IsLiveUnlessShut, KeepsInvariant}
use Rattle.xt_recovery.proofs.Recoverable.{IsRecoverable}
use Rattle.xt_recovery.specs.DiskSteps.{IsContentOf, ReadsHome}
use Rattle.xt_recovery.specs.Disks.{Disks}
use Rattle.xt_base.specs.Sized.{IsSized}
use Rattle.xt_recovery.proofs.CallForms.{call_form}

-- other jobs
pub lives_jobs : (d : Disks) (s : State) (j : Jobs) (frozen : Bool) → IsLiveUnlessShut d s → IsLiveUnlessShut d (record s { jobs = j; frozen = frozen })
lives_jobs d s j frozen h = λ still. record { matches = matches_beside d s s.transactions s.last_trans j frozen s.frames.fresh (h still).matches; own = (h still).own }

-- a transaction opens
lives_allocated : (unit count : ℕ) (perm : Bool) (d : Disks) (s : State) → IsSound s → IsLiveUnlessShut d s → IsLiveUnlessShut d (allocated unit count perm s).state
lives_allocated unit count perm d s sound h still =
    let l = h still in
    let n : ℕ = s.last_trans + 1 in
    let fresh : Transaction = new_trans unit count perm in
    let ts : List (ℕ × Transaction) = put n fresh s.transactions in
    let o = l.own in
    record {
      matches = matches_beside d s ts n s.jobs s.frozen s.frames.fresh l.matches;
      own = record {
        idle_once = o.idle_once;
        idle_apart = o.idle_apart;
        held = o.held;
        owned = λ b t held_count trans is there.
            elim (cases_eq t n) [
              | inl same ↦
                  let given : t ≤ s.last_trans = each_at (λ e. (u : ℕ) → owned_by u e.1 ≡ true → u ≤ s.last_trans) b (Trans t held_count) s.owners is sound.given t (own_self t held_count) in
                  absurd (omega (arith, same, given))
              | inr other ↦ o.owned b t held_count trans is (sym (at_put_other n t fresh s.transactions other) ∙ there)
            ];
        edits = λ t trans there.
            elim (cases_eq t n) [
              | inl same ↦
                  let value : fresh ≡ trans = some_same fresh trans (sym (at_put_same n fresh s.transactions) ∙ sym (ap (λ (x : ℕ). at x ts) same) ∙ there) in
                  λ b c is. some_none c (IsMarkedEdit s.form.size (at b s.frames.committed) c) (sym is ∙ ap (λ (x : Transaction). at b x.leg.changes) (sym value))
              | inr other ↦ o.edits t trans (sym (at_put_other n t fresh s.transactions other) ∙ there)
            ];
      };
    }
  where
    own_self : (t count : ℕ) → owned_by t (Trans t count) ≡ true
    own_self t count = ap is_some (own_itself t count)

lives_alloc : (unit count : ℕ) (perm : Bool) (d : Disks) (s : State) → IsSound s → IsLiveUnlessShut d s → IsLiveUnlessShut d (alloc unit count perm s).state
lives_alloc unit count perm d s sound h =
    let full : Outcome = gives (Refused Again) (asks_flush (asks_ckpt s)) in
    lives_unless d (first_of (alloc_refusals unit count perm s)) s (if nat_lt s.log_bytes (used s + unit * count) then full else allocated unit count perm s) h
    (λ passes.
    lives_either d (nat_lt s.log_bytes (used s + unit * count)) full (allocated unit count perm s) (λ no_room. lives_jobs d s (asks_flush (asks_ckpt s)).jobs s.frozen h) (λ room. lives_allocated unit count perm d s sound h))

lives_some : (d : Disks) (o : Option Transaction) (s : State) (f : Transaction → Outcome) → IsLiveUnlessShut d s → ((trans : Transaction) → o ≡ Some trans → IsLiveUnlessShut d (f trans).state) → IsLiveUnlessShut d (with_trans o s f).state
lives_some d None s f h each = h
lives_some d (Some trans) s f h each = each trans refl

-- whether a read asks, where its transaction is open
asks_of : (t b : ℕ) (s : State) (trans : Transaction) → at t s.transactions ≡ Some trans → None ≡ first_of (read_refusals t b trans.leg s) → is_absent t b s ≡ true → read_asks t b s (at t s.transactions) ≡ true
asks_of t b s trans is passes absent =
    ap (read_asks t b s) is ∙ and_from (is_none (first_of (read_refusals t b trans.leg s))) (is_absent t b s) (sym (ap is_none passes)) absent

honest_of : (home : _) (s : State) (t b : ℕ) (answer : Answer) (trans : Transaction) → at t s.transactions ≡ Some trans → ReadsHome home s (Request.Read t b) answer → (content : List ℕ) → answer ≡ Answer.Content content
    → None ≡ first_of (read_refusals t b trans.leg s) → is_absent t b s ≡ true → IsContentOf home b s.form.size content
honest_of home s t b answer trans is honest content same passes absent = subst (ReadsHome home s (Request.Read t b)) same honest (asks_of t b s trans is passes absent)

-- a call on a live mount, told the truth where it asks its device
pub lives_call : (d : Disks) (dropped : Dropped) (request : Request) (answer : Answer) (s : State) → IsSound s → s.form ≡ d.form → IsSized s → IsRecoverable d s.items → ReadsHome d.home s request answer → IsLiveUnlessShut d s → IsLiveUnlessShut d (alone_with dropped request answer s).state
lives_call d dropped (Request.Alloc unit count perm) answer s sound form sized r honest h = lives_alloc unit count perm d s sound h
lives_call d dropped (Request.Get t b) answer s sound form sized r honest h = lives_some d (at t s.transactions) s (λ trans. get t b s) h (λ trans is. lives_get t b d s sound h)
lives_call d dropped (Request.Read t b) answer s sound form sized r honest h =
    lives_some d (at t s.transactions) s (read t b answer s) h (λ trans is. lives_read t b answer d s trans sound form r (honest_of d.home s t b answer trans is honest) h)
lives_call d dropped (Request.View t b) answer s sound form sized r honest h =
    lives_some d (at t s.transactions) s (view t b s) h (λ trans is. lives_either d (is_own s t b) (gives (Reply.Data (seen s.form.size b trans.leg s.frames)) s) (gives (Refused Invalid) s) (λ own. h) (λ other. h))
lives_call d dropped (Request.Log first t b bytes) answer s sound form sized r honest h = lives_some d (at t s.transactions) s (log t b first bytes s) h (λ trans is. lives_log t b first bytes d s trans is sound.form sized h)
lives_call d dropped (Request.Hold t b) answer s sound form sized r honest h = lives_some d (at t s.transactions) s (hold t b s) h (λ trans is. lives_hold t b d s trans is h)
lives_call d dropped (Request.Unhold t b) answer s sound form sized r honest h = lives_some d (at t s.transactions) s (unhold t b s) h (λ trans is. lives_unhold t b d s trans is h)
lives_call d dropped (Request.Relse t b) answer s sound form sized r honest h = lives_some d (at t s.transactions) s (relse dropped t b s) h (λ trans is. lives_relse dropped t b d s trans sound is h)
lives_call d dropped (Request.Join t b) answer s sound form sized r honest h = lives_some d (at t s.transactions) s (join t b s) h (λ trans is. lives_join t b d s trans h)
lives_call d dropped (Request.Release b) answer s sound form sized r honest h = lives_release dropped b d s sound h
lives_call d dropped (Request.Inval t b) answer s sound form sized r honest h = lives_some d (at t s.transactions) s (inval t b s) h (λ trans is. lives_inval t b d s trans is h)
lives_call d dropped (Request.Commit t) answer s sound form sized r honest h = lives_some d (at t s.transactions) s (commit dropped t s) h (λ trans is. lives_commit dropped t d s trans sound form is h)
lives_call d dropped (Request.Roll t) answer s sound form sized r honest h = lives_some d (at t s.transactions) s (roll dropped t s) h (λ trans is. lives_roll dropped t d s trans sound form is h)
lives_call d dropped (Request.Cancel t) answer s sound form sized r honest h = lives_some d (at t s.transactions) s (cancel dropped t s) h (λ trans is. lives_cancel dropped t d s trans sound form is h)
lives_call d dropped Request.Force answer s sound form sized r honest h =
    let rest : Outcome = if length s.items.cil == 0 then gives (waits_for s.items.flight) s else gives (Wait s.items.open_number) (asks_ckpt s) in
    lives_either d (is_some s.shut) (gives (Refused Io) s) rest (λ shut. h)
    (λ live. lives_either d (length s.items.cil == 0) (gives (waits_for s.items.flight) s) (gives (Wait s.items.open_number) (asks_ckpt s)) (λ none. h) (λ some. lives_jobs d s (asks_ckpt s).jobs s.frozen h))
lives_call d dropped (Request.ForceTo number) answer s sound form sized r honest h =
    let asked : Bool = (number == s.items.open_number) && not (length s.items.cil == 0) in
    let rest : Outcome = if is_flight number s.items.flight then gives (Wait number) s else gives Done s in
    lives_unless d (first_of (force_to_refusals number s)) s (if asked then gives (Wait number) (asks_ckpt s) else rest) h
    (λ passes. lives_either d asked (gives (Wait number) (asks_ckpt s)) rest (λ now. lives_jobs d s (asks_ckpt s).jobs s.frozen h)
    (λ other. lives_either d (is_flight number s.items.flight) (gives (Wait number) s) (gives Done s) (λ flies. h) (λ lands. h)))
lives_call d dropped Request.Push answer s sound form sized r honest h = lives_either d (is_some s.shut) (gives (Refused Io) s) (gives Okay (asks_flush s)) (λ shut. h) (λ live. lives_jobs d s (asks_flush s).jobs s.frozen h)
lives_call d dropped Request.Shutdown answer s sound form sized r honest h = λ still. absurd (shut_for_some ForceUmount s.shut still)
lives_call d dropped Request.Freeze answer s sound form sized r honest h = lives_unless d (first_of (freeze_refusals s)) s (gives Okay (marked_frozen true s)) h (λ passes. lives_jobs d s s.jobs true h)
lives_call d dropped Request.Thaw answer s sound form sized r honest h = lives_either d s.frozen (gives Okay (marked_frozen false s)) (gives (Refused Invalid) s) (λ is. lives_jobs d s s.jobs false h) (λ other. h)
lives_call d dropped Request.Stat answer s sound form sized r honest h = h
lives_call d dropped Request.Unmount answer s sound form sized r honest h = lives_either d (is_in_use s) (gives (Refused Busy) s) (gives Okay s) (λ kept. h) (λ left. h)

-- so a call keeps what holds of a mount with its devices
pub keeps_call : (d : Disks) (dropped : Dropped) (request : Request) (answer : Answer) (s : State) → IsSound s → IsSized s → ReadsHome d.home s request answer → KeepsInvariant d s → KeepsInvariant d (alone_with dropped request answer s).state
keeps_call d dropped request answer s sound sized honest c = record {
  stands = stands_call d dropped request answer s c.stands;
  form = call_form dropped request answer s ∙ c.form;
  live = lives_call d dropped request answer s sound c.form sized c.stands honest c.live;
}
