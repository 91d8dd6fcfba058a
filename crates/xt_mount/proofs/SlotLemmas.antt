-- A call to one life of a slot, which an unmount empties.
use Rattle.std.proofs.Common.{◌≡◌, ◌∙◌, ℕ, Bool, IfSome, None, Option, Some, [], ap, false, if◌then◌else◌, inl, inr, refl, subst, sym, true}
use Rattle.std.specs.Prelude.{◌&&◌, ◌==◌}
use Rattle.xt_base.proofs.SameLemmas.{same_call}
use Rattle.xt_base.specs.Alone.{call, called, is_okay, may_want_memory, turn}
use Rattle.xt_base.specs.Calls.{Outcome, alone_with, is_unmount}
use Rattle.xt_base.specs.Own.{IsOwnIn}
use Rattle.xt_base.specs.State.{Lone, State}
use Rattle.xt_base.specs.declared.steps.Answer.{Answer}
use Rattle.xt_base.specs.declared.steps.Errno.TheVariants.{Stale}
use Rattle.xt_base.specs.declared.steps.Reason.{Reason}
use Rattle.xt_base.specs.declared.steps.Reply.{Reply}
use Rattle.xt_base.specs.declared.steps.Reply.TheVariants.{Refused}
use Rattle.xt_base.specs.declared.steps.Request.{Request}
use Rattle.xt_base.specs.declared.steps.Step.TheVariants.{Call}
use Rattle.xt_frames.specs.Shares.{no_contents}
use Rattle.xt_frames.specs.declared.share.FrameShare.{FrameShare}
use Rattle.xt_mount.specs.Slots.{IsAnsweredUnlessMemory, IsServedUnlessMemory, SlotState, answered_in, share_left, spare_share}

and_none : (x : Bool) → (x && false) ≡ false
and_none true = refl
and_none false = refl

-- the mount after a call, by its reply
abbrev after_call : Request → Reply × Option State → Option State
after_call request p = if is_unmount request && is_okay p.0 then None else p.1

module _ (last life : ℕ) (request : Request) (answer : Answer) (seen : ℕ) (reason : Option Reason) where
  abbrev lone : Option State → Lone
  lone o = record { last_life = last; seen_life = seen; seen_reason = reason; mounted = o }

  -- a refusal that is no answer of the mount empties nothing
  still : (o : Option State) → (if is_unmount request && false then None else o) ≡ o
  still o = ap (λ b. if b then None else o) (and_none (is_unmount request))

  reply_by : (e : Bool) (m : State) (x : Outcome) → (let p : Reply × Option State = if e then (x.reply, Some x.state) else (Refused Stale, Some m) in p.0) ≡ (if e then called request (lone (Some m)) x else turn (Refused Stale) (lone (Some m))).reply
  reply_by true m x = refl
  reply_by false m x = refl

  state_by : (e : Bool) (m : State) (x : Outcome)
      → lone (after_call request (if e then (x.reply, Some x.state) else (Refused Stale, Some m))) ≡ (if e then called request (lone (Some m)) x else turn (Refused Stale) (lone (Some m))).slot
  state_by true m x = refl
  state_by false m x = ap lone (still (Some m))

  reply_is : (o : Option State) → (answered_in life request answer o).0 ≡ (call [] life request answer (lone o) o).reply
  reply_is None = refl
  reply_is (Some m) = reply_by (m.life == life) m (alone_with [] request answer m)

  state_is : (o : Option State) → lone (after_call request (answered_in life request answer o)) ≡ (call [] life request answer (lone o) o).slot
  state_is None = ap lone (still None)
  state_is (Some m) = state_by (m.life == life) m (alone_with [] request answer m)

module _ (slot last life : ℕ) (request : Request) (answer : Answer) (r : Reply) (b : Bool) (mid new o : Option State) (is : b ≡ (is_unmount request && is_okay r)) (left : new ≡ (if b then None else mid)) where
  after_is : new ≡ after_call request (r, mid)
  after_is = left ∙ ap (λ k. if k then None else mid) is

  abbrev slot_with : Option State → SlotState
  slot_with m = record { slot = slot; last_life = last; mounted = m }

  -- a call was served, or it was refused memory
  pub called_slot : IsAnsweredUnlessMemory life request answer r mid o → IsServedUnlessMemory (Call slot life request answer) r (slot_with new) (slot_with o)
  called_slot (inl gave) = inl (record {
    slot = refl;
    reply = λ seen reason. ap (λ (p : Reply × Option State). p.0) gave ∙ reply_is last life request answer seen reason o;
    state = λ seen reason. ap (lone last life request answer seen reason) (after_is ∙ ap (after_call request) gave) ∙ state_is last life request answer seen reason o;
  })
  called_slot (inr refused) = inr (record {
    reply = refused.0;
    kept = ap slot_with (after_is ∙ ap (λ q. after_call request (q, mid)) refused.0 ∙ ap (λ k. if k then None else mid) (and_none (is_unmount request)) ∙ refused.1);
    want = λ seen reason. ap (may_want_memory request) (sym (reply_is last life request answer seen reason o)) ∙ refused.2;
  })

-- the mount that a call leaves is of the same slot and life
own_after : (slot last : ℕ) (e : Bool) (m : State) (x : Outcome) → (x.state.slot ≡ m.slot) → (x.state.life ≡ m.life) → IsOwnIn slot last (Some m)
    → IsOwnIn slot last (let p : Reply × Option State = if e then (x.reply, Some x.state) else (Refused Stale, Some m) in p.1)
own_after slot last true m x same_slot same_life own = (same_slot ∙ own.0, same_life ∙ own.1)
own_after slot last false m x same_slot same_life own = own

own_answered : (slot last life : ℕ) (request : Request) (answer : Answer) (o : Option State) → IsOwnIn slot last o → IsOwnIn slot last (answered_in life request answer o).1
own_answered slot last life request answer None own = tt
own_answered slot last life request answer (Some m) own =
    let same = same_call m [] request answer in
    own_after slot last (m.life == life) m (alone_with [] request answer m) same.slot same.life own

own_if : (slot last : ℕ) (b : Bool) (mid : Option State) → IsOwnIn slot last mid → IsOwnIn slot last (if b then None else mid)
own_if slot last true mid own = tt
own_if slot last false mid own = own

pub own_called : (slot last life : ℕ) (request : Request) (answer : Answer) (r : Reply) (b : Bool) (mid new o : Option State) → new ≡ (if b then None else mid) → IsAnsweredUnlessMemory life request answer r mid o
    → IsOwnIn slot last o → IsOwnIn slot last new
own_called slot last life request answer r b mid new o left (inl gave) own =
    subst (IsOwnIn slot last) (sym left) (own_if slot last b mid (subst (IsOwnIn slot last) (sym (ap (λ (p : Reply × Option State). p.1) gave)) (own_answered slot last life request answer o own)))
own_called slot last life request answer r b mid new o left (inr refused) own =
    subst (IsOwnIn slot last) (sym left) (own_if slot last b mid (subst (IsOwnIn slot last) (sym refused.1) own))

-- ---- the share of the slot
share_if : (slot : ℕ) (b : Bool) (mid : Option State) (share : Option FrameShare) → IfSome mid (λ m. m.slot ≡ slot) → share ≡ spare_share slot mid
    → (if b then share_left mid share else share) ≡ spare_share slot (if b then None else mid)
share_if slot true None share own is = is
share_if slot true (Some m) share own is = ap (λ n. Some (no_contents n)) own
share_if slot false mid share own is = is

slot_of_own : (slot last : ℕ) (o : Option State) → IsOwnIn slot last o → IfSome o (λ m. m.slot ≡ slot)
slot_of_own slot last None own = tt
slot_of_own slot last (Some m) own = own.0

spare_answered : (slot life : ℕ) (request : Request) (answer : Answer) (o : Option State) → spare_share slot (answered_in life request answer o).1 ≡ spare_share slot o
spare_answered slot life request answer None = refl
spare_answered slot life request answer (Some m) = spare_by (m.life == life)
  where
    spare_by : (e : Bool) → spare_share slot (let p : Reply × Option State = if e then ((alone_with [] request answer m).reply, Some (alone_with [] request answer m).state) else (Refused Stale, Some m) in p.1) ≡ None
    spare_by true = refl
    spare_by false = refl

spare_mid : (slot life : ℕ) (request : Request) (answer : Answer) (r : Reply) (mid o : Option State) → IsAnsweredUnlessMemory life request answer r mid o → spare_share slot o ≡ spare_share slot mid
spare_mid slot life request answer r mid o (inl gave) = sym (ap (λ (p : Reply × Option State). spare_share slot p.1) gave ∙ spare_answered slot life request answer o)
spare_mid slot life request answer r mid o (inr refused) = sym (ap (spare_share slot) refused.1)

own_mid : (slot last life : ℕ) (request : Request) (answer : Answer) (r : Reply) (mid o : Option State) → IsAnsweredUnlessMemory life request answer r mid o → IsOwnIn slot last o → IsOwnIn slot last mid
own_mid slot last life request answer r mid o (inl gave) own = subst (IsOwnIn slot last) (sym (ap (λ (p : Reply × Option State). p.1) gave)) (own_answered slot last life request answer o own)
own_mid slot last life request answer r mid o (inr refused) own = subst (IsOwnIn slot last) (sym refused.1) own

pub share_called : (slot last life : ℕ) (request : Request) (answer : Answer) (r : Reply) (b : Bool) (mid new o : Option State) (before after : Option FrameShare) → new ≡ (if b then None else mid)
    → after ≡ (if b then share_left mid before else before) → IsAnsweredUnlessMemory life request answer r mid o → IsOwnIn slot last o → before ≡ spare_share slot o → after ≡ spare_share slot new
share_called slot last life request answer r b mid new o before after left kept gave own is =
    kept ∙ share_if slot b mid before (slot_of_own slot last mid (own_mid slot last life request answer r mid o gave own)) (is ∙ spare_mid slot life request answer r mid o gave) ∙ ap (spare_share slot) (sym left)
