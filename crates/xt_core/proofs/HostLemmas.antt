-- A host after any history: a step may come exactly where it fits the steps that happened.
use Rattle.std.proofs.Common.{◌≡◌, ◌∙◌, ◌<◌, ◌++◌, ◌∷◌, Bool, List, None, Option, [], ap, arith, false, inl, inr, length, refl, subst, sym, true, ℕ}
use Rattle.std.proofs.lemmas.Bool.{cases_Bool, eq-eqb, ne_eqb}
use Rattle.std.proofs.lemmas.List.{append-nil, get_or-set_other, get_or-set_same}
use Rattle.std.proofs.lemmas.List.Elements.{filter-append}
use Rattle.std.proofs.lemmas.List.Folds.{list_any-append}
use Rattle.std.specs.Prelude.{cond, is_none, not, option_to_list, ◌&&◌, ◌==◌, ◌||◌}
use Rattle.xt_base.specs.Alone.{Said, alone, reason_of, said_of}
use Rattle.xt_base.specs.Isolation.{Told, is_no_memory, is_refused, told_refused, told_taken, untold}
use Rattle.xt_base.specs.Order.{Event, fits, is_first, suits, told}
use Rattle.xt_base.specs.State.{empty}
use Rattle.xt_base.specs.Steps.{slot_of}
use Rattle.xt_base.specs.declared.steps.Reason.{Reason}
use Rattle.xt_base.specs.declared.steps.Reply.{Reply}
use Rattle.xt_base.specs.declared.steps.Step.{Step}
use Rattle.xt_base.specs.declared.steps.Step.TheVariants.{Begin, Call, End, Flush, Mount, Peek, Post, Show, Take}
use Rattle.xt_core.proofs.CellLemmas.{by_false, by_true}
use Rattle.xt_core.proofs.FitsLemmas.{fits_is}
use Rattle.xt_core.proofs.RunLemmas.{IsAfter as IsRun, after_none, after_refused, after_taken, by_slot, none_refused, run_alike, run_hands}
use Rattle.xt_core.specs.Host.{Host, IsAfter, IsKept, IsNew, IsSharedAlike, IsStepped, IsTaken, happened, hand_at, lone_of, may_come, was_refused}
use Rattle.xt_core.specs.Turns.{held_in, queue_after}

-- ---- one more event
-- that happened
happened_more : (h : List Event) (x : Step) (r : Reply) → is_no_memory r ≡ false → happened (h ++ record { step = x; reply = r } ∷ []) ≡ happened h ++ record { step = x; reply = r } ∷ []
happened_more h x r went =
    filter-append (λ e. not (is_no_memory e.reply)) h (record { step = x; reply = r } ∷ [])
    ∙ ap (λ b. happened h ++ cond (not b) (record { step = x; reply = r } ∷ []) []) went

-- that was refused memory
happened_still : (h : List Event) (x : Step) (r : Reply) → is_no_memory r ≡ true → happened (h ++ record { step = x; reply = r } ∷ []) ≡ happened h
happened_still h x r refused =
    filter-append (λ e. not (is_no_memory e.reply)) h (record { step = x; reply = r } ∷ [])
    ∙ ap (λ b. happened h ++ cond (not b) (record { step = x; reply = r } ∷ []) []) refused ∙ append-nil (happened h)

or_none : (b : Bool) → (b || false) ≡ b
or_none true = refl
or_none false = refl

or_all : (b : Bool) → (b || true) ≡ true
or_all true = refl
or_all false = refl

and_none : (b : Bool) → (b && false) ≡ false
and_none true = refl
and_none false = refl

refused_by : (m : ℕ) (h : List Event) (x : Step) (r : Reply) (b : Bool) → ((slot_of x == m) && is_no_memory r) ≡ b → was_refused m (h ++ record { step = x; reply = r } ∷ []) ≡ (was_refused m h || b)
refused_by m h x r b is =
    list_any-append (λ e. (slot_of e.step == m) && is_no_memory e.reply) h (record { step = x; reply = r } ∷ [])
    ∙ ap (λ c. was_refused m h || c) (or_none ((slot_of x == m) && is_no_memory r) ∙ is)

-- ---- what a run told that led to the host
-- the host is that of a run, whose events are those that happened
record IsLed (h : List Event) (host : Host) : Type 0 where
  done : List Step
  said : Told
  run : IsRun done (happened h) said host.queue (hand_at host) (lone_of host)
  refused : (m : ℕ) → is_refused m said ≡ was_refused m h

led_none : (host : Host) → IsNew host → IsLed [] host
led_none host isnew = record {
  done = [];
  said = untold;
  run =
      subst (λ q. IsRun [] [] untold q (hand_at host) (lone_of host)) (sym isnew.queue)
      (run_hands [] [] untold [] (λ w. None) (hand_at host) (lone_of host) isnew.hands (run_alike [] [] untold [] (λ w. None) (λ m. empty) (lone_of host) (λ m. sym (isnew.slots m)) after_none));
  refused = none_refused;
}

-- a step answered ENOMEM
led_refused : (h : List Event) (x : Step) (r : Reply) (old : Host) → IsLed h old → slot_of x < 16 → is_no_memory r ≡ true → IsLed (h ++ record { step = x; reply = r } ∷ []) old
led_refused h x r old l small refused =
    let t : Said = record { slot = slot_of x; reply = r; log = []; home = [] } in
    let why : Option Reason = reason_of (lone_of old (slot_of x)).mounted in
    let within : slot_of x < length l.said.refused = omega (arith, l.run.refused_room, small) in
    let run : IsRun (l.done ++ x ∷ []) (happened h) (told_refused l.said t why) old.queue (hand_at old) (lone_of old) =
    after_refused l.done (happened h) l.said old.queue (hand_at old) (lone_of old) x l.run t why small refl (hand_at old) refused (λ w. refl) refl in
    record {
      done = l.done ++ x ∷ [];
      said = told_refused l.said t why;
      run = subst (λ g. IsRun (l.done ++ x ∷ []) g (told_refused l.said t why) old.queue (hand_at old) (lone_of old)) (sym (happened_still h x r refused)) run;
      refused = by_slot (slot_of x) (λ m. is_refused m (told_refused l.said t why) ≡ was_refused m (h ++ record { step = x; reply = r } ∷ []))
          (get_or-set_same l.said.refused (slot_of x) true false within
          ∙ sym (refused_by (slot_of x) h x r true (ap (λ b. b && is_no_memory r) (eq-eqb (slot_of x) (slot_of x) refl) ∙ refused) ∙ or_all (was_refused (slot_of x) h)))
          (λ m other. get_or-set_other l.said.refused (slot_of x) m true false (λ same. other (sym same)) ∙ l.refused m
          ∙ sym (refused_by m h x r false (ap (λ b. b && is_no_memory r) (ne_eqb (slot_of x) m other)) ∙ or_none (was_refused m h)));
    }

-- a step that was taken
led_taken : (h : List Event) (x : Step) (new old : Host) → IsLed h old → slot_of x < 16 → may_come old x ≡ true → is_no_memory (alone x (lone_of old (slot_of x))).reply ≡ false
    → IsTaken x (alone x (lone_of old (slot_of x))).reply new old → IsLed (h ++ record { step = x; reply = (alone x (lone_of old (slot_of x))).reply } ∷ []) new
led_taken h x new old l small may went taken =
    let r : Reply = (alone x (lone_of old (slot_of x))).reply in
    let t : Said = said_of x (alone x (lone_of old (slot_of x))) in
    let why : Option Reason = reason_of (lone_of new (slot_of x)).mounted in
    let run : IsRun (l.done ++ x ∷ []) (happened h ++ record { step = x; reply = r } ∷ []) (told_taken l.said t why) (queue_after x old.queue) (hand_at new) (lone_of new) =
    after_taken l.done (happened h) l.said old.queue (hand_at old) (lone_of old) x l.run t (lone_of new) refl may taken.slot taken.others (hand_at new) why small went taken.hands refl in
    record {
      done = l.done ++ x ∷ [];
      said = told_taken l.said t why;
      run =
          subst (λ g. IsRun (l.done ++ x ∷ []) g (told_taken l.said t why) new.queue (hand_at new) (lone_of new)) (sym (happened_more h x r went))
          (subst (λ q. IsRun (l.done ++ x ∷ []) (happened h ++ record { step = x; reply = r } ∷ []) (told_taken l.said t why) q (hand_at new) (lone_of new)) (sym taken.queue) run);
      refused = λ m. l.refused m ∙ sym (refused_by m h x r false (ap (λ b. (slot_of x == m) && b) went ∙ and_none (slot_of x == m)) ∙ or_none (was_refused m h));
    }

led_kept : (h : List Event) (x : Step) (new old : Host) → IsKept x new old → IsLed h old → IsLed h new
led_kept h x new old kept l = record {
  done = l.done;
  said = l.said;
  run =
      subst (λ q. IsRun l.done (happened h) l.said q (hand_at new) (lone_of new)) (sym kept.queue)
      (run_hands l.done (happened h) l.said old.queue (hand_at old) (hand_at new) (lone_of new) kept.hands
      (run_alike l.done (happened h) l.said old.queue (hand_at old) (lone_of old) (lone_of new) (λ m. sym (kept.slots m)) l.run));
  refused = l.refused;
}

led_more : (h : List Event) (x : Step) (r : Reply) (new old : Host) → IsLed h old → slot_of x < 16 → IsStepped x r new old → IsLed (h ++ record { step = x; reply = r } ∷ []) new
led_more h x r new old l small s =
    elim (cases_Bool (is_no_memory r)) [
      | inl refused ↦
          led_kept (h ++ record { step = x; reply = r } ∷ []) x new old (by_true (is_no_memory r) (IsKept x new old) (IsTaken x r new old) refused s.went) (led_refused h x r old l small refused)
      | inr went ↦
          let taken : IsTaken x r new old = by_false (is_no_memory r) (IsKept x new old) (IsTaken x r new old) went s.went in
          subst (λ r. is_no_memory r ≡ false → IsTaken x r new old → IsLed (h ++ record { step = x; reply = r } ∷ []) new) (sym taken.reply)
          (λ went taken. led_taken h x new old l small s.may went taken) went taken
    ]

led : {h : List Event} {host : Host} → IsAfter h host → IsLed h host
led (IsAfter.none host isnew) = led_none host isnew
led (IsAfter.more h x r new old a small s) = led_more h x r new old (led a) small s

-- ---- what may come after a history
module _ (h : List Event) (host : Host) (x : Step) (a : IsAfter h host) (n : was_refused (slot_of x) h ≡ false) where
  -- a step of a slot that was refused nothing may come exactly where it fits what happened
  pub may_come_is : may_come host x ≡ fits (happened h) x
  may_come_is =
      let l : IsLed h host = led a in
      sym (fits_is (happened h) host.queue (hand_at host) (lone_of host (slot_of x)) x l.run.turn (l.run.below (slot_of x)) (l.run.state (slot_of x) (l.refused (slot_of x) ∙ n)))

  -- and is answered as its slot alone answers it after its own steps
  pub reply_is : (r : Reply) (new : Host) → IsTaken x r new host → r ≡ (told (happened h) x).reply
  reply_is r new taken =
      let l : IsLed h host = led a in
      taken.reply ∙ ap (λ s. (alone x s).reply) (l.run.state (slot_of x) (l.refused (slot_of x) ∙ n))

-- ---- nothing but the front of the queue and a hand is shared
pub alike_may_come : (a b : Host) (x : Step) → IsSharedAlike x a b → lone_of a (slot_of x) ≡ lone_of b (slot_of x) → may_come a x ≡ may_come b x
alike_may_come a b (Take worker name) shared own = ap (λ f. (f && is_none (hand_at a worker)) && true) shared.0 ∙ ap (λ f. (is_first name b.queue && f) && true) shared.1
alike_may_come a b (Begin worker name) shared own = ap (λ o. is_first name (option_to_list o) && suits (Begin worker name) (lone_of a name.slot)) shared ∙ ap (λ s. is_first name (held_in (hand_at b) worker) && suits (Begin worker name) s) own
alike_may_come a b (End worker name answers) shared own = ap (λ o. is_first name (option_to_list o) && suits (End worker name answers) (lone_of a name.slot)) shared ∙ ap (λ s. is_first name (held_in (hand_at b) worker) && suits (End worker name answers) s) own
alike_may_come a b (Flush worker name answers) shared own = ap (λ o. is_first name (option_to_list o) && suits (Flush worker name answers) (lone_of a name.slot)) shared ∙ ap (λ s. is_first name (held_in (hand_at b) worker) && suits (Flush worker name answers) s) own
alike_may_come a b (Mount slot log_bytes blocks size) shared own = refl
alike_may_come a b (Call slot life request answer) shared own = ap (suits (Call slot life request answer)) own
alike_may_come a b (Post name) shared own = ap (suits (Post name)) own
alike_may_come a b (Show slot) shared own = refl
alike_may_come a b (Peek slot) shared own = refl

pub alike_taken : (a b c d : Host) (x : Step) (r q : Reply) → lone_of a (slot_of x) ≡ lone_of b (slot_of x) → IsTaken x r c a → IsTaken x q d b → (r ≡ q) × (lone_of c (slot_of x) ≡ lone_of d (slot_of x))
alike_taken a b c d x r q own left right =
    (left.reply ∙ ap (λ s. (alone x s).reply) own ∙ sym right.reply, left.slot ∙ ap (λ s. (alone x s).slot) own ∙ sym right.slot)
