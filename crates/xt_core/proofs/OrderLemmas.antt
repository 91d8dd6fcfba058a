-- One more step at the end of a list: what it adds to the events, the states, the turns and the order.
use Rattle.std.proofs.Common.{◌≡◌, ◌≢◌, ◌∙◌, ◌++◌, ◌∷◌, Bool, List, [], ap, append_assoc, cond, false, map, refl, sym, true, ℕ}
use Rattle.std.proofs.lemmas.Bool.{eq-eqb, ne_eqb}
use Rattle.std.proofs.lemmas.List.{append-nil}
use Rattle.std.proofs.lemmas.List.Elements.{filter-append}
use Rattle.std.proofs.lemmas.List.Folds.{list_any-append}
use Rattle.std.specs.List.{list_any}
use Rattle.std.specs.Prelude.{filter, ◌&&◌, ◌==◌, ◌||◌}
use Rattle.xt_base.specs.Alone.{Said, after, alone, alone_from, said_of}
use Rattle.xt_base.specs.Isolation.{event_of, events, is_no_memory, turns_of, wanted_memory}
use Rattle.xt_base.specs.Order.{Event, fits, fits_for, of_slot, orderly_for_from, orderly_from, told, told_from}
use Rattle.xt_base.specs.State.{Lone}
use Rattle.xt_base.specs.Steps.{slot_of, strike}
use Rattle.xt_base.specs.declared.steps.Step.{Step}

-- ---- events
-- where each step has a turn, one more step with its turn is one more event, or none
pub events_more : (xs : List Step) (ts : List Said) (x : Step) (t : Said) → map (λ t. t.slot) ts ≡ map slot_of xs → events (xs ++ x ∷ []) (ts ++ t ∷ []) ≡ events xs ts ++ event_of x t
events_more [] [] x t e = append-nil (event_of x t)
events_more [] (u ∷ us) x t e = absurd (cc)
events_more (y ∷ ys) [] x t e = absurd (cc)
events_more (y ∷ ys) (u ∷ us) x t e =
    let tails : map (λ t. t.slot) us ≡ map slot_of ys = cc in
    ap (λ l. event_of y u ++ l) (events_more ys us x t tails) ∙ sym (append_assoc (event_of y u) (events ys us) (event_of x t))

-- ---- one slot's part
module _ {A : Type 0} where
  filter_one : (p : A → Bool) (xs : List A) (x : A) → p x ≡ true → filter p (xs ++ x ∷ []) ≡ filter p xs ++ x ∷ []
  filter_one p xs x h = filter-append p xs (x ∷ []) ∙ ap (λ b. filter p xs ++ cond b (x ∷ []) []) h

  filter_none : (p : A → Bool) (xs : List A) (x : A) → p x ≡ false → filter p (xs ++ x ∷ []) ≡ filter p xs
  filter_none p xs x h = filter-append p xs (x ∷ []) ∙ ap (λ b. filter p xs ++ cond b (x ∷ []) []) h ∙ append-nil (filter p xs)

-- a slot's own step is struck to it
pub strike_own : (xs : List Step) (x : Step) → strike (xs ++ x ∷ []) (slot_of x) ≡ strike xs (slot_of x) ++ x ∷ []
strike_own xs x = filter_one (λ y. slot_of y == slot_of x) xs x (eq-eqb (slot_of x) (slot_of x) refl)

-- and another's is not
pub strike_other : (xs : List Step) (x : Step) (m : ℕ) → slot_of x ≢ m → strike (xs ++ x ∷ []) m ≡ strike xs m
strike_other xs x m other = filter_none (λ y. slot_of y == m) xs x (ne_eqb (slot_of x) m other)

-- a slot's own event
pub of_slot_own : (h : List Event) (e : Event) → of_slot (slot_of e.step) (h ++ e ∷ []) ≡ of_slot (slot_of e.step) h ++ e ∷ []
of_slot_own h e = filter_one (λ y. slot_of y.step == slot_of e.step) h e (eq-eqb (slot_of e.step) (slot_of e.step) refl)

-- another slot's event
pub of_slot_other : (h : List Event) (e : Event) (m : ℕ) → slot_of e.step ≢ m → of_slot m (h ++ e ∷ []) ≡ of_slot m h
of_slot_other h e m other = filter_none (λ y. slot_of y.step == m) h e (ne_eqb (slot_of e.step) m other)

-- a slot's own turn
pub turns_own : (ts : List Said) (t : Said) (m : ℕ) → t.slot ≡ m → turns_of m (ts ++ t ∷ []) ≡ turns_of m ts ++ t ∷ []
turns_own ts t m same = filter_one (λ u. u.slot == m) ts t (eq-eqb t.slot m same)

-- another slot's turn
pub turns_other : (ts : List Said) (t : Said) (m : ℕ) → t.slot ≢ m → turns_of m (ts ++ t ∷ []) ≡ turns_of m ts
turns_other ts t m other = filter_none (λ u. u.slot == m) ts t (ne_eqb t.slot m other)

-- ---- want of memory
or_last : (a b : Bool) → (a || (b || false)) ≡ (a || b)
or_last true b = refl
or_last false true = refl
or_last false false = refl

-- a slot's own turn may be ENOMEM
pub wanted_own : (ts : List Said) (t : Said) (m : ℕ) → t.slot ≡ m → wanted_memory m (ts ++ t ∷ []) ≡ (wanted_memory m ts || is_no_memory t.reply)
wanted_own ts t m same =
    ap (list_any (λ (u : Said). is_no_memory u.reply)) (turns_own ts t m same) ∙ list_any-append (λ (u : Said). is_no_memory u.reply) (turns_of m ts) (t ∷ [])
    ∙ or_last (wanted_memory m ts) (is_no_memory t.reply)

-- another slot's turn is nothing to it
pub wanted_other : (ts : List Said) (t : Said) (m : ℕ) → t.slot ≢ m → wanted_memory m (ts ++ t ∷ []) ≡ wanted_memory m ts
wanted_other ts t m other = ap (list_any (λ (u : Said). is_no_memory u.reply)) (turns_other ts t m other)

-- ---- states and turns of a slot alone
-- the state after one more step
pub after_more : (xs : List Step) (x : Step) (s : Lone) → after (xs ++ x ∷ []) s ≡ (alone x (after xs s)).slot
after_more [] x s = refl
after_more (y ∷ ys) x s = after_more ys x (alone y s).slot

-- the turns with one more step
pub alone_more : (xs : List Step) (x : Step) (s : Lone) → alone_from (xs ++ x ∷ []) s ≡ alone_from xs s ++ said_of x (alone x (after xs s)) ∷ []
alone_more [] x s = refl
alone_more (y ∷ ys) x s = ap (λ l. said_of y (alone y s) ∷ l) (alone_more ys x (alone y s).slot)

-- ---- order
and_assoc : (x y z : Bool) → (x && (y && z)) ≡ ((x && y) && z)
and_assoc true y z = refl
and_assoc false y z = refl

and_true : (b : Bool) → (b && true) ≡ b
and_true true = refl
and_true false = refl

-- the history with one more step
pub told_more : (h : List Event) (xs : List Step) (x : Step) → told_from h (xs ++ x ∷ []) ≡ told_from h xs ++ told (told_from h xs) x ∷ []
told_more h [] x = refl
told_more h (y ∷ ys) x = told_more (h ++ told h y ∷ []) ys x

-- one more step keeps a list orderly where it fits what came before
pub orderly_more : (h : List Event) (xs : List Step) (x : Step) → orderly_from h (xs ++ x ∷ []) ≡ (orderly_from h xs && fits (told_from h xs) x)
orderly_more h [] x = and_true (fits h x)
orderly_more h (y ∷ ys) x =
    ap (λ b. fits h y && b) (orderly_more (h ++ told h y ∷ []) ys x)
    ∙ and_assoc (fits h y) (orderly_from (h ++ told h y ∷ []) ys) (fits (told_from (h ++ told h y ∷ []) ys) x)

-- the same for one slot
pub orderly_for_more : (m : ℕ) (h es : List Event) (e : Event) → orderly_for_from m h (es ++ e ∷ []) ≡ (orderly_for_from m h es && fits_for m (h ++ es) e.step)
orderly_for_more m h [] e = ap (λ k. fits_for m k e.step && true) (sym (append-nil h)) ∙ and_true (fits_for m (h ++ []) e.step)
orderly_for_more m h (y ∷ ys) e =
    ap (λ b. fits_for m h y.step && b) (orderly_for_more m (h ++ y ∷ []) ys e)
    ∙ and_assoc (fits_for m h y.step) (orderly_for_from m (h ++ y ∷ []) ys) (fits_for m (h ++ y ∷ [] ++ ys) e.step)
    ∙ ap (λ k. (fits_for m h y.step && orderly_for_from m (h ++ y ∷ []) ys) && fits_for m k e.step) (append_assoc h (y ∷ []) ys)
