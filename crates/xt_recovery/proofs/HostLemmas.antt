-- The steps of a slot of a host suit that slot alone, whatever the other slots did.
use Rattle.std.proofs.Common.{◌≡◌, ◌∙◌, ◌∷◌, ◌++◌, Bool, List, [], ap, false, inl, inr, map, refl, subst, sym, true, ℕ}
use Rattle.std.proofs.lemmas.Bool.{and_parts, cases_Bool, false≢true, or_parts}
use Rattle.std.proofs.lemmas.List.Elements.{filter-append}
use Rattle.std.specs.List.{list_any}
use Rattle.std.specs.Prelude.{if◌then◌else◌, ◌==◌}
use Rattle.xt_base.proofs.RisingLemmas.{filter_drop, filter_pass}
use Rattle.xt_base.specs.Alone.{Said, after, alone}
use Rattle.xt_base.specs.Isolation.{Tells, Told, events, is_no_memory, is_refused, turns_of, wanted_memory}
use Rattle.xt_base.specs.Order.{Event, fits_for, has_in_hand, keeps_common, keeps_own, of_slot, orderly_for_from, state_of, steps_of, suits, unfinished}
use Rattle.xt_base.specs.State.{Lone, empty}
use Rattle.xt_base.specs.Steps.{slot_of, strike}
use Rattle.xt_base.specs.declared.steps.Step.{Step}
use Rattle.xt_recovery.specs.DiskSteps.{AllSuit}

-- ---- a history with one more event
after_more : (xs : List Step) (x : Step) (s : Lone) → after (xs ++ x ∷ []) s ≡ (alone x (after xs s)).slot
after_more [] x s = refl
after_more (y ∷ ys) x s = after_more ys x (alone y s).slot

steps_more : (h : List Event) (e : Event) → steps_of (h ++ e ∷ []) ≡ steps_of h ++ e.step ∷ []
steps_more [] e = refl
steps_more (x ∷ xs) e = ap (λ ys. x.step ∷ ys) (steps_more xs e)

of_more : (m : ℕ) (h : List Event) (e : Event) → of_slot m (h ++ e ∷ []) ≡ of_slot m h ++ of_slot m (e ∷ [])
of_more m h e = filter-append (λ x. slot_of x.step == m) h (e ∷ [])

own_more : (m : ℕ) (h : List Event) (e : Event) → (slot_of e.step == m) ≡ true → state_of m (h ++ e ∷ []) ≡ (alone e.step (state_of m h)).slot
own_more m h e own =
    ap (λ xs. after (steps_of xs) empty) (of_more m h e ∙ ap (λ xs. of_slot m h ++ xs) (filter_pass (λ x. slot_of x.step == m) e [] own))
    ∙ ap (λ xs. after xs empty) (steps_more (of_slot m h) e) ∙ after_more (steps_of (of_slot m h)) e.step empty

append_none : (xs : List Event) → xs ++ [] ≡ xs
append_none [] = refl
append_none (x ∷ xs) = ap (λ ys. x ∷ ys) (append_none xs)

other_more : (m : ℕ) (h : List Event) (e : Event) → (slot_of e.step == m) ≡ false → state_of m (h ++ e ∷ []) ≡ state_of m h
other_more m h e other =
    ap (λ xs. after (steps_of xs) empty) (of_more m h e ∙ ap (λ xs. of_slot m h ++ xs) (filter_drop (λ x. slot_of x.step == m) e [] other) ∙ append_none (of_slot m h))

-- what is orderly for a slot suits it
own_if : (t : Bool) (a : Bool) → t ≡ true → (if t then a else true) ≡ true → a ≡ true
own_if true a is h = h
own_if false a is h = absurd (false≢true is)

orderly_suits : (m : ℕ) (h es : List Event) → orderly_for_from m h es ≡ true → AllSuit (steps_of (of_slot m es)) (state_of m h)
orderly_suits m h [] ok = tt
orderly_suits m h (e ∷ es) ok =
    let both = and_parts (fits_for m h e.step) (orderly_for_from m (h ++ e ∷ []) es) ok in
    let rest = orderly_suits m (h ++ e ∷ []) es both.1 in
    elim (cases_Bool (slot_of e.step == m)) [
      | inl own ↦
          let part : keeps_own m h e.step ≡ true = own_if (slot_of e.step == m) (keeps_own m h e.step) own (and_parts (keeps_common h e.step) (if slot_of e.step == m then keeps_own m h e.step else true) both.0).1 in
          let fits : suits e.step (state_of m h) ≡ true = (and_parts (has_in_hand (λ w. unfinished w (of_slot m h)) e.step) (suits e.step (state_of m h)) part).1 in
          subst (λ xs. AllSuit (steps_of xs) (state_of m h)) (sym (filter_pass (λ x. slot_of x.step == m) e es own)) (fits, subst (AllSuit (steps_of (of_slot m es))) (own_more m h e own) rest)
      | inr other ↦ subst (λ xs. AllSuit (steps_of xs) (state_of m h)) (sym (filter_drop (λ x. slot_of x.step == m) e es other)) (subst (AllSuit (steps_of (of_slot m es))) (other_more m h e other) rest)
    ]

-- ---- where a slot was not refused memory, each of its steps took place
-- the first of two lists of one shape
first_same : (x : Step) (t : Said) (xs : List Step) (ts : List Said) → map (λ u. u.slot) (t ∷ ts) ≡ map slot_of (x ∷ xs) → (t.slot ≡ slot_of x) × (map (λ u. u.slot) ts ≡ map slot_of xs)
first_same x t xs ts same = (cc, cc)

taken_all : (m : ℕ) (xs : List Step) (ts : List Said) → map (λ t. t.slot) ts ≡ map slot_of xs → wanted_memory m ts ≡ false → steps_of (of_slot m (events xs ts)) ≡ strike xs m
taken_all m [] ts same wants = refl
taken_all m (x ∷ xs) [] same wants = absurd (cc)
taken_all m (x ∷ xs) (t ∷ ts) same wants =
    let parts = first_same x t xs ts same in
    elim (cases_Bool (slot_of x == m)) [
      | inl own ↦
          let mine : (t.slot == m) ≡ true = ap (λ (s : ℕ). s == m) parts.0 ∙ own in
          let two = or_parts (is_no_memory t.reply) (list_any (λ u. is_no_memory u.reply) (turns_of m ts)) (sym (ap (list_any (λ u. is_no_memory u.reply)) (filter_pass (λ u. u.slot == m) t ts mine)) ∙ wants) in
          let event : events (x ∷ xs) (t ∷ ts) ≡ record { step = x; reply = t.reply } ∷ events xs ts = ap (λ (b : Bool). (if b then [] else record { step = x; reply = t.reply } ∷ []) ++ events xs ts) two.0 in
          ap (λ es. steps_of (of_slot m es)) event
          ∙ ap steps_of (filter_pass (λ e. slot_of e.step == m) (record { step = x; reply = t.reply }) (events xs ts) own) ∙ ap (λ ys. x ∷ ys) (taken_all m xs ts parts.1 two.1)
          ∙ sym (filter_pass (λ y. slot_of y == m) x xs own)
      | inr other ↦
          let not_mine : (t.slot == m) ≡ false = ap (λ (s : ℕ). s == m) parts.0 ∙ other in
          let rest : wanted_memory m ts ≡ false = sym (ap (list_any (λ u. is_no_memory u.reply)) (filter_drop (λ u. u.slot == m) t ts not_mine)) ∙ wants in
          skipped (is_no_memory t.reply) other ∙ taken_all m xs ts parts.1 rest ∙ sym (filter_drop (λ y. slot_of y == m) x xs other)
    ]
  where
    skipped : (b : Bool) → (slot_of x == m) ≡ false → steps_of (of_slot m ((if b then [] else record { step = x; reply = t.reply } ∷ []) ++ events xs ts)) ≡ steps_of (of_slot m (events xs ts))
    skipped true other = refl
    skipped false other = ap steps_of (filter_drop (λ e. slot_of e.step == m) (record { step = x; reply = t.reply }) (events xs ts) other)

-- the steps of a slot that was not refused memory suit it, alone
pub slot_suits : (m : ℕ) (steps : List Step) (o : Told) → Tells steps o → is_refused m o ≡ false → AllSuit (strike steps m) empty
slot_suits m steps o tells granted =
    subst (λ xs. AllSuit xs empty) (taken_all m steps o.turns tells.slots (sym (tells.refused m) ∙ granted)) (orderly_suits m [] (events steps o.turns) (tells.for_slot m granted))
