-- The steps of one slot of an orderly list are orderly by themselves, and so is each beginning of the list.
use Rattle.std.proofs.Common.{◌≡◌, ◌≢◌, ◌∙◌, ◌+◌, ◌<◌, ◌++◌, ◌∷◌, Bool, List, None, Option, Some, [], ap, false, get_or, inl, inr, length, refl, subst, suc, sym, take, true, zero, ℕ}
use Rattle.std.proofs.lemmas.Bool.{and_parts, cases_Bool, cases_eq, eq-eqb, false≢true, ne_eqb, not-true}
use Rattle.std.proofs.lemmas.List.{append-nil, take_more}
use Rattle.std.proofs.lemmas.List.Elements.{filter-append}
use Rattle.std.specs.Prelude.{IfSome, filter, is_none, not, option_to_list, ◌&&◌, ◌==◌}
use Rattle.xt_core.proofs.FitsLemmas.{distinct_filter, filter_map_filter, hand_of_slot, in_slot, not_among_filter, take_common, unfinished_of_slot}
use Rattle.xt_core.proofs.NameLemmas.{filter_rest, is_distinct, same_names}
use Rattle.xt_core.proofs.OrderLemmas.{of_slot_other, of_slot_own}
use Rattle.xt_base.proofs.RisingLemmas.{filter_drop, filter_pass}
use Rattle.xt_core.proofs.TurnLemmas.{IsTurn, turn_none, turn_step}
use Rattle.xt_base.specs.Alone.{after, alone}
use Rattle.xt_base.specs.Order.{Event, fits, is_among, is_first, is_none_left, keeps_common, keeps_own, keeps_part, of_slot, orderly, orderly_from, post_of, posted, state_of, steps_of, suits, take_of, taken, told, unfinished, waiting}
use Rattle.xt_base.specs.State.{empty}
use Rattle.xt_base.specs.Steps.{slot_of, strike}
use Rattle.xt_core.specs.Turns.{hand_after, keeps_turn, queue_after}
use Rattle.xt_base.specs.declared.names.JobName.{JobName}
use Rattle.xt_base.specs.declared.steps.Reply.{Reply}
use Rattle.xt_base.specs.declared.steps.Step.{Step}
use Rattle.xt_base.specs.declared.steps.Step.TheVariants.{Begin, End, Flush, Post, Take}

-- ---- a beginning
begun_from : (n : ℕ) (h : List Event) (xs : List Step) → orderly_from h xs ≡ true → orderly_from h (take n xs) ≡ true
begun_from zero h [] o = refl
begun_from zero h (x ∷ xs) o = refl
begun_from (suc n) h [] o = refl
begun_from (suc n) h (x ∷ xs) o =
    let parts = and_parts (fits h x) (orderly_from (h ++ told h x ∷ []) xs) o in
    ap (λ b. b && orderly_from (h ++ told h x ∷ []) (take n xs)) parts.0 ∙ begun_from n (h ++ told h x ∷ []) xs parts.1

-- each beginning of an orderly list is orderly
pub orderly_take : (n : ℕ) (xs : List Step) → orderly xs ≡ true → orderly (take n xs) ≡ true
orderly_take n xs o = begun_from n [] xs o

-- ---- filters
module _ {A : Type 0} where
  -- a filter after itself
  pub filter_twice : (p : A → Bool) (xs : List A) → filter p (filter p xs) ≡ filter p xs
  filter_twice p [] = refl
  filter_twice p (x ∷ xs) =
      elim (cases_Bool (p x)) [
        | inl passes ↦
            ap (filter p) (filter_pass p x xs passes) ∙ filter_pass p x (filter p xs) passes ∙ ap (λ l. x ∷ l) (filter_twice p xs) ∙ sym (filter_pass p x xs passes)
        | inr other ↦ ap (filter p) (filter_drop p x xs other) ∙ filter_twice p xs ∙ sym (filter_drop p x xs other)
      ]

-- the steps of a slot, struck to it once more
pub strike_twice : (xs : List Step) (m : ℕ) → strike (strike xs m) m ≡ strike xs m
strike_twice xs m = filter_twice (λ x. slot_of x == m) xs

-- the steps of a slot among one step more of a list: it is one of them
pub strike_more : (xs : List Step) (i : ℕ) (x : Step) (m : ℕ) → i < length xs → x ≡ get_or xs i x → (slot_of x == m) ≡ true → strike (take (i + 1) xs) m ≡ strike (take i xs) m ++ x ∷ []
strike_more xs i x m within is own =
    ap (λ l. strike l m) (take_more xs i x within ∙ ap (λ y. take i xs ++ y ∷ []) (sym is))
    ∙ filter-append (λ y. slot_of y == m) (take i xs) (x ∷ []) ∙ ap (λ l. strike (take i xs) m ++ l) (filter_pass (λ y. slot_of y == m) x [] own)

-- or it is not
pub strike_less : (xs : List Step) (i : ℕ) (x : Step) (m : ℕ) → i < length xs → x ≡ get_or xs i x → (slot_of x == m) ≡ false → strike (take (i + 1) xs) m ≡ strike (take i xs) m
strike_less xs i x m within is other =
    ap (λ l. strike l m) (take_more xs i x within ∙ ap (λ y. take i xs ++ y ∷ []) (sym is))
    ∙ filter-append (λ y. slot_of y == m) (take i xs) (x ∷ []) ∙ ap (λ l. strike (take i xs) m ++ l) (filter_drop (λ y. slot_of y == m) x [] other)
    ∙ append-nil (strike (take i xs) m)

-- the events of a slot, once more
pub of_slot_twice : (m : ℕ) (h : List Event) → of_slot m (of_slot m h) ≡ of_slot m h
of_slot_twice m h = filter_twice (λ e. slot_of e.step == m) h

-- ---- a step of a slot after the events of the slot
-- a step that fits keeps its turn
turn_of_fits : (h : List Event) (queue : List JobName) (hand : ℕ → Option JobName) (x : Step) → IsTurn h queue hand → fits h x ≡ true → keeps_turn queue hand x ≡ true
turn_of_fits h queue hand (Take worker name) t f =
    sym (take_common h queue hand worker name t) ∙ (and_parts (keeps_common h (Take worker name)) (keeps_own name.slot h (Take worker name)) f).0
turn_of_fits h queue hand (Begin worker name) t f =
    sym (hand_of_slot h queue hand worker name t) ∙ (and_parts (is_first name (unfinished worker (of_slot name.slot h))) (suits (Begin worker name) (state_of name.slot h)) f).0
turn_of_fits h queue hand (End worker name answers) t f =
    sym (hand_of_slot h queue hand worker name t) ∙ (and_parts (is_first name (unfinished worker (of_slot name.slot h))) (suits (End worker name answers) (state_of name.slot h)) f).0
turn_of_fits h queue hand (Flush worker name answers) t f =
    sym (hand_of_slot h queue hand worker name t) ∙ (and_parts (is_first name (unfinished worker (of_slot name.slot h))) (suits (Flush worker name answers) (state_of name.slot h)) f).0
turn_of_fits h queue hand other t f = refl

post_in_slot : (m : ℕ) (x : Step) → IfSome (post_of x) (λ n. in_slot m n ≡ (slot_of x == m))
post_in_slot m (Post name) = refl
post_in_slot m other = tt

take_in_slot : (m : ℕ) (x : Step) → IfSome (take_of x) (λ n. in_slot m n ≡ (slot_of x == m))
take_in_slot m (Take worker name) = refl
take_in_slot m other = tt

posted_of_slot : (m : ℕ) (h : List Event) → posted (of_slot m h) ≡ filter (in_slot m) (posted h)
posted_of_slot m h = filter_map_filter (λ e. post_of e.step) (λ e. slot_of e.step == m) (in_slot m) (λ e. post_in_slot m e.step) h

taken_of_slot : (m : ℕ) (h : List Event) → taken (of_slot m h) ≡ filter (in_slot m) (taken h)
taken_of_slot m h = filter_map_filter (λ e. take_of e.step) (λ e. slot_of e.step == m) (in_slot m) (λ e. take_in_slot m e.step) h

-- the waiting names of a slot are its names in the queue
waiting_of_slot : (h : List Event) (queue : List JobName) (hand : ℕ → Option JobName) (m : ℕ) → IsTurn h queue hand → waiting (of_slot m h) ≡ filter (in_slot m) queue
waiting_of_slot h queue hand m t =
    let names : posted (of_slot m h) ≡ filter (in_slot m) (taken h) ++ filter (in_slot m) queue =
    posted_of_slot m h ∙ ap (filter (in_slot m)) t.posts ∙ filter-append (in_slot m) (taken h) queue in
    let new : is_distinct (filter (in_slot m) (taken h) ++ filter (in_slot m) queue) ≡ true =
    ap is_distinct (sym names) ∙ ap is_distinct (posted_of_slot m h) ∙ distinct_filter (in_slot m) (posted h) t.new in
    ap (λ gone. filter (λ n. not (is_among gone n)) (posted (of_slot m h))) (taken_of_slot m h)
    ∙ ap (filter (λ n. not (is_among (filter (in_slot m) (taken h)) n))) names
    ∙ filter_rest (filter (in_slot m) (taken h)) (filter (in_slot m) queue) new

-- the name in front is the first of its slot
first_of_slot : (name : JobName) (queue : List JobName) → is_first name queue ≡ true → is_first name (filter (in_slot name.slot) queue) ≡ true
first_of_slot name [] f = absurd (false≢true f)
first_of_slot name (n ∷ ns) f =
    ap (is_first name) (filter_pass (in_slot name.slot) n ns (ap (λ (k : JobName). k.slot == name.slot) (same_names n name f) ∙ eq-eqb name.slot name.slot refl)) ∙ f

-- a free worker has no name of a slot
none_of_slot : (m : ℕ) (o : Option JobName) → is_none o ≡ true → is_none_left (filter (in_slot m) (option_to_list o)) ≡ true
none_of_slot m None f = refl
none_of_slot m (Some n) f = absurd (false≢true f)

-- a step that keeps the common part keeps it after the events of its slot alone
common_of_slot : (h : List Event) (queue : List JobName) (hand : ℕ → Option JobName) (x : Step) → IsTurn h queue hand → keeps_common h x ≡ true → keeps_common (of_slot (slot_of x) h) x ≡ true
common_of_slot h queue hand (Post name) t c =
    ap not (ap (λ l. is_among l name) (posted_of_slot name.slot h) ∙ not_among_filter (in_slot name.slot) (posted h) name (not-true (is_among (posted h) name) c))
common_of_slot h queue hand (Take worker name) t c =
    let turn = and_parts (is_first name queue) (is_none (hand worker)) (sym (take_common h queue hand worker name t) ∙ c) in
    ap (λ l. is_first name l && is_none_left (unfinished worker (of_slot name.slot h))) (waiting_of_slot h queue hand name.slot t)
    ∙ ap (λ b. b && is_none_left (unfinished worker (of_slot name.slot h))) (first_of_slot name queue turn.0)
    ∙ ap is_none_left (unfinished_of_slot h queue hand worker name.slot t) ∙ none_of_slot name.slot (hand worker) turn.1
common_of_slot h queue hand other t c = refl

-- the part of a slot is the same after the events of the slot alone
own_of_slot : (m : ℕ) (h : List Event) (x : Step) → keeps_own m (of_slot m h) x ≡ keeps_own m h x
own_of_slot m h x = ap (λ g. keeps_part (λ w. unfinished w g) (after (steps_of g) empty) x) (of_slot_twice m h)

-- so a step that fits a history fits the events of its slot alone
pub fits_of_slot : (h : List Event) (queue : List JobName) (hand : ℕ → Option JobName) (x : Step) → IsTurn h queue hand → fits h x ≡ true → fits (of_slot (slot_of x) h) x ≡ true
fits_of_slot h queue hand x t f =
    let parts = and_parts (keeps_common h x) (keeps_own (slot_of x) h x) f in
    ap (λ b. b && keeps_own (slot_of x) (of_slot (slot_of x) h) x) (common_of_slot h queue hand x t parts.0) ∙ own_of_slot (slot_of x) h x ∙ parts.1

-- and it is told the same
told_of_slot : (h : List Event) (x : Step) → of_slot (slot_of x) (h ++ told h x ∷ []) ≡ of_slot (slot_of x) h ++ told (of_slot (slot_of x) h) x ∷ []
told_of_slot h x =
    of_slot_own h (told h x)
    ∙ ap (λ g. of_slot (slot_of x) h ++ record { step = x; reply = (alone x (after (steps_of g) empty)).reply } ∷ []) (sym (of_slot_twice (slot_of x) h))

-- ---- a struck list
-- one step of the list, of the slot or of another
struck_own : (m : ℕ) (h : List Event) (queue : List JobName) (hand : ℕ → Option JobName) (x : Step) (xs : List Step) → slot_of x ≡ m → IsTurn h queue hand → fits h x ≡ true
    → orderly_from (of_slot m (h ++ told h x ∷ [])) (strike xs m) ≡ true → orderly_from (of_slot m h) (strike (x ∷ xs) m) ≡ true
struck_own m h queue hand x xs here t f rest =
    subst (λ m. orderly_from (of_slot m (h ++ told h x ∷ [])) (strike xs m) ≡ true → orderly_from (of_slot m h) (strike (x ∷ xs) m) ≡ true) here
    (λ rest.
    ap (orderly_from (of_slot (slot_of x) h)) (filter_pass (λ y. slot_of y == slot_of x) x xs (eq-eqb (slot_of x) (slot_of x) refl))
    ∙ ap (λ b. b && orderly_from (of_slot (slot_of x) h ++ told (of_slot (slot_of x) h) x ∷ []) (strike xs (slot_of x))) (fits_of_slot h queue hand x t f)
    ∙ ap (λ g. orderly_from g (strike xs (slot_of x))) (sym (told_of_slot h x)) ∙ rest)
    rest

struck_other : (m : ℕ) (h : List Event) (x : Step) (xs : List Step) → slot_of x ≢ m
    → orderly_from (of_slot m (h ++ told h x ∷ [])) (strike xs m) ≡ true → orderly_from (of_slot m h) (strike (x ∷ xs) m) ≡ true
struck_other m h x xs other rest =
    ap (orderly_from (of_slot m h)) (filter_drop (λ y. slot_of y == m) x xs (ne_eqb (slot_of x) m other))
    ∙ ap (λ g. orderly_from g (strike xs m)) (sym (of_slot_other h (told h x) m other)) ∙ rest

struck_from : (m : ℕ) (h : List Event) (queue : List JobName) (hand : ℕ → Option JobName) (xs : List Step) → IsTurn h queue hand → orderly_from h xs ≡ true → orderly_from (of_slot m h) (strike xs m) ≡ true
struck_from m h queue hand [] t o = refl
struck_from m h queue hand (x ∷ xs) t o =
    let parts = and_parts (fits h x) (orderly_from (h ++ told h x ∷ []) xs) o in
    let common = (and_parts (keeps_common h x) (keeps_own (slot_of x) h x) parts.0).0 in
    let r : Reply = (told h x).reply in
    let later : IsTurn (h ++ told h x ∷ []) (queue_after x queue) (λ w. hand_after x r w (hand w)) = turn_step h queue hand x r t common (turn_of_fits h queue hand x t parts.0) in
    let rest = struck_from m (h ++ told h x ∷ []) (queue_after x queue) (λ w. hand_after x r w (hand w)) xs later parts.1 in
    elim (cases_eq (slot_of x) m) [
      | inl here ↦ struck_own m h queue hand x xs here t parts.0 rest
      | inr other ↦ struck_other m h x xs other rest
    ]

-- the steps of one slot of an orderly list are orderly
pub struck : (xs : List Step) (m : ℕ) → orderly xs ≡ true → orderly (strike xs m) ≡ true
struck xs m o = struck_from m [] [] (λ w. None) xs turn_none o
