-- Whether a step fits a history is what the queue, the hands and its slot's state say.
use Rattle.std.proofs.Common.{◌≡◌, ◌∙◌, ◌++◌, ◌∷◌, Bool, List, None, Option, Some, [], ap, cond, false, inl, inr, refl, sym, true, ℕ}
use Rattle.std.proofs.lemmas.Bool.{and_parts, cases_Bool, eq-eqb, false_from_ne_true, false≢true, not-true, or_parts}
use Rattle.std.proofs.lemmas.List.Elements.{filter-append}
use Rattle.std.specs.List.{cons_option}
use Rattle.std.specs.Prelude.{IfSome, filter, filter_map, if◌then◌else◌, is_none, not, option_to_list, ◌&&◌, ◌==◌, ◌||◌}
use Rattle.xt_core.proofs.LifeLemmas.{IsGiven, fresh}
use Rattle.xt_core.proofs.NameLemmas.{AreAlike, alike, filter_rest, is_distinct}
use Rattle.xt_base.proofs.RisingLemmas.{filter_drop, filter_pass}
use Rattle.xt_core.proofs.TurnLemmas.{IsTurn, unfinished_is, waiting_is}
use Rattle.xt_base.specs.Order.{Event, finish_by, finished_by, fits, is_among, is_first, is_none_left, is_nothing, keeps_common, of_slot, posted, same_name, state_of, suits, take_by, taken_by, unfinished}
use Rattle.xt_base.specs.Sound.{Each}
use Rattle.xt_base.specs.State.{Lone}
use Rattle.xt_base.specs.Steps.{slot_of}
use Rattle.xt_core.specs.Turns.{can_step, held_in, keeps_turn}
use Rattle.xt_base.specs.declared.names.JobName.{JobName}
use Rattle.xt_base.specs.declared.steps.Reply.{Reply}
use Rattle.xt_base.specs.declared.steps.Step.{Step}
use Rattle.xt_base.specs.declared.steps.Step.TheVariants.{Begin, Call, End, Flush, Mount, Peek, Post, Show, Take}

-- ---- what one slot sees of the names
module _ {X Y : Type 0} where
  filter_map_one : (f : X → Option Y) (q : Y → Bool) (x : X) (b : Bool) (o : Option Y) (ys : List X) (zs : List Y) → f x ≡ o → IfSome o (λ y. q y ≡ b) → filter_map f ys ≡ filter q zs
      → filter_map f (cond b (x ∷ ys) ys) ≡ filter q (cons_option o zs)
  filter_map_one f q x true None ys zs is k e = ap (λ o. cons_option o (filter_map f ys)) is ∙ e
  filter_map_one f q x true (Some y) ys zs is k e = ap (λ o. cons_option o (filter_map f ys)) is ∙ ap (λ l. y ∷ l) e ∙ sym (filter_pass q y zs k)
  filter_map_one f q x false None ys zs is k e = e
  filter_map_one f q x false (Some y) ys zs is k e = e ∙ sym (filter_drop q y zs k)

  -- a filter before a reading is the filter after it that says the same
  pub filter_map_filter : (f : X → Option Y) (p : X → Bool) (q : Y → Bool) → ((x : X) → IfSome (f x) (λ y. q y ≡ p x)) → (xs : List X) → filter_map f (filter p xs) ≡ filter q (filter_map f xs)
  filter_map_filter f p q h [] = refl
  filter_map_filter f p q h (x ∷ xs) = filter_map_one f q x (p x) (f x) (filter p xs) (filter_map f xs) refl (h x) (filter_map_filter f p q h xs)

-- whether a name is of a slot
abbrev pub in_slot : ℕ → JobName → Bool
in_slot m n = n.slot == m

in_slot_if : (b : Bool) (name : JobName) (m : ℕ) → IfSome (if b then Some name else None) (λ n. in_slot m n ≡ (name.slot == m))
in_slot_if true name m = refl
in_slot_if false name m = tt

take_in_slot : (w m : ℕ) (x : Step) → IfSome (take_by w x) (λ n. in_slot m n ≡ (slot_of x == m))
take_in_slot w m (Take worker name) = in_slot_if (worker == w) name m
take_in_slot w m other = tt

finish_in_slot : (w m : ℕ) (r : Reply) (x : Step) → IfSome (finish_by w r x) (λ n. in_slot m n ≡ (slot_of x == m))
finish_in_slot w m r (Begin worker name) = in_slot_if ((worker == w) && is_nothing r) name m
finish_in_slot w m r (End worker name answers) = in_slot_if (worker == w) name m
finish_in_slot w m r (Flush worker name answers) = in_slot_if (worker == w) name m
finish_in_slot w m r other = tt

-- what a worker took of a slot
pub taken_of_slot : (w m : ℕ) (h : List Event) → taken_by w (of_slot m h) ≡ filter (in_slot m) (taken_by w h)
taken_of_slot w m h = filter_map_filter (λ e. take_by w e.step) (λ e. slot_of e.step == m) (in_slot m) (λ e. take_in_slot w m e.step) h

-- what a worker finished of a slot
pub finished_of_slot : (w m : ℕ) (h : List Event) → finished_by w (of_slot m h) ≡ filter (in_slot m) (finished_by w h)
finished_of_slot w m h = filter_map_filter (λ e. finish_by w e.reply e.step) (λ e. slot_of e.step == m) (in_slot m) (λ e. finish_in_slot w m e.reply e.step) h

pub not_among_filter : (p : JobName → Bool) (ns : List JobName) (n : JobName) → is_among ns n ≡ false → is_among (filter p ns) n ≡ false
not_among_filter p [] n h = refl
not_among_filter p (x ∷ xs) n h =
    let parts = or_parts (same_name n x) (is_among xs n) h in
    elim (cases_Bool (p x)) [
      | inl passes ↦ ap (λ l. is_among l n) (filter_pass p x xs passes) ∙ ap (λ b. b || is_among (filter p xs) n) parts.0 ∙ not_among_filter p xs n parts.1
      | inr other ↦ ap (λ l. is_among l n) (filter_drop p x xs other) ∙ not_among_filter p xs n parts.1
    ]

-- a filter leaves no name twice
pub distinct_filter : (p : JobName → Bool) (ns : List JobName) → is_distinct ns ≡ true → is_distinct (filter p ns) ≡ true
distinct_filter p [] d = refl
distinct_filter p (x ∷ xs) d =
    let ds = and_parts (not (is_among xs x)) (is_distinct xs) d in
    elim (cases_Bool (p x)) [
      | inl passes ↦
          ap is_distinct (filter_pass p x xs passes)
          ∙ ap (λ b. not b && is_distinct (filter p xs)) (not_among_filter p xs x (not-true (is_among xs x) ds.0)) ∙ distinct_filter p xs ds.1
      | inr other ↦ ap is_distinct (filter_drop p x xs other) ∙ distinct_filter p xs ds.1
    ]

-- a worker's unfinished names of a slot are those that it has in hand
pub unfinished_of_slot : (h : List Event) (queue : List JobName) (hand : ℕ → Option JobName) (w m : ℕ) → IsTurn h queue hand → unfinished w (of_slot m h) ≡ filter (in_slot m) (held_in hand w)
unfinished_of_slot h queue hand w m t =
    let names : taken_by w (of_slot m h) ≡ filter (in_slot m) (finished_by w h) ++ filter (in_slot m) (held_in hand w) =
    taken_of_slot w m h ∙ ap (filter (in_slot m)) (t.takes w) ∙ filter-append (in_slot m) (finished_by w h) (held_in hand w) in
    let once : is_distinct (filter (in_slot m) (finished_by w h) ++ filter (in_slot m) (held_in hand w)) ≡ true =
    ap is_distinct (sym names) ∙ ap is_distinct (taken_of_slot w m h) ∙ distinct_filter (in_slot m) (taken_by w h) (t.once w) in
    ap (λ done. filter (λ n. not (is_among done n)) (taken_by w (of_slot m h))) (finished_of_slot w m h)
    ∙ ap (filter (λ n. not (is_among (filter (in_slot m) (finished_by w h)) n))) names
    ∙ filter_rest (filter (in_slot m) (finished_by w h)) (filter (in_slot m) (held_in hand w)) once

-- a name is first in a hand whether or not other slots' names are left out
first_in_slot : (name : JobName) (o : Option JobName) → is_first name (filter (in_slot name.slot) (option_to_list o)) ≡ is_first name (option_to_list o)
first_in_slot name None = refl
first_in_slot name (Some n) =
    elim (cases_Bool (n.slot == name.slot)) [
      | inl here ↦ ap (is_first name) (filter_pass (in_slot name.slot) n [] here)
      | inr other ↦
          ap (is_first name) (filter_drop (in_slot name.slot) n [] other)
          ∙ sym (false_from_ne_true (same_name n name) (λ one. let e : AreAlike n name = alike n name one in false≢true (sym other ∙ eq-eqb n.slot name.slot e.slot)))
    ]

-- ---- the common part
none_left : (o : Option JobName) → is_none_left (option_to_list o) ≡ is_none o
none_left None = refl
none_left (Some n) = refl

pub take_common : (h : List Event) (queue : List JobName) (hand : ℕ → Option JobName) (worker : ℕ) (name : JobName) → IsTurn h queue hand
    → keeps_common h (Take worker name) ≡ keeps_turn queue hand (Take worker name)
take_common h queue hand worker name t =
    ap (λ q. is_first name q && is_none_left (unfinished worker h)) (waiting_is h queue hand t)
    ∙ ap (λ l. is_first name queue && is_none_left l) (unfinished_is h queue hand worker t) ∙ ap (λ b. is_first name queue && b) (none_left (hand worker))

-- what lets a step come lets it keep the common part
pub common_step : (h : List Event) (queue : List JobName) (hand : ℕ → Option JobName) (s : Lone) (x : Step) → IsTurn h queue hand → Each (λ n. n.slot ≡ slot_of x → IsGiven s n) (posted h)
    → keeps_turn queue hand x ≡ true → suits x s ≡ true → keeps_common h x ≡ true
common_step h queue hand s (Post name) t below turn suit = ap not (fresh s name (posted h) below suit)
common_step h queue hand s (Take worker name) t below turn suit = take_common h queue hand worker name t ∙ turn
common_step h queue hand s (Mount slot log_bytes blocks size) t below turn suit = refl
common_step h queue hand s (Call slot life request answer) t below turn suit = refl
common_step h queue hand s (Begin worker name) t below turn suit = refl
common_step h queue hand s (End worker name answers) t below turn suit = refl
common_step h queue hand s (Flush worker name answers) t below turn suit = refl
common_step h queue hand s (Show slot) t below turn suit = refl
common_step h queue hand s (Peek slot) t below turn suit = refl

-- ---- fits
pub hand_of_slot : (h : List Event) (queue : List JobName) (hand : ℕ → Option JobName) (worker : ℕ) (name : JobName) → IsTurn h queue hand
    → is_first name (unfinished worker (of_slot name.slot h)) ≡ is_first name (held_in hand worker)
hand_of_slot h queue hand worker name t = ap (is_first name) (unfinished_of_slot h queue hand worker name.slot t) ∙ first_in_slot name (hand worker)

fits_post : (new suit : Bool) → (suit ≡ true → new ≡ true) → (new && (true && suit)) ≡ (true && suit)
fits_post new true h = ap (λ b. b && true) (h refl)
fits_post true false h = refl
fits_post false false h = refl

and_true : (b : Bool) → (b && true) ≡ b
and_true true = refl
and_true false = refl

-- whether a step fits a history, where the queue, the hands and its slot's state are what the history says
pub fits_is : (h : List Event) (queue : List JobName) (hand : ℕ → Option JobName) (s : Lone) (x : Step) → IsTurn h queue hand → Each (λ n. n.slot ≡ slot_of x → IsGiven s n) (posted h)
    → s ≡ state_of (slot_of x) h → fits h x ≡ can_step queue hand s x
fits_is h queue hand s (Post name) t below e =
    ap (λ u. not (is_among (posted h) name) && (true && suits (Post name) u)) (sym e)
    ∙ fits_post (not (is_among (posted h) name)) (suits (Post name) s) (λ owed. ap not (fresh s name (posted h) below owed))
fits_is h queue hand s (Take worker name) t below e =
    ap (λ b. b && true) (take_common h queue hand worker name t)
fits_is h queue hand s (Mount slot log_bytes blocks size) t below e = refl
fits_is h queue hand s (Call slot life request answer) t below e = ap (suits (Call slot life request answer)) (sym e)
fits_is h queue hand s (Begin worker name) t below e =
    ap (λ b. b && suits (Begin worker name) (state_of name.slot h)) (hand_of_slot h queue hand worker name t) ∙ ap (λ u. is_first name (held_in hand worker) && suits (Begin worker name) u) (sym e)
fits_is h queue hand s (End worker name answers) t below e =
    ap (λ b. b && suits (End worker name answers) (state_of name.slot h)) (hand_of_slot h queue hand worker name t) ∙ ap (λ u. is_first name (held_in hand worker) && suits (End worker name answers) u) (sym e)
fits_is h queue hand s (Flush worker name answers) t below e =
    ap (λ b. b && suits (Flush worker name answers) (state_of name.slot h)) (hand_of_slot h queue hand worker name t) ∙ ap (λ u. is_first name (held_in hand worker) && suits (Flush worker name answers) u) (sym e)
fits_is h queue hand s (Show slot) t below e = refl
fits_is h queue hand s (Peek slot) t below e = refl
