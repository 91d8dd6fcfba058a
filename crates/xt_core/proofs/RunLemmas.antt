-- A run of steps over many slots: what it told is what each slot would have been told alone.
use Rattle.std.proofs.Common.{◌≡◌, ◌≢◌, ◌∙◌, ◌<◌, ◌++◌, ◌∷◌, Bool, List, None, Option, [], ap, arith, false, inl, inr, length, map, refl, replicate, subst, suc, sym, true, zero, ℕ}
use Rattle.std.proofs.lemmas.Bool.{and_parts, cases_eq, eq-eqb, false≢true, ne_eqb}
use Rattle.std.proofs.lemmas.List.{append-nil, get_or-set_other, get_or-set_same, length-set, map-append}
use Rattle.std.specs.Prelude.{if◌then◌else◌, option_to_list, slice_index_or, slice_set, ◌&&◌, ◌||◌}
use Rattle.xt_core.proofs.FitsLemmas.{common_step, fits_is}
use Rattle.xt_core.proofs.LifeLemmas.{IsGiven, IsLater, given_once_posted, later_step}
use Rattle.xt_core.proofs.OrderLemmas.{after_more, alone_more, events_more, of_slot_other, of_slot_own, orderly_for_more, orderly_more, strike_other, strike_own, told_more, turns_other, turns_own, wanted_other, wanted_own}
use Rattle.xt_base.proofs.RisingLemmas.{each_map}
use Rattle.xt_core.proofs.TurnLemmas.{IsTurn, one_more, turn_hands, turn_none, turn_step}
use Rattle.xt_base.specs.Alone.{Said, after, alone, alone_run, reason_of, said_of}
use Rattle.xt_base.specs.Isolation.{Tells, Told, events, is_no_memory, is_refused, shut_in, told_refused, told_taken, turns_of, untold, wanted_memory}
use Rattle.xt_base.specs.Order.{Event, fits, fits_for, keeps_common, keeps_own, of_slot, orderly, orderly_for, post_of, posted, state_of, steps_of, suits, told, told_from}
use Rattle.xt_base.specs.Own.{IsOwnOf}
use Rattle.xt_base.specs.Sound.{Each}
use Rattle.xt_base.specs.State.{Lone, empty}
use Rattle.xt_base.specs.Steps.{slot_of, strike}
use Rattle.xt_core.specs.Turns.{can_step, keeps_turn, queue_after, hand_after}
use Rattle.xt_base.specs.declared.names.JobName.{JobName}
use Rattle.xt_base.specs.declared.steps.Reason.{Reason}
use Rattle.xt_base.specs.declared.steps.Step.{Step}
use Rattle.xt_base.specs.declared.steps.Step.TheVariants.{Post}

-- a fact of every slot, by one slot and the others
pub by_slot : (k : ℕ) (P : ℕ → Type 0) → P k → ((m : ℕ) → k ≢ m → P m) → (m : ℕ) → P m
by_slot k P here others m =
    elim (cases_eq k m) [
      | inl same ↦ subst P same here
      | inr other ↦ others m other
    ]

-- ---- what holds after the steps that were done
-- the names posted of a slot were given by it
abbrev pub IsBelow : ℕ → List Event → Lone → Type 0
IsBelow m h s = Each (λ n. n.slot ≡ m → IsGiven s n) (posted h)

-- what was told, the queue, the hands and the slots' states are those of the steps done and their events:
-- for the slots that were not refused memory as each would be alone
pub record IsAfter (done : List Step) (h : List Event) (o : Told) (queue : List JobName) (hand : ℕ → Option JobName) (lone : ℕ → Lone) : Type 0 where
  pub slots : map (λ t. t.slot) o.turns ≡ map slot_of done
  pub shut_room : length o.shut ≡ 16
  pub refused_room : length o.refused ≡ 16
  pub wanted : (m : ℕ) → is_refused m o ≡ wanted_memory m o.turns
  pub happened : events done o.turns ≡ h
  pub turn : IsTurn h queue hand
  pub below : (m : ℕ) → IsBelow m h (lone m)
  pub own : (m : ℕ) → IsOwnOf m (lone m)
  pub state : (m : ℕ) → is_refused m o ≡ false → lone m ≡ state_of m h
  pub steps : (m : ℕ) → is_refused m o ≡ false → steps_of (of_slot m h) ≡ strike done m
  pub turns : (m : ℕ) → is_refused m o ≡ false → turns_of m o.turns ≡ alone_run (strike done m)
  pub shut : (m : ℕ) → shut_in m o ≡ reason_of (lone m).mounted
  pub for_slot : (m : ℕ) → is_refused m o ≡ false → orderly_for m h ≡ true
  pub whole : ((m : ℕ) → is_refused m o ≡ false) → orderly done ≡ true
  pub retold : ((m : ℕ) → is_refused m o ≡ false) → told_from [] done ≡ h

default_in : (n m : ℕ) (r : Option Reason) → slice_index_or (replicate n r) m r ≡ r
default_in zero m r = refl
default_in (suc n) zero r = refl
default_in (suc n) (suc m) r = default_in n m r

never : (n m : ℕ) → slice_index_or (replicate n false) m false ≡ false
never zero m = refl
never (suc n) zero = refl
never (suc n) (suc m) = never n m

-- no slot was refused memory
pub none_refused : (m : ℕ) → is_refused m untold ≡ false
none_refused m = never 16 m

-- before any step
pub after_none : IsAfter [] [] untold [] (λ w. None) (λ m. empty)
after_none = record {
  slots = refl;
  shut_room = refl;
  refused_room = refl;
  wanted = none_refused;
  happened = refl;
  turn = turn_none;
  below = λ m. tt;
  own = λ m. tt;
  state = λ m n. refl;
  steps = λ m n. refl;
  turns = λ m n. refl;
  shut = λ m. default_in 16 m None;
  for_slot = λ m n. refl;
  whole = λ n. refl;
  retold = λ n. refl;
}

-- the states of the slots, one by one the same
pub run_alike : (done : List Step) (h : List Event) (o : Told) (queue : List JobName) (hand : ℕ → Option JobName) (lone lone' : ℕ → Lone) → ((m : ℕ) → lone m ≡ lone' m) → IsAfter done h o queue hand lone → IsAfter done h o queue hand lone'
run_alike done h o queue hand lone lone' e a = record {
  slots = a.slots;
  shut_room = a.shut_room;
  refused_room = a.refused_room;
  wanted = a.wanted;
  happened = a.happened;
  turn = a.turn;
  below = λ m. subst (IsBelow m h) (e m) (a.below m);
  own = λ m. subst (IsOwnOf m) (e m) (a.own m);
  state = λ m n. sym (e m) ∙ a.state m n;
  steps = a.steps;
  turns = a.turns;
  shut = λ m. a.shut m ∙ ap (λ (s : Lone). reason_of s.mounted) (e m);
  for_slot = a.for_slot;
  whole = a.whole;
  retold = a.retold;
}

-- hands that hold the same
pub run_hands : (done : List Step) (h : List Event) (o : Told) (queue : List JobName) (hand hand' : ℕ → Option JobName) (lone : ℕ → Lone) → ((w : ℕ) → hand' w ≡ hand w) → IsAfter done h o queue hand lone → IsAfter done h o queue hand' lone
run_hands done h o queue hand hand' lone e a = record {
  slots = a.slots;
  shut_room = a.shut_room;
  refused_room = a.refused_room;
  wanted = a.wanted;
  happened = a.happened;
  turn = turn_hands h queue hand hand' a.turn e;
  below = a.below;
  own = a.own;
  state = a.state;
  steps = a.steps;
  turns = a.turns;
  shut = a.shut;
  for_slot = a.for_slot;
  whole = a.whole;
  retold = a.retold;
}

-- the events are those of what was told
pub happened_now : (done : List Step) (h : List Event) (o : Told) (queue : List JobName) (hand : ℕ → Option JobName) (lone : ℕ → Lone) → IsAfter done h o queue hand lone → IsAfter done (events done o.turns) o queue hand lone
happened_now done h o queue hand lone a = subst (λ g. IsAfter done g o queue hand lone) (sym a.happened) a

-- what was told is told rightly
pub after_tells : (done : List Step) (h : List Event) (o : Told) (queue : List JobName) (hand : ℕ → Option JobName) (lone : ℕ → Lone) → IsAfter done h o queue hand lone → Tells done o
after_tells done h o queue hand lone a = record {
  slots = a.slots;
  refused = a.wanted;
  alone = λ m n. record {
    turns = a.turns m n;
    shut = a.shut m ∙ ap (λ (s : Lone). reason_of s.mounted) (a.state m n ∙ ap (λ xs. after xs empty) (a.steps m n));
  };
  for_slot = λ m n. ap (orderly_for m) a.happened ∙ a.for_slot m n;
  whole = a.whole;
}

-- ---- one more step
and_false : (b : Bool) → (b && false) ≡ false
and_false true = refl
and_false false = refl

or_false : (b : Bool) → (b || false) ≡ b
or_false true = refl
or_false false = refl

or_true : (b : Bool) → (b || true) ≡ true
or_true true = refl
or_true false = refl

-- a fact of each of two lists
pub each_append : {A : Type 0} (P : A → Type 0) (xs ys : List A) → Each P xs → Each P ys → Each P (xs ++ ys)
each_append P [] ys p q = q
each_append P (x ∷ xs) ys p q = (p.0, each_append P xs ys p.1 q)

posted_own : (x : Step) (s : Lone) → suits x s ≡ true → Each (λ n. n.slot ≡ slot_of x → IsGiven (alone x s).slot n) (option_to_list (post_of x))
posted_own (Post name) s owed = (λ e. given_once_posted s name owed, tt)
posted_own other s owed = tt

posted_other : (x : Step) (m : ℕ) (s : Lone) → slot_of x ≢ m → Each (λ n. n.slot ≡ m → IsGiven s n) (option_to_list (post_of x))
posted_other (Post name) m s other = (λ e. absurd (other e), tt)
posted_other x m s other = tt

module _ (done : List Step) (h : List Event) (o : Told) (queue : List JobName) (hand : ℕ → Option JobName) (lone : ℕ → Lone) (x : Step) where
  slots_more : (t : Said) → map (λ u. u.slot) o.turns ≡ map slot_of done → t.slot ≡ slot_of x → map (λ u. u.slot) (o.turns ++ t ∷ []) ≡ map slot_of (done ++ x ∷ [])
  slots_more t slots e =
      map-append (λ u. u.slot) o.turns (t ∷ []) ∙ ap (λ l. l ++ t.slot ∷ []) slots ∙ ap (λ n. map slot_of done ++ n ∷ []) e ∙ sym (map-append slot_of done (x ∷ []))

  shut_own : (t : Said) (reason : Option Reason) → length o.shut ≡ 16 → slot_of x < 16 → t.slot ≡ slot_of x → slice_index_or (slice_set o.shut t.slot reason) (slot_of x) None ≡ reason
  shut_own t reason room small e =
      let within : slot_of x < length o.shut = omega (arith, room, small) in
      ap (λ k. slice_index_or (slice_set o.shut k reason) (slot_of x) None) e ∙ get_or-set_same o.shut (slot_of x) reason None within

  shut_other : (t : Said) (reason : Option Reason) (m : ℕ) → slot_of x ≢ m → t.slot ≡ slot_of x → slice_index_or (slice_set o.shut t.slot reason) m None ≡ slice_index_or o.shut m None
  shut_other t reason m other e = get_or-set_other o.shut t.slot m reason None (λ same. other (sym e ∙ sym same))

  -- ---- a step that may not come
  -- it does not fit
  pub breaks_fits : IsAfter done h o queue hand lone → is_refused (slot_of x) o ≡ false → can_step queue hand (lone (slot_of x)) x ≡ false → fits h x ≡ false
  breaks_fits a n c = fits_is h queue hand (lone (slot_of x)) x a.turn (a.below (slot_of x)) (a.state (slot_of x) n) ∙ c

  -- and the list with it is not orderly
  pub breaks_whole : IsAfter done h o queue hand lone → ((m : ℕ) → is_refused m o ≡ false) → can_step queue hand (lone (slot_of x)) x ≡ false → orderly (done ++ x ∷ []) ≡ false
  breaks_whole a none c =
      orderly_more [] done x ∙ ap (λ b. orderly done && b) (ap (λ g. fits g x) (a.retold none) ∙ breaks_fits a (none (slot_of x)) c) ∙ and_false (orderly done)

  -- ---- a step that was refused memory, and changed nothing else
  module _ (a : IsAfter done h o queue hand lone) (t : Said) (reason : Option Reason) (small : slot_of x < 16) (here : t.slot ≡ slot_of x) where
    set_there : (m : ℕ) → slot_of x ≡ m → is_refused m (told_refused o t reason) ≡ true
    set_there m same =
        let within : slot_of x < length o.refused = omega (arith, a.refused_room, small) in
        ap (λ k. slice_index_or (slice_set o.refused t.slot true) k false) (sym same) ∙ ap (λ k. slice_index_or (slice_set o.refused k true) (slot_of x) false) here
        ∙ get_or-set_same o.refused (slot_of x) true false within

    pub still : (m : ℕ) → is_refused m (told_refused o t reason) ≡ false → (slot_of x ≢ m) × (is_refused m o ≡ false)
    still m n =
        elim (cases_eq (slot_of x) m) [
          | inl same ↦ absurd (false≢true (sym n ∙ set_there m same))
          | inr other ↦ (other, sym (get_or-set_other o.refused t.slot m true false (λ same. other (sym here ∙ sym same))) ∙ n)
        ]

    -- what holds after it
    pub after_refused : (hand' : ℕ → Option JobName) → is_no_memory t.reply ≡ true → ((w : ℕ) → hand' w ≡ hand w) → reason ≡ reason_of (lone (slot_of x)).mounted
        → IsAfter (done ++ x ∷ []) h (told_refused o t reason) queue hand' lone
    after_refused hand' refused hands why = record {
      slots = slots_more t a.slots here;
      shut_room = length-set o.shut t.slot reason ∙ a.shut_room;
      refused_room = length-set o.refused t.slot true ∙ a.refused_room;
      wanted = by_slot (slot_of x) (λ m. is_refused m (told_refused o t reason) ≡ wanted_memory m (o.turns ++ t ∷ []))
          (set_there (slot_of x) refl ∙ sym (wanted_own o.turns t (slot_of x) here ∙ ap (λ b. wanted_memory (slot_of x) o.turns || b) refused ∙ or_true (wanted_memory (slot_of x) o.turns)))
          (λ m other.
          get_or-set_other o.refused t.slot m true false (λ same. other (sym here ∙ sym same)) ∙ a.wanted m
          ∙ sym (wanted_other o.turns t m (λ same. other (sym here ∙ same))));
      happened =
          events_more done o.turns x t a.slots ∙ ap (λ b. events done o.turns ++ (if b then [] else record { step = x; reply = t.reply } ∷ [])) refused
          ∙ append-nil (events done o.turns) ∙ a.happened;
      turn = turn_hands h queue hand hand' a.turn hands;
      below = a.below;
      own = a.own;
      state = λ m n. a.state m (still m n).1;
      steps = λ m n. a.steps m (still m n).1 ∙ sym (strike_other done x m (still m n).0);
      turns = λ m n.
          turns_other o.turns t m (λ same. (still m n).0 (sym here ∙ same)) ∙ a.turns m (still m n).1 ∙ ap alone_run (sym (strike_other done x m (still m n).0));
      shut = by_slot (slot_of x) (λ m. shut_in m (told_refused o t reason) ≡ reason_of (lone m).mounted)
          (shut_own t reason a.shut_room small here ∙ why)
          (λ m other. shut_other t reason m other here ∙ a.shut m);
      for_slot = λ m n. a.for_slot m (still m n).1;
      whole = λ none. absurd ((still (slot_of x) (none (slot_of x))).0 refl);
      retold = λ none. absurd ((still (slot_of x) (none (slot_of x))).0 refl);
    }

  -- ---- a step that was taken
  module _ (a : IsAfter done h o queue hand lone) (t : Said) (lone' : ℕ → Lone) (said : t ≡ said_of x (alone x (lone (slot_of x)))) (can : can_step queue hand (lone (slot_of x)) x ≡ true)
      (now : lone' (slot_of x) ≡ (alone x (lone (slot_of x))).slot) (others : (m : ℕ) → slot_of x ≢ m → lone' m ≡ lone m) where
    parts : (keeps_turn queue hand x ≡ true) × (suits x (lone (slot_of x)) ≡ true)
    parts = and_parts (keeps_turn queue hand x) (suits x (lone (slot_of x))) can

    common : keeps_common h x ≡ true
    common = common_step h queue hand (lone (slot_of x)) x a.turn (a.below (slot_of x)) parts.0 parts.1

    fitting : is_refused (slot_of x) o ≡ false → fits h x ≡ true
    fitting n = fits_is h queue hand (lone (slot_of x)) x a.turn (a.below (slot_of x)) (a.state (slot_of x) n) ∙ can

    below_posted : (m : ℕ) (s : Lone) → Each (λ n. n.slot ≡ m → IsGiven s n) (posted h) → Each (λ n. n.slot ≡ m → IsGiven s n) (option_to_list (post_of x)) → IsBelow m (h ++ record { step = x; reply = t.reply } ∷ []) s
    below_posted m s old new =
        subst (Each (λ n. n.slot ≡ m → IsGiven s n)) (sym (one_more (λ e. post_of e.step) h (record { step = x; reply = t.reply })))
        (each_append (λ n. n.slot ≡ m → IsGiven s n) (posted h) (option_to_list (post_of x)) old new)

    later : IsLater (slot_of x) (lone (slot_of x)) (alone x (lone (slot_of x))).slot
    later = later_step [] x (lone (slot_of x)) (a.own (slot_of x))

    below_own : IsBelow (slot_of x) (h ++ record { step = x; reply = t.reply } ∷ []) (lone' (slot_of x))
    below_own =
        subst (IsBelow (slot_of x) (h ++ record { step = x; reply = t.reply } ∷ [])) (sym now)
        (below_posted (slot_of x) (alone x (lone (slot_of x))).slot
        (each_map (λ n. n.slot ≡ slot_of x → IsGiven (lone (slot_of x)) n) (λ n. n.slot ≡ slot_of x → IsGiven (alone x (lone (slot_of x))).slot n) (posted h) (λ n given e. later.given n (given e)) (a.below (slot_of x)))
        (posted_own x (lone (slot_of x)) parts.1))

    below_other : (m : ℕ) → slot_of x ≢ m → IsBelow m (h ++ record { step = x; reply = t.reply } ∷ []) (lone' m)
    below_other m other =
        subst (IsBelow m (h ++ record { step = x; reply = t.reply } ∷ [])) (sym (others m other))
        (below_posted m (lone m) (a.below m) (posted_other x m (lone m) other))

    own_steps : steps_of (of_slot (slot_of x) (h ++ record { step = x; reply = t.reply } ∷ [])) ≡ steps_of (of_slot (slot_of x) h) ++ x ∷ []
    own_steps =
        ap steps_of (of_slot_own h (record { step = x; reply = t.reply })) ∙ map-append (λ e. e.step) (of_slot (slot_of x) h) (record { step = x; reply = t.reply } ∷ [])

    state_own : is_refused (slot_of x) o ≡ false → lone' (slot_of x) ≡ state_of (slot_of x) (h ++ record { step = x; reply = t.reply } ∷ [])
    state_own n =
        now ∙ ap (λ s. (alone x s).slot) (a.state (slot_of x) n) ∙ sym (after_more (steps_of (of_slot (slot_of x) h)) x empty) ∙ ap (λ xs. after xs empty) (sym own_steps)

    state_other : (m : ℕ) → slot_of x ≢ m → is_refused m o ≡ false → lone' m ≡ state_of m (h ++ record { step = x; reply = t.reply } ∷ [])
    state_other m other n =
        others m other ∙ a.state m n ∙ ap (λ g. after (steps_of g) empty) (sym (of_slot_other h (record { step = x; reply = t.reply }) m other))

    turns_here : t.slot ≡ slot_of x → is_refused (slot_of x) o ≡ false → turns_of (slot_of x) (o.turns ++ t ∷ []) ≡ alone_run (strike (done ++ x ∷ []) (slot_of x))
    turns_here here n =
        let s_is : lone (slot_of x) ≡ after (strike done (slot_of x)) empty = a.state (slot_of x) n ∙ ap (λ xs. after xs empty) (a.steps (slot_of x) n) in
        turns_own o.turns t (slot_of x) here ∙ ap (λ l. l ++ t ∷ []) (a.turns (slot_of x) n)
        ∙ ap (λ u. alone_run (strike done (slot_of x)) ++ u ∷ []) (said ∙ ap (λ s. said_of x (alone x s)) s_is)
        ∙ sym (alone_more (strike done (slot_of x)) x empty) ∙ ap alone_run (sym (strike_own done x))

    fits_own : is_refused (slot_of x) o ≡ false → fits_for (slot_of x) h x ≡ true
    fits_own n = ap (λ b. keeps_common h x && (if b then keeps_own (slot_of x) h x else true)) (eq-eqb (slot_of x) (slot_of x) refl) ∙ fitting n

    fits_other : (m : ℕ) → slot_of x ≢ m → fits_for m h x ≡ true
    fits_other m other =
        ap (λ b. keeps_common h x && (if b then keeps_own m h x else true)) (ne_eqb (slot_of x) m other) ∙ ap (λ b. b && true) common

    orderly_then : (m : ℕ) → fits_for m h x ≡ true → orderly_for m h ≡ true → orderly_for m (h ++ record { step = x; reply = t.reply } ∷ []) ≡ true
    orderly_then m fit old =
        orderly_for_more m [] h (record { step = x; reply = t.reply }) ∙ ap (λ b. b && fits_for m h x) old ∙ fit

    retold_more : ((m : ℕ) → is_refused m o ≡ false) → told_from [] (done ++ x ∷ []) ≡ h ++ record { step = x; reply = t.reply } ∷ []
    retold_more none =
        told_more [] done x ∙ ap (λ g. g ++ told g x ∷ []) (a.retold none)
        ∙ ap (λ r. h ++ record { step = x; reply = r } ∷ []) (sym (ap (λ (u : Said). u.reply) said ∙ ap (λ s. (alone x s).reply) (a.state (slot_of x) (none (slot_of x)))))

    -- what holds after it
    pub after_taken : (hand' : ℕ → Option JobName) (reason : Option Reason) → slot_of x < 16 → is_no_memory t.reply ≡ false → ((w : ℕ) → hand' w ≡ hand_after x t.reply w (hand w)) → reason ≡ reason_of (lone' (slot_of x)).mounted
        → IsAfter (done ++ x ∷ []) (h ++ record { step = x; reply = t.reply } ∷ []) (told_taken o t reason) (queue_after x queue) hand' lone'
    after_taken hand' reason small went hands why =
        let here : t.slot ≡ slot_of x = ap (λ (u : Said). u.slot) said in
        record {
          slots = slots_more t a.slots here;
          shut_room = length-set o.shut t.slot reason ∙ a.shut_room;
          refused_room = a.refused_room;
          wanted = by_slot (slot_of x) (λ m. is_refused m o ≡ wanted_memory m (o.turns ++ t ∷ []))
              (a.wanted (slot_of x) ∙ sym (wanted_own o.turns t (slot_of x) here ∙ ap (λ b. wanted_memory (slot_of x) o.turns || b) went ∙ or_false (wanted_memory (slot_of x) o.turns)))
              (λ m other. a.wanted m ∙ sym (wanted_other o.turns t m (λ same. other (sym here ∙ same))));
          happened =
              events_more done o.turns x t a.slots ∙ ap (λ b. events done o.turns ++ (if b then [] else record { step = x; reply = t.reply } ∷ [])) went
              ∙ ap (λ g. g ++ record { step = x; reply = t.reply } ∷ []) a.happened;
          turn = turn_hands _ (queue_after x queue) (λ w. hand_after x t.reply w (hand w)) hand' (turn_step h queue hand x t.reply a.turn common parts.0) hands;
          below = by_slot (slot_of x) (λ m. IsBelow m (h ++ record { step = x; reply = t.reply } ∷ []) (lone' m)) below_own below_other;
          own = by_slot (slot_of x) (λ m. IsOwnOf m (lone' m)) (subst (IsOwnOf (slot_of x)) (sym now) later.own) (λ m other. subst (IsOwnOf m) (sym (others m other)) (a.own m));
          state = by_slot (slot_of x) (λ m. is_refused m o ≡ false → lone' m ≡ state_of m (h ++ record { step = x; reply = t.reply } ∷ [])) state_own state_other;
          steps = by_slot (slot_of x) (λ m. is_refused m o ≡ false → steps_of (of_slot m (h ++ record { step = x; reply = t.reply } ∷ [])) ≡ strike (done ++ x ∷ []) m)
              (λ n. own_steps ∙ ap (λ l. l ++ x ∷ []) (a.steps (slot_of x) n) ∙ sym (strike_own done x))
              (λ m other n. ap steps_of (of_slot_other h (record { step = x; reply = t.reply }) m other) ∙ a.steps m n ∙ sym (strike_other done x m other));
          turns = by_slot (slot_of x) (λ m. is_refused m o ≡ false → turns_of m (o.turns ++ t ∷ []) ≡ alone_run (strike (done ++ x ∷ []) m))
              (turns_here here)
              (λ m other n. turns_other o.turns t m (λ same. other (sym here ∙ same)) ∙ a.turns m n ∙ ap alone_run (sym (strike_other done x m other)));
          shut = by_slot (slot_of x) (λ m. shut_in m (told_taken o t reason) ≡ reason_of (lone' m).mounted)
              (shut_own t reason a.shut_room small here ∙ why)
              (λ m other. shut_other t reason m other here ∙ a.shut m ∙ ap (λ (s : Lone). reason_of s.mounted) (sym (others m other)));
          for_slot = by_slot (slot_of x) (λ m. is_refused m o ≡ false → orderly_for m (h ++ record { step = x; reply = t.reply } ∷ []) ≡ true)
              (λ n. orderly_then (slot_of x) (fits_own n) (a.for_slot (slot_of x) n))
              (λ m other n. orderly_then m (fits_other m other) (a.for_slot m n));
          whole = λ none. orderly_more [] done x ∙ ap (λ b. b && fits (told_from [] done) x) (a.whole none) ∙ ap (λ g. fits g x) (a.retold none) ∙ fitting (none (slot_of x));
          retold = retold_more;
        }
