-- The queue of posted names and the hands of the workers are what the history says.
use Rattle.std.proofs.Common.{◌≡◌, ◌∙◌, ◌⊎◌, ◌++◌, ◌∷◌, Bool, List, None, Option, Some, [], ap, drop, false, inl, inr, refl, sym, true, ℕ}
use Rattle.std.proofs.lemmas.Bool.{and_parts, cases_Bool, eqb-true, false≢true, not-true}
use Rattle.std.proofs.lemmas.List.{append-nil}
use Rattle.std.proofs.lemmas.List.Elements.{filter_map-append}
use Rattle.std.proofs.Common.{append_assoc}
use Rattle.std.specs.List.{cons_option}
use Rattle.std.specs.Prelude.{filter, filter_map, if◌then◌else◌, is_none, not, option_to_list, ◌&&◌, ◌==◌}
use Rattle.xt_core.proofs.NameLemmas.{among_first, among_more, apart_from, distinct_more, filter_rest, is_distinct, same_names}
use Rattle.xt_base.specs.Order.{Event, finish_by, finished_by, is_among, is_first, is_nothing, keeps_common, post_of, posted, take_by, take_of, taken, taken_by, unfinished, waiting}
use Rattle.xt_core.specs.Turns.{hand_after, held_in, keeps_turn, queue_after}
use Rattle.xt_base.specs.declared.names.JobName.{JobName}
use Rattle.xt_base.specs.declared.steps.Reply.{Reply}
use Rattle.xt_base.specs.declared.steps.Step.{Step}
use Rattle.xt_base.specs.declared.steps.Step.TheVariants.{Begin, Call, End, Flush, Mount, Peek, Post, Show, Take}

-- what was posted was taken or stands in the queue, in order; what a worker took it has finished or has in hand; and no name was posted or taken twice
pub record IsTurn (h : List Event) (queue : List JobName) (hand : ℕ → Option JobName) : Type 0 where
  pub posts : posted h ≡ taken h ++ queue
  pub takes : (w : ℕ) → taken_by w h ≡ finished_by w h ++ held_in hand w
  pub new : is_distinct (posted h) ≡ true
  pub once : (w : ℕ) → is_distinct (taken_by w h) ≡ true

-- before any step
pub turn_none : IsTurn [] [] (λ w. None)
turn_none = record { posts = refl; takes = λ w. refl; new = refl; once = λ w. refl }

-- hands that hold the same
pub turn_hands : (h : List Event) (queue : List JobName) (hand hand' : ℕ → Option JobName) → IsTurn h queue hand → ((w : ℕ) → hand' w ≡ hand w) → IsTurn h queue hand'
turn_hands h queue hand hand' t e = record { posts = t.posts; takes = λ w. t.takes w ∙ ap (λ o. finished_by w h ++ option_to_list o) (sym (e w)); new = t.new; once = t.once }

-- ---- the names of a history are the queue and the hands
-- the waiting names are the queue
pub waiting_is : (h : List Event) (queue : List JobName) (hand : ℕ → Option JobName) → IsTurn h queue hand → waiting h ≡ queue
waiting_is h queue hand t =
    ap (filter (λ n. not (is_among (taken h) n))) t.posts
    ∙ filter_rest (taken h) queue (ap is_distinct (sym t.posts) ∙ t.new)

-- a worker's unfinished names are what it has in hand
pub unfinished_is : (h : List Event) (queue : List JobName) (hand : ℕ → Option JobName) (w : ℕ) → IsTurn h queue hand → unfinished w h ≡ held_in hand w
unfinished_is h queue hand w t =
    ap (filter (λ n. not (is_among (finished_by w h) n))) (t.takes w)
    ∙ filter_rest (finished_by w h) (held_in hand w) (ap is_distinct (sym (t.takes w)) ∙ t.once w)

take_by_case : (w : ℕ) (x : Step) → (take_by w x ≡ None) ⊎ (take_by w x ≡ take_of x)
take_by_case w (Take worker name) =
    elim (cases_Bool (worker == w)) [
      | inl same ↦ inr (ap (λ b. if b then Some name else None) same)
      | inr other ↦ inl (ap (λ b. if b then Some name else None) other)
    ]
take_by_case w other = inl refl

-- what a worker took was taken
pub taken_among : (w : ℕ) (h : List Event) (n : JobName) → is_among (taken_by w h) n ≡ true → is_among (taken h) n ≡ true
taken_among w h n there = among_more (λ e. take_by w e.step) (λ e. take_of e.step) (λ e. take_by_case w e.step) h n there

-- ---- one more event
-- what a reading gives of one more
pub one_more : {X : Type 0} (f : X → Option JobName) (xs : List X) (x : X) → filter_map f (xs ++ x ∷ []) ≡ filter_map f xs ++ option_to_list (f x)
one_more f xs x = filter_map-append f xs (x ∷ []) ∙ ap (λ l. filter_map f xs ++ l) (single (f x)) where
  single : (o : Option JobName) → cons_option o [] ≡ option_to_list o
  single None = refl
  single (Some n) = refl

moved : (t q p q' : List JobName) → q ++ p ≡ q' → t ++ q ++ p ≡ t ++ q'
moved t q p q' e = append_assoc t q p ∙ ap (λ l. t ++ l) e

-- one more event, said by what it posts, takes and finishes
pub turn_more : (h : List Event) (queue : List JobName) (hand : ℕ → Option JobName) (e : Event) (queue' : List JobName) (hand' : ℕ → Option JobName) → IsTurn h queue hand
    → queue ++ option_to_list (post_of e.step) ≡ option_to_list (take_of e.step) ++ queue'
    → ((w : ℕ) → held_in hand w ++ option_to_list (take_by w e.step) ≡ option_to_list (finish_by w e.reply e.step) ++ held_in hand' w)
    → is_distinct (posted h ++ option_to_list (post_of e.step)) ≡ true
    → ((w : ℕ) → is_distinct (taken_by w h ++ option_to_list (take_by w e.step)) ≡ true)
    → IsTurn (h ++ e ∷ []) queue' hand'
turn_more h queue hand e queue' hand' t posts takes new once = record {
  posts =
      one_more (λ e. post_of e.step) h e ∙ ap (λ l. l ++ option_to_list (post_of e.step)) t.posts
      ∙ moved (taken h) queue (option_to_list (post_of e.step)) (option_to_list (take_of e.step) ++ queue') posts
      ∙ sym (append_assoc (taken h) (option_to_list (take_of e.step)) queue') ∙ ap (λ l. l ++ queue') (sym (one_more (λ e. take_of e.step) h e));
  takes = λ w.
      one_more (λ e. take_by w e.step) h e ∙ ap (λ l. l ++ option_to_list (take_by w e.step)) (t.takes w)
      ∙ moved (finished_by w h) (held_in hand w) (option_to_list (take_by w e.step)) (option_to_list (finish_by w e.reply e.step) ++ held_in hand' w) (takes w)
      ∙ sym (append_assoc (finished_by w h) (option_to_list (finish_by w e.reply e.step)) (held_in hand' w)) ∙ ap (λ l. l ++ held_in hand' w) (sym (one_more (λ e. finish_by w e.reply e.step) h e));
  new = ap is_distinct (one_more (λ e. post_of e.step) h e) ∙ new;
  once = λ w. ap is_distinct (one_more (λ e. take_by w e.step) h e) ∙ once w;
}

-- the queue and the hands after one more step
abbrev pub IsTurnAfter : List Event → List JobName → (ℕ → Option JobName) → Step → Reply → Type 0
IsTurnAfter h queue hand x r = IsTurn (h ++ record { step = x; reply = r } ∷ []) (queue_after x queue) (λ w. hand_after x r w (hand w))

-- a step that is on no name
turn_still : (h : List Event) (queue : List JobName) (hand : ℕ → Option JobName) (e : Event) → IsTurn h queue hand
    → post_of e.step ≡ None → take_of e.step ≡ None → ((w : ℕ) → take_by w e.step ≡ None) → ((w : ℕ) → finish_by w e.reply e.step ≡ None) → IsTurn (h ++ e ∷ []) queue hand
turn_still h queue hand e t p k tb fb =
    turn_more h queue hand e queue hand t
    (ap (λ o. queue ++ option_to_list o) p ∙ append-nil queue ∙ ap (λ o. option_to_list o ++ queue) (sym k))
    (λ w. ap (λ o. held_in hand w ++ option_to_list o) (tb w) ∙ append-nil (held_in hand w) ∙ ap (λ o. option_to_list o ++ held_in hand w) (sym (fb w)))
    (ap (λ o. is_distinct (posted h ++ option_to_list o)) p ∙ ap is_distinct (append-nil (posted h)) ∙ t.new)
    (λ w. ap (λ o. is_distinct (taken_by w h ++ option_to_list o)) (tb w) ∙ ap is_distinct (append-nil (taken_by w h)) ∙ t.once w)

turn_post : (h : List Event) (queue : List JobName) (hand : ℕ → Option JobName) (name : JobName) (r : Reply) → IsTurn h queue hand
    → is_among (posted h) name ≡ false → IsTurn (h ++ record { step = Post name; reply = r } ∷ []) (queue ++ name ∷ []) hand
turn_post h queue hand name r t new =
    turn_more h queue hand (record { step = Post name; reply = r }) (queue ++ name ∷ []) hand t refl
    (λ w. append-nil (held_in hand w))
    (distinct_more (posted h) name t.new new)
    (λ w. ap is_distinct (append-nil (taken_by w h)) ∙ t.once w)

front : (name : JobName) (queue : List JobName) → is_first name queue ≡ true → queue ≡ name ∷ drop 1 queue
front name [] h = absurd (false≢true h)
front name (x ∷ xs) h = ap (λ n. n ∷ xs) (same_names x name h)

free : (o : Option JobName) → is_none o ≡ true → o ≡ None
free None h = refl
free (Some n) h = absurd (false≢true h)

taken_in_hand : (b : Bool) (o : Option JobName) (name : JobName) → (b ≡ true → o ≡ None)
    → option_to_list o ++ option_to_list (if b then Some name else None) ≡ option_to_list (if b then Some name else o)
taken_in_hand true o name h = ap (λ o. option_to_list o ++ name ∷ []) (h refl)
taken_in_hand false o name h = append-nil (option_to_list o)

taken_once : (b : Bool) (names : List JobName) (name : JobName) → is_distinct names ≡ true → is_among names name ≡ false → is_distinct (names ++ option_to_list (if b then Some name else None)) ≡ true
taken_once true names name d new = distinct_more names name d new
taken_once false names name d new = ap is_distinct (append-nil names) ∙ d

not_taken : (b : Bool) → (b ≡ true → ⊥) → b ≡ false
not_taken true h = absurd (h refl)
not_taken false h = refl

turn_take : (h : List Event) (queue : List JobName) (hand : ℕ → Option JobName) (worker : ℕ) (name : JobName) (r : Reply) → IsTurn h queue hand
    → is_first name queue ≡ true → is_none (hand worker) ≡ true
    → IsTurn (h ++ record { step = Take worker name; reply = r } ∷ []) (drop 1 queue) (λ w. if worker == w then Some name else hand w)
turn_take h queue hand worker name r t first none =
    let there : is_among queue name ≡ true = ap (λ q. is_among q name) (front name queue first) ∙ among_first name (drop 1 queue) in
    let new : is_among (taken h) name ≡ false = apart_from (taken h) queue name (ap is_distinct (sym t.posts) ∙ t.new) there in
    turn_more h queue hand (record { step = Take worker name; reply = r }) (drop 1 queue) (λ w. if worker == w then Some name else hand w) t
    (append-nil queue ∙ front name queue first)
    (λ w. taken_in_hand (worker == w) (hand w) name (λ same. ap hand (sym (eqb-true worker w same)) ∙ free (hand worker) none))
    (ap is_distinct (append-nil (posted h)) ∙ t.new)
    (λ w. taken_once (worker == w) (taken_by w h) name (t.once w) (not_taken (is_among (taken_by w h) name) (λ was. false≢true (sym new ∙ taken_among w h name was))))

held : (o : Option JobName) (name : JobName) → is_first name (option_to_list o) ≡ true → o ≡ Some name
held None name h = absurd (false≢true h)
held (Some n) name h = ap Some (same_names n name h)

finished_from_hand : (b : Bool) (o : Option JobName) (name : JobName) → (b ≡ true → o ≡ Some name)
    → option_to_list o ++ [] ≡ option_to_list (if b then Some name else None) ++ option_to_list (if b then None else o)
finished_from_hand true o name h = append-nil (option_to_list o) ∙ ap option_to_list (h refl)
finished_from_hand false o name h = append-nil (option_to_list o)

-- a step by which a worker may finish its job, said by the test whether it does
turn_finish : (h : List Event) (queue : List JobName) (hand : ℕ → Option JobName) (e : Event) (name : JobName) (test : ℕ → Bool) → IsTurn h queue hand
    → post_of e.step ≡ None → take_of e.step ≡ None → ((w : ℕ) → take_by w e.step ≡ None) → ((w : ℕ) → finish_by w e.reply e.step ≡ (if test w then Some name else None))
    → ((w : ℕ) → test w ≡ true → hand w ≡ Some name)
    → IsTurn (h ++ e ∷ []) queue (λ w. if test w then None else hand w)
turn_finish h queue hand e name test t p k tb fb has =
    turn_more h queue hand e queue (λ w. if test w then None else hand w) t
    (ap (λ o. queue ++ option_to_list o) p ∙ append-nil queue ∙ ap (λ o. option_to_list o ++ queue) (sym k))
    (λ w. ap (λ o. held_in hand w ++ option_to_list o) (tb w) ∙ finished_from_hand (test w) (hand w) name (has w) ∙ ap (λ o. option_to_list o ++ option_to_list (if test w then None else hand w)) (sym (fb w)))
    (ap (λ o. is_distinct (posted h ++ option_to_list o)) p ∙ ap is_distinct (append-nil (posted h)) ∙ t.new)
    (λ w. ap (λ o. is_distinct (taken_by w h ++ option_to_list o)) (tb w) ∙ ap is_distinct (append-nil (taken_by w h)) ∙ t.once w)

in_hand : (hand : ℕ → Option JobName) (worker w : ℕ) (name : JobName) → is_first name (held_in hand worker) ≡ true → (worker == w) ≡ true → hand w ≡ Some name
in_hand hand worker w name first same = ap hand (sym (eqb-true worker w same)) ∙ held (hand worker) name first

-- a step that the common part and the turn let come
pub turn_step : (h : List Event) (queue : List JobName) (hand : ℕ → Option JobName) (x : Step) (r : Reply) → IsTurn h queue hand
    → keeps_common h x ≡ true → keeps_turn queue hand x ≡ true → IsTurnAfter h queue hand x r
turn_step h queue hand (Mount slot log_bytes blocks size) r t common turn = turn_still h queue hand _ t refl refl (λ w. refl) (λ w. refl)
turn_step h queue hand (Call slot life request answer) r t common turn = turn_still h queue hand _ t refl refl (λ w. refl) (λ w. refl)
turn_step h queue hand (Post name) r t common turn = turn_post h queue hand name r t (not-true (is_among (posted h) name) common)
turn_step h queue hand (Take worker name) r t common turn =
    let both = and_parts (is_first name queue) (is_none (hand worker)) turn in
    turn_take h queue hand worker name r t both.0 both.1
turn_step h queue hand (Begin worker name) r t common turn =
    turn_finish h queue hand _ name (λ w. (worker == w) && is_nothing r) t refl refl (λ w. refl) (λ w. refl)
    (λ w e. in_hand hand worker w name turn (and_parts (worker == w) (is_nothing r) e).0)
turn_step h queue hand (End worker name answers) r t common turn =
    turn_finish h queue hand _ name (λ w. worker == w) t refl refl (λ w. refl) (λ w. refl) (λ w e. in_hand hand worker w name turn e)
turn_step h queue hand (Flush worker name answers) r t common turn =
    turn_finish h queue hand _ name (λ w. worker == w) t refl refl (λ w. refl) (λ w. refl) (λ w e. in_hand hand worker w name turn e)
turn_step h queue hand (Show slot) r t common turn = turn_still h queue hand _ t refl refl (λ w. refl) (λ w. refl)
turn_step h queue hand (Peek slot) r t common turn = turn_still h queue hand _ t refl refl (λ w. refl) (λ w. refl)
