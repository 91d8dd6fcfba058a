-- Orderly lists, said over the list and its replies, without any queue.
use Rattle.std.specs.List.{list_any}
use Rattle.std.specs.Prelude.{Bool, List, None, Option, Some, [], false, filter, filter_map, if◌then◌else◌, length, map, not, option_map, suc, true, ℕ, ◌&&◌, ◌++◌, ◌==◌, ◌∷◌}
use Rattle.xt_base.specs.Alone.{after, alone}
use Rattle.xt_base.specs.Calls.{asks}
use Rattle.xt_base.specs.Jobs.{fits_pieces, fits_plan, flight_pieces, flush_plan, is_begun, is_ckpt, is_owed_as, is_waiting}
use Rattle.xt_base.specs.State.{Lone, State, empty}
use Rattle.xt_base.specs.Steps.{slot_of}
use Rattle.xt_base.specs.declared.names.JobKind.{JobKind}
use Rattle.xt_base.specs.declared.names.JobName.{JobName}
use Rattle.xt_base.specs.declared.steps.Answer.{Answer}
use Rattle.xt_base.specs.declared.steps.Reply.{Reply}
use Rattle.xt_base.specs.declared.steps.Reply.TheVariants.{Nothing}
use Rattle.xt_base.specs.declared.steps.Request.{Request}
use Rattle.xt_base.specs.declared.steps.Step.{Step}
use Rattle.xt_base.specs.declared.steps.Step.TheVariants.{Begin, Call, End, Flush, Post, Take}

-- a step that was taken, with its reply
pub record Event : Type 0 where
  pub step : Step
  pub reply : Reply

-- the events of one slot
abbrev pub of_slot : ℕ → List Event → List Event
of_slot m h = filter (λ e. slot_of e.step == m) h

-- their steps
abbrev pub steps_of : List Event → List Step
steps_of h = map (λ e. e.step) h

-- ---- names
-- whether two kinds are one
abbrev pub same_kind : JobKind → JobKind → Bool
same_kind JobKind.Ckpt b = is_ckpt b
same_kind JobKind.Flush b = not (is_ckpt b)

-- whether two names are one
abbrev pub same_name : JobName → JobName → Bool
same_name a b = (a.slot == b.slot) && (a.life == b.life) && same_kind a.kind b.kind && (a.serial == b.serial)

-- whether a name is among some
abbrev pub is_among : List JobName → JobName → Bool
is_among names n = list_any (same_name n) names

-- whether it is the first of them
abbrev pub is_first : JobName → List JobName → Bool
is_first n [] = false
is_first n (x ∷ xs) = same_name x n

-- whether there is none
abbrev pub is_none_left : List JobName → Bool
is_none_left [] = true
is_none_left (x ∷ xs) = false

-- ---- what a history says of names
-- the name that a step posts
abbrev pub post_of : Step → Option JobName
post_of (Post name) = Some name
post_of other = None

-- the name that it takes
abbrev pub take_of : Step → Option JobName
take_of (Take worker name) = Some name
take_of other = None

-- the name that it takes for this worker
abbrev pub take_by : ℕ → Step → Option JobName
take_by w (Take worker name) = if worker == w then Some name else None
take_by w other = None

-- whether a begin found nothing to do
abbrev pub is_nothing : Reply → Bool
is_nothing Nothing = true
is_nothing other = false

-- a job ends by its end, its flush, or its begin answered nothing
abbrev pub finish_by : ℕ → Reply → Step → Option JobName
finish_by w r (Begin worker name) = if (worker == w) && is_nothing r then Some name else None
finish_by w r (End worker name answers) = if worker == w then Some name else None
finish_by w r (Flush worker name answers) = if worker == w then Some name else None
finish_by w r other = None

-- the names posted, taken, taken by a worker, and finished by it, in order
abbrev pub posted : List Event → List JobName
posted h = filter_map (λ e. post_of e.step) h

-- those taken
abbrev pub taken : List Event → List JobName
taken h = filter_map (λ e. take_of e.step) h

-- those taken by a worker
abbrev pub taken_by : ℕ → List Event → List JobName
taken_by w h = filter_map (λ e. take_by w e.step) h

-- those that it finished
abbrev pub finished_by : ℕ → List Event → List JobName
finished_by w h = filter_map (λ e. finish_by w e.reply e.step) h

-- the names posted that were not taken, in the order of posting
abbrev pub waiting : List Event → List JobName
waiting h = filter (λ n. not (is_among (taken h) n)) (posted h)

-- the names that a worker took and has not finished
abbrev pub unfinished : ℕ → List Event → List JobName
unfinished w h = filter (λ n. not (is_among (finished_by w h) n)) (taken_by w h)

-- ---- the common part: no name twice, the earliest first, and one job a worker
-- a post is new, a take is of the earliest name and by a free worker
abbrev pub keeps_common : List Event → Step → Bool
keeps_common h (Post name) = not (is_among (posted h) name)
keeps_common h (Take worker name) = is_first name (waiting h) && is_none_left (unfinished worker h)
keeps_common h other = true

-- ---- the part of a slot
-- a job step is by the worker that took the name and has not finished it
abbrev pub has_in_hand : (ℕ → List JobName) → Step → Bool
has_in_hand hand (Begin worker name) = is_first name (hand worker)
has_in_hand hand (End worker name answers) = is_first name (hand worker)
has_in_hand hand (Flush worker name answers) = is_first name (hand worker)
has_in_hand hand other = true

-- whether a device answered
abbrev pub is_answer : Answer → Bool
is_answer Answer.None = false
is_answer other = true

-- an answer is there exactly where the device is asked
abbrev pub is_there : Bool → Answer → Bool
is_there asked answer = if asked then is_answer answer else not (is_answer answer)

-- whether a mount of this life asks its device
abbrev pub of_life : ℕ → Request → State → Bool
of_life life request m = (m.life == life) && asks request m

-- whether a mount passes a test; an empty slot passes none
abbrev pub mount_is : (State → Bool) → Option State → Bool
mount_is test None = false
mount_is test (Some m) = test m

-- whether an answered content has the size of the mount's blocks
abbrev pub has_size : Answer → Option State → Bool
has_size (Answer.Content content) (Some m) = length content == m.form.size
has_size answer other = true

-- what the slot's own state asks: a post names a job that is owed, a begin and a flush come before any other step on their job,
-- an end after its begin, answers have their shape, and a read is answered exactly where the device is asked, a content of the mount's size
abbrev pub suits : Step → Lone → Bool
suits (Call slot life request answer) s = is_there (mount_is (of_life life request) s.mounted) answer && has_size answer s.mounted
suits (Post name) s = mount_is (is_owed_as name) s.mounted
suits (Begin worker name) s = is_ckpt name.kind && mount_is (is_waiting name) s.mounted
suits (End worker name answers) s = mount_is (λ m. is_begun name m && fits_pieces answers (length (flight_pieces m.items.flight))) s.mounted
suits (Flush worker name answers) s = not (is_ckpt name.kind) && mount_is (λ m. is_waiting name m && fits_plan answers (flush_plan m)) s.mounted
suits other s = true

-- the part of a slot
abbrev pub keeps_part : (ℕ → List JobName) → Lone → Step → Bool
keeps_part hand s x = has_in_hand hand x && suits x s

-- ---- orderly lists
-- the state of a slot after its own steps
abbrev pub state_of : ℕ → List Event → Lone
state_of m h = after (steps_of (of_slot m h)) empty

-- the same after a history
abbrev pub keeps_own : ℕ → List Event → Step → Bool
keeps_own m h x = keeps_part (λ w. unfinished w (of_slot m h)) (state_of m h) x

-- whether a step may come after a history
abbrev pub fits : List Event → Step → Bool
fits h x = keeps_common h x && keeps_own (slot_of x) h x

-- the step with the reply of its slot alone
abbrev pub told : List Event → Step → Event
told h x = record { step = x; reply = (alone x (state_of (slot_of x) h)).reply }

-- orderly after a history
abbrev pub orderly_from : List Event → List Step → Bool
orderly_from h [] = true
orderly_from h (x ∷ xs) = fits h x && orderly_from (h ++ told h x ∷ []) xs

-- a list is orderly
abbrev pub orderly : List Step → Bool
orderly steps = orderly_from [] steps

-- the place of the first step that breaks order
abbrev pub disorder_from : List Event → List Step → Option ℕ
disorder_from h [] = None
disorder_from h (x ∷ xs) = if fits h x then option_map suc (disorder_from (h ++ told h x ∷ []) xs) else Some 0

-- the same from the start; none where the list is orderly
abbrev pub first_disorder : List Step → Option ℕ
first_disorder steps = disorder_from [] steps

-- the history of a list whose replies are those of each slot alone
abbrev pub told_from : List Event → List Step → List Event
told_from h [] = h
told_from h (x ∷ xs) = told_from (h ++ told h x ∷ []) xs

-- ---- with the replies that were given: the common part for all, and the part of one slot
abbrev pub fits_for : ℕ → List Event → Step → Bool
fits_for m h x = keeps_common h x && (if slot_of x == m then keeps_own m h x else true)

-- the part of one slot, after a history
abbrev pub orderly_for_from : ℕ → List Event → List Event → Bool
orderly_for_from m h [] = true
orderly_for_from m h (e ∷ es) = fits_for m h e.step && orderly_for_from m (h ++ e ∷ []) es

-- the part of one slot and the common part
abbrev pub orderly_for : ℕ → List Event → Bool
orderly_for m h = orderly_for_from m [] h

-- ---- for rows of one slot: the same with the state carried along
abbrev pub in_order : List Event → Lone → List Step → Bool
in_order h s [] = true
in_order h s (x ∷ xs) = keeps_common h x && keeps_part (λ w. unfinished w h) s x && (let t = alone x s in in_order (h ++ record { step = x; reply = t.reply } ∷ []) t.slot xs)
