-- The host as a reader sees it: its slots, one queue of names, and the hands of its workers; and what one step makes of it.
use Rattle.std.specs.List.{list_any}
use Rattle.std.specs.Prelude.{Bool, List, MatchBool, None, Option, [], filter, is_none, not, slice_index_or, true, ℕ, ◌&&◌, ◌++◌, ◌<◌, ◌==◌, ◌∷◌, ◌≡◌, ◌≢◌}
use Rattle.xt_base.specs.Alone.{alone, step_may_want}
use Rattle.xt_base.specs.Isolation.{is_no_memory}
use Rattle.xt_base.specs.Order.{Event, is_first}
use Rattle.xt_base.specs.State.{Lone, empty}
use Rattle.xt_base.specs.Steps.{slot_of}
use Rattle.xt_base.specs.declared.names.JobName.{JobName}
use Rattle.xt_base.specs.declared.sizes.TheConstants.{SLOTS}
use Rattle.xt_base.specs.declared.steps.Reply.{Reply}
use Rattle.xt_base.specs.declared.steps.Step.{Step}
use Rattle.xt_base.specs.declared.steps.Step.TheVariants.{Begin, End, Flush, Take}
use Rattle.xt_core.specs.Cells.{Cell}
use Rattle.xt_core.specs.InPlace.{states_of}
use Rattle.xt_core.specs.Turns.{can_step, hand_after, queue_after}

-- sixteen slots, each at the place of its number; the names that were posted and not taken; and what each worker took and has not finished
pub record Host : Type 0 where
  pub cells : List Cell
  pub queue : List JobName
  pub hands : List (Option JobName)

-- the state of a slot
abbrev pub lone_of : Host → ℕ → Lone
lone_of host m = states_of host.cells m

-- what a worker has in hand
abbrev pub hand_at : Host → ℕ → Option JobName
hand_at host w = slice_index_or host.hands w None

-- no slot was ever mounted, no name was posted, and all workers are free
pub record IsNew (host : Host) : Type 0 where
  pub slots : (m : ℕ) → lone_of host m ≡ empty
  pub queue : host.queue ≡ []
  pub hands : (w : ℕ) → hand_at host w ≡ None

-- whether a step may come: by the front of the queue and its worker's hand, and by its own slot's state
abbrev pub may_come : Host → Step → Bool
may_come host x = can_step host.queue (hand_at host) (lone_of host (slot_of x)) x

-- a step was answered ENOMEM, which it may want for its slot's own reply, and nothing changed
pub record IsKept (x : Step) (new old : Host) : Type 0 where
  pub slots : (m : ℕ) → lone_of new m ≡ lone_of old m
  pub queue : new.queue ≡ old.queue
  pub hands : (w : ℕ) → hand_at new w ≡ hand_at old w
  pub want : step_may_want x (alone x (lone_of old (slot_of x))).reply ≡ true

-- a step was taken: its reply and what it makes of its slot are those of the slot alone; no other slot changed; the queue and the hands follow
pub record IsTaken (x : Step) (r : Reply) (new old : Host) : Type 0 where
  pub reply : r ≡ (alone x (lone_of old (slot_of x))).reply
  pub slot : lone_of new (slot_of x) ≡ (alone x (lone_of old (slot_of x))).slot
  pub others : (m : ℕ) → slot_of x ≢ m → lone_of new m ≡ lone_of old m
  pub queue : new.queue ≡ queue_after x old.queue
  pub hands : (w : ℕ) → hand_at new w ≡ hand_after x r w (hand_at old w)

-- a step that might come was taken, or it was answered ENOMEM where it may want memory, and nothing changed
pub record IsStepped (x : Step) (r : Reply) (new old : Host) : Type 0 where
  pub may : may_come old x ≡ true
  pub went : MatchBool (is_no_memory r) (IsKept x new old) (IsTaken x r new old)

-- ---- histories: steps with the replies that were given, ENOMEM among them
-- a history led to a host: at first it was new, and each step was taken or answered ENOMEM
pub data IsAfter : List Event → Host → Type 0 where
  none : (host : Host) → IsNew host → IsAfter [] host
  more : (h : List Event) (x : Step) (r : Reply) (new old : Host) → IsAfter h old → slot_of x < SLOTS → IsStepped x r new old → IsAfter (h ++ record { step = x; reply = r } ∷ []) new

-- the steps that happened: all but those answered ENOMEM
abbrev pub happened : List Event → List Event
happened h = filter (λ e. not (is_no_memory e.reply)) h

-- whether a step of a slot was answered ENOMEM
abbrev pub was_refused : ℕ → List Event → Bool
was_refused m h = list_any (λ e. (slot_of e.step == m) && is_no_memory e.reply) h

-- ---- what is shared
-- what a step can see of other slots' steps is alike: a take sees whether its name is in front and its worker is free, a job step its worker's
-- hand, and every other step nothing
abbrev pub IsSharedAlike : Step → Host → Host → Type 0
IsSharedAlike (Take worker name) a b = (is_first name a.queue ≡ is_first name b.queue) × (is_none (hand_at a worker) ≡ is_none (hand_at b worker))
IsSharedAlike (Begin worker name) a b = hand_at a worker ≡ hand_at b worker
IsSharedAlike (End worker name answers) a b = hand_at a worker ≡ hand_at b worker
IsSharedAlike (Flush worker name answers) a b = hand_at a worker ≡ hand_at b worker
IsSharedAlike other a b = Unit {0}
