-- The queue of the posted names and the hands of the workers, as the code keeps them, and whether they let a step come.
use Rattle.std.specs.Prelude.{Bool, List, None, Option, Some, [], drop, if◌then◌else◌, is_none, option_to_list, slice_index_or, ℕ, ◌&&◌, ◌++◌, ◌==◌, ◌∷◌}
use Rattle.xt_base.specs.Order.{has_in_hand, is_first, is_nothing, suits}
use Rattle.xt_base.specs.State.{Lone}
use Rattle.xt_base.specs.declared.names.JobName.{JobName}
use Rattle.xt_base.specs.declared.steps.Reply.{Reply}
use Rattle.xt_base.specs.declared.steps.Step.{Step}
use Rattle.xt_base.specs.declared.steps.Step.TheVariants.{Begin, End, Flush, Post, Take}

-- the names that were posted and not taken, in order, and what each worker has in hand
pub record InTurn : Type 0 where
  pub queue : List JobName
  pub hands : List (Option JobName)

-- what a worker has in hand
abbrev pub hand_of : InTurn → ℕ → Option JobName
hand_of t w = slice_index_or t.hands w None

-- what each worker has in hand, as lists of at most one name
abbrev pub held_in : (ℕ → Option JobName) → ℕ → List JobName
held_in hand w = option_to_list (hand w)

-- a take is of the name in front and by a worker with a free hand; a job step is on the name in its worker's hand
abbrev pub keeps_turn : List JobName → (ℕ → Option JobName) → Step → Bool
keeps_turn queue hand (Take worker name) = is_first name queue && is_none (hand worker)
keeps_turn queue hand other = has_in_hand (held_in hand) other

-- whether a step may come: what the queue and the hands ask, and what its slot's state asks
abbrev pub can_step : List JobName → (ℕ → Option JobName) → Lone → Step → Bool
can_step queue hand s x = keeps_turn queue hand x && suits x s

-- a post puts its name behind the others, and a take takes the first away
abbrev pub queue_after : Step → List JobName → List JobName
queue_after (Post name) queue = queue ++ name ∷ []
queue_after (Take worker name) queue = drop 1 queue
queue_after other queue = queue

-- a post puts its name behind the others
abbrev pub queue_put : Step → List JobName → List JobName
queue_put (Post name) queue = queue ++ name ∷ []
queue_put other queue = queue

-- a take takes the first name away
abbrev pub queue_left : Step → List JobName → List JobName
queue_left (Take worker name) queue = drop 1 queue
queue_left other queue = queue

-- what this worker has in hand then: a taken name, and none where its job has ended
abbrev pub hand_after : Step → Reply → ℕ → Option JobName → Option JobName
hand_after (Take worker name) reply w held = if worker == w then Some name else held
hand_after (Begin worker name) reply w held = if (worker == w) && is_nothing reply then None else held
hand_after (End worker name answers) reply w held = if worker == w then None else held
hand_after (Flush worker name answers) reply w held = if worker == w then None else held
hand_after other reply w held = held
