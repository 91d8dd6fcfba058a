-- What the rules of the queue and of the board imply, in words that name no step.
use Rattle.std.specs.Prelude.{Bool, List, Option, Some, [], filter, length, map, ℕ, ⊤, ◌&&◌, ◌+◌, ◌++◌, ◌<◌, ◌==◌, ◌≡◌, ◌≢◌, ◌≤◌, ◌⊎◌, ◌∷◌}
use Rattle.xt_base.specs.declared.names.JobName.{JobName}
use Rattle.xt_base.specs.declared.sizes.TheConstants.{SLOTS}
use Rattle.xt_base.specs.declared.steps.Reason.{Reason}
use Rattle.xt_queue.specs.Names.{of_slot}
use Rattle.xt_queue.specs.Queues.{QueueRule, posted, taken}
use Rattle.xt_queue.specs.Words.{IsOver, word_of}
use Rattle.xt_queue.specs.declared.views.JobView.{JobView}

-- the same slot, life and serial
abbrev pub is_same : JobName → JobName → Bool
is_same x y = (y.slot == x.slot) && (y.life == x.life) && (y.serial == x.serial)

-- how often a name stands in a list
abbrev pub times : JobName → List JobName → ℕ
times x names = length (filter (is_same x) names)

-- the first list is the second with names struck out
abbrev pub IsPartOf : List JobName → List JobName → Type 0
IsPartOf [] ys = ⊤
IsPartOf (x ∷ xs) [] = ⊥
IsPartOf (x ∷ xs) (y ∷ ys) = ((x ≡ y) × IsPartOf xs ys) ⊎ IsPartOf (x ∷ xs) ys

-- the serials of one life, in order
abbrev pub serials_of : ℕ → List JobName → List ℕ
serials_of life names = map (λ x. x.serial) (filter (λ x. x.life == life) names)

-- the numbers count up by one, the first from n on
abbrev pub CountsUp : ℕ → List ℕ → Type 0
CountsUp n [] = ⊤
CountsUp n (k ∷ ks) = (k ≡ n) × CountsUp (n + 1) ks

-- what the rule of the queue says of one slot
pub record HandedOver (waiting : List JobName) (views : List JobView) (slot : ℕ) : Type 0 where
  -- the posted names that no longer wait, in order
  pub gone : List JobName
  -- the waiting names are the last of those posted, in order
  pub waiting_last : posted views slot ≡ gone ++ of_slot slot waiting
  -- no name was posted twice
  pub posted_once : (x : JobName) → times x (posted views slot) ≤ 1
  -- the serials posted in one life are 1, 2, 3 and so on
  pub serials : (life : ℕ) → CountsUp 1 (serials_of life (posted views slot))
  -- each name that no longer waits stands in the list of one worker, once, and in no other worker's
  pub taken_once : (x : JobName) → 0 < times x gone → (worker : ℕ) × (times x (taken views worker) ≡ 1) × ((other : ℕ) → other ≢ worker → times x (taken views other) ≡ 0)
  -- each worker's names of the slot stand in the order of posting
  pub in_order : (worker : ℕ) → IsPartOf (of_slot slot (taken views worker)) gone

-- wherever the rule of the queue holds, each slot's names are handed over once and in order
abbrev pub GoesOnceInOrder : Type 0
GoesOnceInOrder = (waiting : List JobName) (views : List JobView) (slot : ℕ) → QueueRule waiting views → slot < SLOTS → HandedOver waiting views slot

-- a word that is at least that of a life that was shut is of that life, shut, or of a later one
abbrev pub ShutForGood : Type 0
ShutForGood = (life later : ℕ) (reason : Reason) (state : Option Reason) → word_of life (Some reason) ≤ word_of later state → IsOver life later state
