-- The rule of the queue, over the names that wait in it and what each pass has done, and its four kinds of step.
use Rattle.crossbeam_queue.specs.Fifo.{Held}
use Rattle.std.specs.Prelude.{List, [], filter, length, map, slice_set, suc, zero, ℕ, ◌+◌, ◌++◌, ◌<◌, ◌==◌, ◌≡◌, ◌≤◌, ◌∷◌}
use Rattle.xt_base.specs.declared.names.JobName.{JobName}
use Rattle.xt_base.specs.declared.sizes.TheConstants.{QUEUE_PLACES, SLOTS}
use Rattle.xt_queue.specs.Names.{IsRun, of_slot, unposted}
use Rattle.xt_queue.specs.declared.views.JobView.{JobView}
use lib.ListN.{get_elem?}
use mathlib.Core.Option.{some}

-- the view of the maker of passes, after it has made some
abbrev pub maker : ℕ → JobView
maker made = record { number = 0; made = made; names = [] }

-- the view of a pass at its place, before its first name
abbrev pub unused : ℕ → JobView
unused number = record { number = number; made = 0; names = [] }

-- the view after one name more
abbrev pub with_name : JobView → JobName → JobView
with_name v x = record { number = v.number; made = v.made; names = v.names ++ x ∷ [] }

-- the names of the pass at a place; none where there is no pass
abbrev pub names_at : List JobView → ℕ → List JobName
names_at [] place = []
names_at (v ∷ vs) zero = v.names
names_at (v ∷ vs) (suc place) = names_at vs place

-- the names posted through a slot's pass, in order
abbrev pub posted : List JobView → ℕ → List JobName
posted views slot = names_at views (slot + 1)

-- the names taken through a worker's pass, in order
abbrev pub taken : List JobView → ℕ → List JobName
taken views worker = names_at views (worker + 17)

-- a name that was taken, and the worker that took it
pub record Handed : Type 0 where
  pub worker : ℕ
  pub name : JobName

-- the names handed to anyone, in order
abbrev pub names_of : List Handed → List JobName
names_of handed = map (λ h. h.name) handed

-- the names handed to one worker, in order
abbrev pub of_worker : ℕ → List Handed → List JobName
of_worker worker handed = names_of (filter (λ h. h.worker == worker) handed)

-- the rule, of the waiting names, oldest first, and of the views of all passes
pub record QueueRule (waiting : List JobName) (views : List JobView) : Type 0 where
  -- each pass's number is its place
  pub numbered : (place : ℕ) (v : JobView) → get_elem? views place ≡ some v → v.number ≡ place
  -- the maker has made every other pass
  pub counted : (v : JobView) → get_elem? views 0 ≡ some v → v.made + 1 ≡ length views
  -- all that was ever handed over, in order: each name once, with the one worker that took it
  pub handed : List Handed
  -- of each slot the names handed over, and then those that wait, are the posted ones
  pub in_order : (slot : ℕ) → slot < SLOTS → posted views slot ≡ of_slot slot (names_of handed ++ waiting)
  -- there are no names of any other slot
  pub no_other : (slot : ℕ) → SLOTS ≤ slot → of_slot slot (names_of handed ++ waiting) ≡ []
  -- each worker has taken what was handed to it
  pub by_worker : (worker : ℕ) → taken views worker ≡ of_worker worker handed
  -- of each slot every posted name follows the one before it
  pub serials : (slot : ℕ) → slot < SLOTS → IsRun unposted (posted views slot)

-- one step of the queue: the view of one pass becomes another, all other views stay, and the rule holds before and after
pub record Step (waiting after : List JobName) (v w : JobView) : Type 0 where
  pub views : List JobView
  pub place : ℕ
  pub own : get_elem? views place ≡ some v
  pub rule : QueueRule waiting views
  pub kept : QueueRule after (slice_set views place w)

-- a post: of fewer waiting names than there are places, and one joins them at the back
abbrev pub Posts : JobView → JobName → JobView → Type 0
Posts v x w = (w ≡ with_name v x) × ((waiting : List JobName) × (length waiting < QUEUE_PLACES) × Step waiting (waiting ++ x ∷ []) v w)

-- a take of a name: the one at the front leaves
abbrev pub Takes : JobView → JobName → JobView → Type 0
Takes v x w = (w ≡ with_name v x) × ((waiting : List JobName) × Step (x ∷ waiting) waiting v w)

-- a post handed back, or a take of none: nothing changes, and the rule holds of what waits
abbrev pub Sees : JobView → List JobName → Type 0
Sees v waiting = Step waiting waiting v v

-- at one moment as many names waited as there are places, the pass having this view
abbrev pub WasFull : JobView → Type 0
WasFull v = Held QUEUE_PLACES (Sees v)
