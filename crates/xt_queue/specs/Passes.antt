-- What a caller knows of a pass: its queue, whose pass it is, and its names.
use Rattle.atomic_table.specs.Seated.{TableId}
use Rattle.std.specs.Prelude.{List, [], suc, zero, ℕ, ◌+◌, ◌++◌, ◌∷◌}
use Rattle.xt_base.specs.declared.names.JobName.{JobName}
use Rattle.xt_queue.specs.declared.views.JobView.{JobView}

-- a slot's pass: its queue, the slot, and the names posted through it, in order
pub record PostView : Type 0 where
  pub queue : TableId
  pub slot : ℕ
  pub posted : List JobName

-- a worker's pass: its queue, the worker, and the names taken through it, in order
pub record WorkView : Type 0 where
  pub queue : TableId
  pub worker : ℕ
  pub taken : List JobName

-- the maker of passes: its queue, and how many it has made
pub record MakerView : Type 0 where
  pub queue : TableId
  pub made : ℕ

-- a slot's pass with no post
abbrev pub fresh_post : TableId → ℕ → PostView
fresh_post queue slot = record { queue = queue; slot = slot; posted = [] }

-- a worker's pass with no take
abbrev pub fresh_work : TableId → ℕ → WorkView
fresh_work queue worker = record { queue = queue; worker = worker; taken = [] }

-- the passes of the first slots, each with no post
abbrev pub fresh_posts : TableId → ℕ → List PostView
fresh_posts queue zero = []
fresh_posts queue (suc n) = fresh_posts queue n ++ fresh_post queue n ∷ []

-- the passes of the first workers, each with no take
abbrev pub fresh_works : TableId → ℕ → List WorkView
fresh_works queue zero = []
fresh_works queue (suc n) = fresh_works queue n ++ fresh_work queue n ∷ []

-- a slot's pass as the rule of the queue sees it
abbrev pub of_post : PostView → JobView
of_post pass = record { number = pass.slot + 1; made = 0; names = pass.posted }

-- a worker's pass as the rule of the queue sees it
abbrev pub of_work : WorkView → JobView
of_work pass = record { number = pass.worker + 17; made = 0; names = pass.taken }
