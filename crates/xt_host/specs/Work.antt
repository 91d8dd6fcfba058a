-- What the work of one worker leaves with its seat.
use Rattle.std.specs.Prelude.{All, List, [], ℕ, ◌++◌, ◌≡◌, ◌∷◌}
use Rattle.std.specs.List.{Contains}
use Rattle.xt_base.specs.declared.names.JobName.{JobName}
use Rattle.xt_base.specs.declared.steps.Step.{Step}
use Rattle.xt_base.specs.declared.steps.Step.TheVariants.{Begin, End, Flush}
use Rattle.xt_cell.specs.Counting.{counted}
use Rattle.xt_cell.specs.HostSeats.{HostSeatView}
use Rattle.xt_cell.specs.declared.records.Receipt.{Receipt}

-- a step is a worker's begin, end or flush of this name
abbrev pub IsJobStep : ℕ → JobName → Step → Type 0
IsJobStep worker name (Begin by of) = (by ≡ worker) × (of ≡ name)
IsJobStep worker name (End by of answers) = (by ≡ worker) × (of ≡ name)
IsJobStep worker name (Flush by of answers) = (by ≡ worker) × (of ≡ name)
IsJobStep worker name other = ⊥

-- a receipt is of a worker's step of some name that it took, in the book of the name's slot
abbrev pub IsWorkOf : ℕ → List JobName → Receipt → Type 0
IsWorkOf worker taken r = (name : JobName) × Contains taken name × (r.slot ≡ name.slot) × IsJobStep worker name r.step

-- the counts, where one event more was counted for each receipt, of its slot
abbrev pub counted_each : List Receipt → List ℕ → List ℕ
counted_each [] counts = counts
counted_each (r ∷ rs) counts = counted_each rs (counted r.slot counts)

-- a seat has receipts more only of this worker's steps of names that it took, and counted one event for each of them; no seat was split off, and the rank stays
pub record Worked (worker : ℕ) (taken : List JobName) (old new : HostSeatView) : Type 0 where
  pub gained : List Receipt
  pub receipts : new.receipts ≡ old.receipts ++ gained
  pub counts : new.counts ≡ counted_each gained old.counts
  pub own : All (IsWorkOf worker taken) gained
  pub caller : new.caller ≡ old.caller
  pub splits : new.board.splits ≡ old.board.splits
  pub rank : new.board.rank ≡ old.board.rank
