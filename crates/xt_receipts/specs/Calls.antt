-- What a call leaves with the seat that made it.
use Rattle.std.specs.Prelude.{[], ℕ, ◌++◌, ◌≡◌, ◌∷◌}
use Rattle.xt_base.specs.declared.steps.Reply.{Reply}
use Rattle.xt_base.specs.declared.steps.Step.{Step}
use Rattle.xt_cell.specs.Counting.{counted}
use Rattle.xt_cell.specs.HostSeats.{HostSeatView, receipt}

-- one receipt more, of this step and reply, with the number of an entry in the book of the slot, and one event more counted of that slot; no seat was split off, and the rank stays
pub record Receives (slot : ℕ) (step : Step) (reply : Reply) (old new : HostSeatView) : Type 0 where
  pub number : ℕ
  pub receipts : new.receipts ≡ old.receipts ++ receipt slot number step reply ∷ []
  pub counts : new.counts ≡ counted slot old.counts
  pub caller : new.caller ≡ old.caller
  pub splits : new.board.splits ≡ old.board.splits
  pub rank : new.board.rank ≡ old.board.rank
