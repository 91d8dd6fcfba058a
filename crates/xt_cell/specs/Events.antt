-- An event: in the book of its slot and at the seat that made it.
use Rattle.std.specs.Prelude.{ℕ}
use Rattle.xt_base.specs.declared.steps.Reply.{Reply}
use Rattle.xt_base.specs.declared.steps.Step.{Step}
use Rattle.xt_cell.specs.Books.{Adds, BookView, next_number}
use Rattle.xt_cell.specs.HostSeats.{HostSeatView, Notes}

-- a step of a slot was served with this reply: the book has one entry more, for the seat's caller, and the seat one receipt more, with the number of that entry
pub record IsBooked (slot : ℕ) (step : Step) (reply : Reply) (book after : BookView) (seat later : HostSeatView) : Type 0 where
  pub entry : Adds book seat.caller step reply after
  pub receipt : Notes slot (next_number book) step reply seat later
