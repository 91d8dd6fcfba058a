-- What a caller keeps: its number, its counts, its receipts, and what it saw of the board.
use Rattle.std.specs.Prelude.{List, max, slice_index, slice_set, ℕ, [], ◌+◌, ◌++◌, ◌∷◌, ◌≡◌, ◌≤◌}
use Rattle.xt_queue.specs.Boards.{Rises}
use Rattle.xt_base.specs.declared.steps.Reply.{Reply}
use Rattle.xt_base.specs.declared.steps.Step.{Step}
use Rattle.xt_cell.specs.declared.records.Receipt.{Receipt}
use Rattle.xt_queue.specs.Seats.{SeatView}

-- a seat: its caller, its count of each slot's events, its receipts in order, its seat at the board, and for how many receipts more there is room
pub record HostSeatView : Type 0 where
  pub caller : ℕ
  pub counts : List ℕ
  pub receipts : List Receipt
  pub board : SeatView
  pub room : ℕ

-- a receipt
abbrev pub receipt : ℕ → ℕ → Step → Reply → Receipt
receipt slot number step reply = record { slot = slot; number = number; step = step; reply = reply }

-- one receipt more, of the entry of this number; the counts are another matter
pub record Notes (slot number : ℕ) (step : Step) (reply : Reply) (old new : HostSeatView) : Type 0 where
  pub caller : new.caller ≡ old.caller
  pub receipts : new.receipts ≡ old.receipts ++ receipt slot number step reply ∷ []
  pub board : new.board ≡ old.board

-- a seat after another seat at the board was split off it
abbrev pub with_split : HostSeatView → HostSeatView
with_split s = record { caller = s.caller; counts = s.counts; receipts = s.receipts; board = record { board = s.board.board; shown = s.board.shown; seen = s.board.seen; splits = s.board.splits + 1; rank = s.board.rank }; room = s.room }

-- the same seat, but for its room
pub record IsSameSeat (old new : HostSeatView) : Type 0 where
  pub caller : new.caller ≡ old.caller
  pub counts : new.counts ≡ old.counts
  pub receipts : new.receipts ≡ old.receipts
  pub board : new.board ≡ old.board

-- a seat showed a word of a slot: the greatest that it showed there is at least this, and so is what it saw; what it saw of other slots did not go down; no seat was split off it, and its rank stays
pub record Shows (slot word : ℕ) (old new : SeatView) : Type 0 where
  pub board : new.board ≡ old.board
  pub shown : new.shown ≡ slice_set old.shown slot (max (slice_index old.shown slot) word)
  pub saw : word ≤ slice_index new.seen slot
  pub rises : Rises old.seen new.seen
  pub splits : new.splits ≡ old.splits
  pub rank : new.rank ≡ old.rank
