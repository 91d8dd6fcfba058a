-- What a caller knows of a seat: its board, for each slot the greatest word that it showed and the last that it saw, and where it comes from.
use Rattle.atomic_table.specs.Seated.{TableId}
use Rattle.std.specs.Prelude.{List, ℕ}
use Rattle.xt_queue.specs.Boards.{blank_words, board_view}
use Rattle.xt_queue.specs.declared.views.BoardView.{BoardView}

-- a seat: its board, the words that it showed and saw, slot by slot, how many seats were split off it, and how many splits it is from the first
pub record SeatView : Type 0 where
  pub board : TableId
  pub shown : List ℕ
  pub seen : List ℕ
  pub splits : ℕ
  pub rank : ℕ

-- a seat of a rank that showed nothing, saw these words, and off which none was split
abbrev pub fresh_seat : TableId → List ℕ → ℕ → SeatView
fresh_seat board seen rank = record { board = board; shown = blank_words; seen = seen; splits = 0; rank = rank }

-- a seat as the rule of the board sees it
abbrev pub of_seat : SeatView → BoardView
of_seat seat = board_view seat.shown seat.seen seat.splits seat.rank
