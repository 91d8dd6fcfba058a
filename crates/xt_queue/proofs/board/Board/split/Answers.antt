use Rattle.std.proofs.Common.{ap, arith, sym, ◌∙◌}
use Rattle.xt_queue.proofs.BoardLemmas.{splits}
use Rattle.xt_queue.specs.Seats.{SeatView}
use Rattle.xt_queue.proofs.board.Board.split.Goals as goal

pub split_seat-requires : goal.split_seat-requires
split_seat-requires c =
    (ap (λ (s : SeatView). s.board) c.seat.view_is ∙ c.requires.board ∙ sym c.self.view_is, omega (arith, c.self.invariant), splits _ _)
