use Rattle.std.proofs.Common.{ap, arith, sym, ◌∙◌}
use Rattle.xt_queue.proofs.BoardLemmas.{peeks}
use Rattle.xt_queue.specs.Seats.{SeatView}
use Rattle.xt_queue.proofs.board.Board.peek.Goals as goal

pub load-word-requires : goal.load-word-requires
load-word-requires c =
    (ap (λ (s : SeatView). s.board) c.seat.view_is ∙ c.requires.board ∙ sym c.self.view_is, omega (arith, c.self.invariant, c.index.ensures), peeks _ _ _ _ (omega (arith, c.index.ensures)))
