use Rattle.std.proofs.Common.{ap, arith, sym, ◌∙◌}
use Rattle.xt_queue.proofs.BoardLemmas.{shows}
use Rattle.xt_queue.specs.Seats.{SeatView}
use Rattle.xt_queue.proofs.board.Board.show.Goals as goal

pub fetch_max-requires : goal.fetch_max-requires
fetch_max-requires c =
    (ap (λ (s : SeatView). s.board) c.seat.view_is ∙ c.requires.board ∙ sym c.self.view_is, omega (arith, c.self.invariant, c.index.ensures), shows _ _ _ _ _ (omega (arith, c.index.ensures)) c.word-word.ensures.formed)
