use Rattle.std.proofs.Common.{◌≡◌}
use Rattle.xt_host.specs.Waiting.{Tried, request_of}
use Rattle.xt_queue.specs.Boards.{Rises}
use Rattle.xt_host.proofs.host.Host.ask_wait.Given as goal

-- each try so far was told to try again
abbrev pub invariant-loop : goal.invariant-loop
invariant-loop g l = record {
  board : l.seat.board.board ≡ l.self.board;
  rises : Rises l.fn.seat.board.seen l.seat.board.seen;
  tried : Tried l.at (request_of l.attempt) l.fn.seat l.seat;
}
