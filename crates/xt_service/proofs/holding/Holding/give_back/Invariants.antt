use Rattle.std.proofs.Common.{◌≡◌}
use Rattle.xt_service.specs.HostCalls.{GaveBack}
use Rattle.xt_service.proofs.holding.Holding.give_back.Given as goal

abbrev pub invariant-loop : goal.invariant-loop
invariant-loop g l = GaveBack l.fn.self l.self × (l.self.seat.board.board ≡ l.fn.self.seat.board.board)
