use Rattle.xt_cell.specs.HostSeats.{IsSameSeat}
use Rattle.xt_host.proofs.work.Host+H+Slots+H.begun.Given as goal

-- no try has changed the seat
abbrev pub invariant-loop : goal.invariant-loop
invariant-loop g l = IsSameSeat l.fn.seat l.seat
