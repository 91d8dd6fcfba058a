use Rattle.std.proofs.Common.{◌≡◌}
use Rattle.xt_cell.specs.HostSeats.{IsSameSeat}
use Rattle.xt_service.proofs.workplace.end_job.Given as goal

-- no try has changed the seat or the job
abbrev pub invariant-loop : goal.invariant-loop
invariant-loop g l = IsSameSeat l.fn.seat l.seat × (l.done ≡ l.fn.done)
