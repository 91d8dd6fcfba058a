use Rattle.std.proofs.Common.{List, ◌++◌, ◌≡◌}
use Rattle.std.specs.Arc.{arc_value}
use Rattle.xt_base.specs.declared.names.JobName.{JobName}
use Rattle.xt_service.specs.Seats.{AreOf, HasWorked}
use Rattle.xt_service.proofs.bench.Bench.work.Given as goal

-- the bench is of the host, and did only the work of names that it took, of which some were put aside
abbrev pub invariant-loop : goal.invariant-loop
invariant-loop g l = record {
  board : l.self.seat.board.board ≡ l.host.board;
  queue : l.self.pass.queue ≡ arc_value l.host.queue;
  worker : l.self.pass.worker ≡ l.fn.self.pass.worker;
  taken : (names : List JobName) × (l.self.pass.taken ≡ l.fn.self.pass.taken ++ names);
  worked : HasWorked l.fn.self.pass.worker l.self.pass.taken l.fn.self.seat l.self.seat;
  aside : AreOf l.self.pass.taken l.aside.places;
}
