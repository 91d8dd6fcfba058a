use Rattle.std.proofs.Common.{List, ◌++◌, ◌≡◌}
use Rattle.std.specs.Arc.{arc_value}
use Rattle.xt_base.specs.declared.names.JobName.{JobName}
use Rattle.xt_host.specs.Work.{Worked}
use Rattle.xt_queue.specs.Boards.{Rises}
use Rattle.xt_host.proofs.work.Host+H+Slots+H.work.Given as goal

abbrev pub invariant-loop : goal.invariant-loop
invariant-loop g l = record {
  queue : l.pass.queue ≡ arc_value l.self.queue;
  worker : l.pass.worker ≡ l.fn.pass.worker;
  taken : (names : List JobName) × (l.pass.taken ≡ l.fn.pass.taken ++ names);
  board : l.seat.board.board ≡ l.self.board;
  rises : Rises l.fn.seat.board.seen l.seat.board.seen;
  worked : Worked l.pass.worker l.pass.taken l.fn.seat l.seat;
}
