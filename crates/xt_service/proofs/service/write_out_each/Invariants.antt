use Rattle.std.proofs.Common.{List, ◌++◌, ◌≡◌}
use Rattle.std.specs.Arc.{arc_value}
use Rattle.xt_base.specs.declared.names.JobName.{JobName}
use Rattle.xt_service.specs.Seats.{HasWrittenOut, IsUsed}
use Rattle.xt_service.proofs.service.write_out_each.Given as goal

-- the bench is of the host, and by its seat names were done and these mounts written out, and no more
abbrev pub invariant-loop-at : goal.invariant-loop-at
invariant-loop-at g l = record {
  board : l.bench.seat.board.board ≡ l.host.board;
  queue : l.bench.pass.queue ≡ arc_value l.host.queue;
  worker : l.bench.pass.worker ≡ l.fn.bench.pass.worker;
  taken : (names : List JobName) × (l.bench.pass.taken ≡ l.fn.bench.pass.taken ++ names);
  written : HasWrittenOut l.mounts l.fn.bench.pass.worker l.bench.pass.taken l.fn.bench.seat l.bench.seat;
  used : IsUsed l.fn.bench.seat l.bench.seat;
}
