use Rattle.std.proofs.Common.{◌≡◌, ◌≤◌}
use Rattle.std.specs.Prelude.{vec_capacity, vec_len}
use Rattle.xt_cell_tests.proofs.tests.queue.take_all.Given as goal

abbrev pub invariant-loop : goal.invariant-loop
invariant-loop g l = record {
  queue : l.pass.queue ≡ l.queue;
  len : vec_len l.names ≤ 50;
  room : vec_capacity l.names ≡ 50;
}
