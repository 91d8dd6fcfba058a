use Rattle.std.proofs.Common.{◌≡◌}
use Rattle.xt_cell_tests.proofs.tests.queue.first_other.Given as goal

abbrev pub invariant-loop-life : goal.invariant-loop-life
invariant-loop-life l = record {
  showing : l.showing.board ≡ l.board;
  reading : l.reading.board ≡ l.board;
}
