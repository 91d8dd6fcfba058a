-- The sectors so far stand behind the others, and there is room for the rest.
use Rattle.std.proofs.Common.{◌≡◌, ◌+◌, ◌++◌, ◌≤◌}
use Rattle.std.specs.Vec.{vec_capacity, vec_len}
use Rattle.xt_dev.specs.Doubting.{sectors_from}
use Rattle.xt_dev.proofs.doubts.push_all.Given as goal

abbrev pub invariant-loop-k : goal.invariant-loop-k
invariant-loop-k l = record {
  items : l.written.items ≡ l.initial.written.items ++ sectors_from l.sectors.first l.k;
  len : vec_len l.written ≡ vec_len l.initial.written + l.k;
  room : vec_len l.initial.written + l.sectors.count ≤ vec_capacity l.written;
}
