use Rattle.std.proofs.Common.{◌≡◌}
use Rattle.xt_host_tests.proofs.tests.volumes.mount_all.Given as goal

-- the seat is of the host's board
abbrev pub invariant-loop-devices : goal.invariant-loop-devices
invariant-loop-devices g l = record {
  can_next : (goal.iterator-loop-devices g).can_next l.devices-iterator;
  is_finite : (goal.iterator-loop-devices g).is_finite l.devices-iterator;
  board : l.seat.board.board ≡ l.host.board;
}
