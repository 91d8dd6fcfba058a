use Rattle.std.proofs.Common.{◌+◌, ◌<◌, ◌≡◌, ◌⊎◌}
use Rattle.xt_queue.specs.Names.{last_of, unposted}
use Rattle.xt_speed.proofs.queue.alternate.Given as goal

abbrev pub invariant-loop : goal.invariant-loop
invariant-loop g l = record {
  queue : l.posting.queue ≡ l.queue;
  taking : l.taking.queue ≡ l.queue;
  slot : l.posting.slot ≡ l.slot;
  next : (((last_of unposted l.posting.posted).0 ≡ 1) × (l.serial ≡ (last_of unposted l.posting.posted).1 + 1)) ⊎ (((last_of unposted l.posting.posted).0 < 1) × (l.serial ≡ 1));
}
