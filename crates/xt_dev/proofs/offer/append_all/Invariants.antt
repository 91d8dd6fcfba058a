-- The pieces so far were offered, and each was answered Ok; the log was not cut, and may lose what it could lose before.
use Rattle.std.proofs.Common.{◌≡◌, take, true}
use Rattle.xt_base.specs.Text.{offered}
use Rattle.xt_dev.specs.Devices.{Tells}
use Rattle.xt_dev.proofs.offer.append_all.Given as goal

abbrev pub invariant-loop-i : goal.invariant-loop-i
invariant-loop-i g l =
    let before = goal.LogDevice-dyn g l.initial.log.now in
    let after = goal.LogDevice-dyn g l.log.now in
    record {
      offers : Tells (before.log_tells l.initial.log.now.1) (before.log_taken l.initial.log.now.1) (offered true (take l.i l.pieces)) (after.log_tells l.log.now.1) (after.log_taken l.log.now.1);
      failures : after.log_failures l.log.now.1 ≡ before.log_failures l.initial.log.now.1;
      cuts : after.log_cuts l.log.now.1 ≡ before.log_cuts l.initial.log.now.1;
      loses : after.log_loses l.log.now.1 ≡ before.log_loses l.initial.log.now.1;
    }
