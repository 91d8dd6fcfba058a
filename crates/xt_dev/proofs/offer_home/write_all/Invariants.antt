-- The writes so far were offered with the answers so far, and the answers to come are false.
use Rattle.std.proofs.Common.{◌≡◌, ◌+◌, ◌-◌, count_by, drop, false, length, map, not, replicate, take}
use Rattle.xt_dev.specs.Devices.{Tells}
use Rattle.xt_dev.specs.Flushes.{answered, contents}
use Rattle.xt_dev.specs.declared.call.HomeCall.TheVariants as HomeCall
use Rattle.xt_dev.proofs.offer_home.write_all.Given as goal

abbrev pub invariant-loop-i : goal.invariant-loop-i
invariant-loop-i g l =
    let before = goal.HomeDevice-dyn g l.initial.home.now in
    let after = goal.HomeDevice-dyn g l.home.now in
    record {
      size : length l.answers ≡ 8;
      unused : drop l.i l.answers ≡ replicate (8 - l.i) false;
      offers :
          Tells (before.home_tells l.initial.home.now.1) (before.home_taken l.initial.home.now.1) (map HomeCall.Offer (answered (take l.i (contents l.writes)) (take l.i l.answers)))
          (after.home_tells l.home.now.1) (after.home_taken l.home.now.1);
      failures : after.home_failures l.home.now.1 ≡ before.home_failures l.initial.home.now.1 + count_by not (take l.i l.answers);
    }
