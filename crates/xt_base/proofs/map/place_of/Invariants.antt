use Rattle.std.proofs.Common.{◌≤◌, ◌-◌, length}
use Rattle.xt_base.specs.Places.{place}
use Rattle.xt_base.proofs.map.place_of.Given as goal

abbrev pub invariant-loop-low : goal.invariant-loop-low
invariant-loop-low g l = record {
  low : l.low ≤ place l.key l.entries;
  high : place l.key l.entries ≤ l.high;
  whole : l.high ≤ length l.entries;
}

abbrev pub decreases-loop-low : goal.decreases-loop-low
decreases-loop-low g l = l.high - l.low
