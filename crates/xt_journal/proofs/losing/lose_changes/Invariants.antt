use Rattle.std.proofs.Common.{◌≡◌, ◌≤◌, ◌+◌, length}
use Rattle.xt_journal.specs.Keeping.{changes_lost}
use Rattle.xt_journal.proofs.losing.lose_changes.Given as goal

abbrev pub invariant-loop-block : goal.invariant-loop-block
invariant-loop-block l = record {
  lost : changes_lost l.leg.changes l.leg.holds l.frames ≡ changes_lost l.fn.leg.changes l.fn.leg.holds l.fn.frames;
  room : length l.frames.fresh + length l.leg.changes ≤ 128;
}

abbrev pub decreases-loop-block : goal.decreases-loop-block
decreases-loop-block l = length l.leg.changes
