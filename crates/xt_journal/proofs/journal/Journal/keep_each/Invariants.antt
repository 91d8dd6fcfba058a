use Rattle.std.proofs.Common.{◌≡◌, ◌≤◌, ◌+◌, length}
use Rattle.xt_base.specs.Sound.{IsRising}
use Rattle.xt_journal.specs.Keeping.{AreFramed, HaveChunks, changes_kept}
use Rattle.xt_journal.specs.Over.{changes_over}
use Rattle.xt_journal.proofs.journal.Journal.keep_each.Given as goal

abbrev pub invariant-loop-block : goal.invariant-loop-block
invariant-loop-block l = record {
  kept : changes_kept l.leg.changes l.self ≡ changes_kept l.fn.leg.changes l.fn.self;
  framed : AreFramed l.self.frames.frames l.leg.changes;
  rising : IsRising l.leg.changes;
  frames : length l.self.frames.frames + length l.leg.changes ≤ 128;
  cil : length l.self.lists.cil + length l.leg.changes ≤ 128;
  chunks : HaveChunks l.self.lists.cil (changes_over l.self.frames.frames l.leg.changes);
}

abbrev pub decreases-loop-block : goal.decreases-loop-block
decreases-loop-block l = length l.leg.changes
