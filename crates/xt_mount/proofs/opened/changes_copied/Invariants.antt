use Rattle.std.proofs.Common.{◌≡◌, drop, map, take}
use Rattle.xt_base.specs.Sound.{Each}
use Rattle.xt_mount.proofs.opened.changes_copied.Given as goal
use Rattle.xt_mount.specs.Shown.{IsMarked, change_shown}

abbrev pub invariant-loop-e : goal.invariant-loop-e
invariant-loop-e l = record {
  copied : l.changes.items ≡ map (change_shown l.frames.frames l.leg) (take l.e-index l.marks);
  left : Each (IsMarked l.leg) (drop l.e-index l.marks);
}
