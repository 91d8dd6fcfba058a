use Rattle.std.proofs.Common.{◌≡◌, ◌+◌, length}
use Rattle.xt_frames.specs.Idle.{idle_of}
use Rattle.xt_frames.proofs.idle.count_of.Given as goal

-- the names with a block so far, and those that are left
abbrev pub invariant-loop-idle : goal.invariant-loop-idle
invariant-loop-idle l = l.count + length (idle_of l.idle-iterator) ≡ length (idle_of l.names.entries)
