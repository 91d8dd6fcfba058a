use Rattle.std.proofs.Common.{◌≡◌, ◌++◌}
use Rattle.xt_frames.specs.Idle.{idle_of}
use Rattle.xt_frames.proofs.idle.copies_of.Given as goal

-- the copies so far, and the contents that are left
abbrev pub invariant-loop-idle : goal.invariant-loop-idle
invariant-loop-idle l = l.copies.items ++ idle_of l.idle-iterator ≡ idle_of l.names.entries
