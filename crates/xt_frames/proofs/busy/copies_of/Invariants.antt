use Rattle.std.proofs.Common.{◌≡◌, ◌++◌, drop}
use Rattle.xt_frames.specs.Busy.{busy_of, committed_of}
use Rattle.xt_frames.proofs.busy.copies_of.Given as goal

-- the copies so far, and the contents that are left
abbrev pub invariant-loop-e : goal.invariant-loop-e
invariant-loop-e l = l.copies.items ++ committed_of (busy_of l.frames (drop l.e-index l.index)) ≡ committed_of (busy_of l.frames l.index)
