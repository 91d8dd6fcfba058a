use Rattle.std.proofs.Common.{length, ◌≤◌}
use Rattle.std.specs.Prelude.{◌-◌}
use Rattle.xt_base.proofs.content.first_stretch.Given as goal

abbrev pub invariant-loop-first : goal.invariant-loop-first
invariant-loop-first l = l.first ≤ length l.fn.bytes

abbrev pub decreases-loop-first : goal.decreases-loop-first
decreases-loop-first l = length l.fn.bytes - l.first
