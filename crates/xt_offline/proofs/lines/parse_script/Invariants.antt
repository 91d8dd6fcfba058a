use Rattle.std.proofs.Common.{length}
use Rattle.xt_offline.specs.Script.{IsParsed}
use Rattle.xt_offline.proofs.lines.parse_script.Given as goal

abbrev pub invariant-loop-rest : goal.invariant-loop-rest
invariant-loop-rest l = IsParsed l.fn.script l.steps.items l.rest

abbrev pub decreases-loop-rest : goal.decreases-loop-rest
decreases-loop-rest l = length l.rest
