use Rattle.std.proofs.Common.{◌≡◌, take}
use Rattle.xt_base.specs.Steps.{strike}
use Rattle.xt_core.proofs.run.copies.Given as goal

abbrev pub invariant-loop-step : goal.invariant-loop-step
invariant-loop-step l = l.struck.items ≡ strike (take l.step-index l.steps) l.slot
