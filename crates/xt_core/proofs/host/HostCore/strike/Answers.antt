use Rattle.xt_core.proofs.StruckLemmas.{strike_twice, struck}
use Rattle.xt_core.proofs.host.HostCore.strike.Goals as goal

pub returns-in-Ok-clause-orderly : goal.returns-in-Ok-clause-orderly
returns-in-Ok-clause-orderly c = struck c.args.steps.now c.args.slot

pub returns-in-Ok-clause-twice : goal.returns-in-Ok-clause-twice
returns-in-Ok-clause-twice c = strike_twice c.args.steps.now c.args.slot

pub returns-in-Err-clause-orderly : goal.returns-in-Err-clause-orderly
returns-in-Err-clause-orderly c = struck c.args.steps.now c.args.slot

pub returns-in-Err-clause-twice : goal.returns-in-Err-clause-twice
returns-in-Err-clause-twice c = strike_twice c.args.steps.now c.args.slot
