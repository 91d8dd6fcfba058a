use Rattle.std.proofs.Common.{arith}
use Rattle.xt_frames.proofs.IdleLemmas.{few}
use Rattle.xt_frames.proofs.idle.count_of.Goals as goal

pub overflow_add-count : goal.overflow_add-count
overflow_add-count c = omega (arith, c.loop-idle.invariant, few c.args.names.now c.requires)

pub returns-clause-small : goal.returns-clause-small
returns-clause-small c = omega (arith, c.loop-idle.invariant, few c.args.names.now c.requires)
