use Rattle.std.proofs.Common.{not, rules}
use Rattle.xt_base.specs.Jobs.{written}
use Rattle.xt_base.specs.Maps.{has}
use Rattle.xt_items.proofs.clean.remove_written.Goals as goal

pub returns-clause-list : goal.returns-clause-list
returns-clause-list c = c.retain.ensures (λ b. not (has (written c.args.blocks.now c.args.answers.now) b)) (λ b r said. search rules)
