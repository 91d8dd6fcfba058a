use Rattle.std.proofs.Common.{arith}
use Rattle.xt_items.proofs.SieveLemmas.{set_key, set_others}
use Rattle.xt_items.proofs.sieved.with_key.Goals as goal

pub returns-clause-key : goal.returns-clause-key
returns-clause-key c = set_key c.args.bits c.args.key (omega arith)

pub returns-clause-others : goal.returns-clause-others
returns-clause-others c = set_others c.args.bits c.args.key (omega arith)
