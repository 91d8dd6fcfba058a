use Rattle.std.proofs.Common.{ap, length, arith}
use Rattle.xt_base.proofs.MapLemmas.{length_put_le, length_without_le}
use Rattle.xt_items.proofs.items.activate_one.Goals as goal

pub returns-then-is_empty-clause-count : goal.returns-then-is_empty-clause-count
returns-then-is_empty-clause-count c = omega (arith, ap length c.remove-left.ensures.rest, length_without_le c.args.block c.args.ail.now)

pub returns-then-not-contains-clause-count : goal.returns-then-not-contains-clause-count
returns-then-not-contains-clause-count c = omega (arith, ap length c.put.ensures, length_put_le c.args.block c.args.number c.args.ail.now)
