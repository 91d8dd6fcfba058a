use Rattle.std.proofs.Common.{ap, arith, length}
use Rattle.xt_items.specs.Lists.{Lists}
use Rattle.xt_items.proofs.WeightLemmas.{weight_le}
use Rattle.xt_items.proofs.items.Items.cil_cost.Goals as goal

pub overflow_add-result : goal.overflow_add-result
overflow_add-result c = omega (arith, weight_le c.self.inside.cil c.self.invariant.2, c.self.invariant.1, c.cil.ensures.small, ap length c.cil.ensures.value, ap (λ (l : Lists). length l.cil) c.self.view_is, c.ends.ensures.most, c.from.ensures)

pub returns-clause-range : goal.returns-clause-range
returns-clause-range c = omega (arith, weight_le c.self.inside.cil c.self.invariant.2, c.self.invariant.1, c.cil.ensures.small, ap length c.cil.ensures.value, ap (λ (l : Lists). length l.cil) c.self.view_is, c.ends.ensures.most, c.from.ensures)
