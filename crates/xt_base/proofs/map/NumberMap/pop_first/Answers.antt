use Rattle.std.proofs.Common.{arith, subst, sym}
use Rattle.xt_base.proofs.PlaceLemmas.{rises_remove}
use Rattle.xt_base.specs.Sound.{IsRising}
use Rattle.xt_base.proofs.map.NumberMap.pop_first.Goals as goal

pub invariant_of-self : goal.invariant_of-self
invariant_of-self g c = (
  omega (arith, c.remove.ensures.len, c.self.invariant.0),
  omega (arith, c.remove.ensures.capacity, c.self.invariant.1),
  subst IsRising (sym c.remove.ensures.items) (rises_remove 0 c.self.inside.entries.items 0 c.self.invariant.2),
)
