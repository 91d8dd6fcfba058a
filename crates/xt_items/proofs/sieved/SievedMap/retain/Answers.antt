use Rattle.std.proofs.Common.{subst, sym}
use Rattle.xt_items.proofs.SieveLemmas.{stay_passed}
use Rattle.xt_items.proofs.sieved.SievedMap.retain.Goals as goal
use Rattle.xt_items.specs.Sieves.{ArePassed}

pub invariant_of-self : goal.invariant_of-self
invariant_of-self g c =
    let bits = c.self.inside.bits in
    subst (ArePassed bits) (sym c.retain.ensures.fewer.1) (stay_passed bits c.retain.ensures.fewer.0 c.self.inside.map c.self.invariant)
