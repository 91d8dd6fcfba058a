use Rattle.std.proofs.Common.{◌≡◌, subst, sym, true}
use Rattle.xt_base.proofs.RisingLemmas.{each_without}
use Rattle.xt_items.proofs.sieved.SievedMap.remove.Goals as goal
use Rattle.xt_items.specs.Sieves.{ArePassed, passes}

pub invariant_of-self : goal.invariant_of-self
invariant_of-self g c =
    let bits = c.self.inside.bits in
    subst (ArePassed bits) (sym c.remove.ensures.rest) (each_without (λ e. passes bits e.0 ≡ true) c.args.key c.self.inside.map c.self.invariant)
