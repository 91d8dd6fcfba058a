use Rattle.std.proofs.Common.{◌≡◌, subst, sym, true}
use Rattle.xt_base.proofs.RisingLemmas.{each_put}
use Rattle.xt_items.proofs.SieveLemmas.{still_passed}
use Rattle.xt_items.proofs.sieved.SievedMap.insert_at.Goals as goal
use Rattle.xt_items.specs.Sieves.{ArePassed, passes}

pub invariant_of-self : goal.invariant_of-self
invariant_of-self g c =
    let bits = c.with_key-self-inside.result in
    let others = still_passed c.self.inside.bits bits c.self.inside.map c.with_key-self-inside.ensures.others c.self.invariant in
    subst (ArePassed bits) (sym c.insert_at.ensures) (each_put (λ e. passes bits e.0 ≡ true) c.args.key c.args.value c.self.inside.map c.with_key-self-inside.ensures.key others)
