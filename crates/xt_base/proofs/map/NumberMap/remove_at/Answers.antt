use Rattle.std.proofs.Common.{◌∙◌, ◌<◌, ap, arith, length, refl, subst, sym}
use Rattle.std.proofs.lemmas.Option.{slice_get_read}
use Rattle.std.specs.Prelude.{slice_get}
use Rattle.xt_base.proofs.PlaceLemmas.{rises_remove}
use Rattle.xt_base.specs.Sound.{IsRising}
use Rattle.xt_base.proofs.map.NumberMap.remove_at.Goals as goal

pub invariant_of-self : goal.invariant_of-self
invariant_of-self g c = (
  omega (arith, c.remove.ensures.len, c.self.invariant.0),
  omega (arith, c.remove.ensures.capacity, c.self.invariant.1),
  subst IsRising (sym c.remove.ensures.items) (rises_remove 0 c.self.inside.entries.items c.args.index c.self.invariant.2),
)

pub returns-clause-value : goal.returns-clause-value
returns-clause-value g c =
    let lt : c.args.index < length c.self.inside.entries.items = omega (arith, c.requires, ap length c.self.view_is) in
    ap (λ m. slice_get m c.args.index) (sym c.self.view_is) ∙ slice_get_read c.self.inside.entries.items (length c.self.inside.entries.items) c.args.index c.remove.result refl lt c.remove.ensures.value
