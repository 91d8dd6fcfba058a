use Rattle.std.proofs.Common.{◌∙◌, ap, arith, filter, rules, subst, sym}
use Rattle.std.proofs.lemmas.Fn.{filter_same}
use Rattle.xt_base.specs.Sound.{IsRising}
use Rattle.xt_base.proofs.RisingLemmas.{rises_where_true}
use Rattle.xt_base.proofs.map.NumberMap.retain.Goals as goal

pub invariant_of-self : goal.invariant_of-self
invariant_of-self g c = (
  omega (arith, c.retain.ensures.bound, c.self.invariant.0),
  omega (arith, c.retain.ensures.capacity, c.self.invariant.1),
  subst IsRising (sym c.retain.ensures.filtered.4) (rises_where_true 0 c.retain.ensures.filtered.0 c.self.inside.entries.items c.self.invariant.2),
)

pub returns-clause-rest : goal.returns-clause-rest
returns-clause-rest g c kept says =
    filter_same _ (λ e. kept e.0) _ (λ x r f' k. search rules) _ _ c.retain.ensures.filtered ∙ ap (filter (λ e. kept e.0)) c.self.view_is
