use Rattle.std.proofs.Common.{◌≡◌, ◌+◌, ◌++◌, ◌<◌, ◌∷◌, List, arith, drop, length, slice_get, subst, sym, take, ℕ}
use Rattle.std.proofs.lemmas.List.{length-set}
use Rattle.std.specs.Prelude.{IfSome, slice_set}
use Rattle.xt_base.proofs.PlaceLemmas.{replaced, rises_replaced}
use Rattle.xt_base.proofs.map.NumberMap.replace_at.Goals as goal

pub invariant_of-self : goal.invariant_of-self
invariant_of-self g c = (
  omega (arith, c.self.invariant.0, length-set {A = ℕ × g.row.V.Denot} c.self.inside.entries.items c.args.index (c.index.result.now.0, c.args.value)),
  omega (arith, c.self.invariant.1),
  rises_replaced 0 c.args.value c.self.inside.entries.items c.args.index c.index.result.now c.self.invariant.2 c.index.ensures,
)

pub returns : goal.returns
returns g c =
    let there : c.args.index < length c.args.self.now = omega arith in
    let lt : c.args.index < length c.self.inside.entries.items = subst (λ (m : List (ℕ × g.row.V.Denot)). c.args.index < length m) (sym c.self.view_is) there in
    subst (λ m. IfSome (slice_get m c.args.index) (λ e. slice_set c.self.inside.entries.items c.args.index (c.index.result.now.0, c.args.value) ≡ take c.args.index m ++ ((e.0, c.args.value) ∷ drop (c.args.index + 1) m)))
    c.self.view_is (replaced c.args.value c.self.inside.entries.items c.args.index c.index.result.now lt c.index.ensures)
