use Rattle.std.proofs.Common.{◌≡◌, ◌∙◌, Some, ap, arith, length, subst, sym}
use Rattle.std.specs.Prelude.{sum_by}
use Rattle.xt_base.specs.Maps.{at, put}
use Rattle.xt_base.specs.Sound.{IsRising}
use Rattle.xt_base.specs.Space.{item_cost}
use Rattle.xt_items.specs.Lists.{Lists}
use Rattle.xt_items.proofs.WeightLemmas.{weight_again, weight_le, weight_new}
use Rattle.xt_items.proofs.items.Items.weight_with.Goals as goal

pub overflow_add-weight : goal.overflow_add-weight
overflow_add-weight c =
    let few : length c.self.inside.cil ≡ length c.args.self.now.cil = ap (λ (l : Lists). length l.cil) c.self.view_is in
    omega (arith, weight_le c.self.inside.cil c.self.invariant.2, c.self.invariant.1, few, c.requires.room, c.item_cost.ensures.value, c.item_cost.ensures.few)

pub overflow_sub-result : goal.overflow_sub-result
overflow_sub-result c =
    let cil = c.self.inside.cil in
    let rises = subst IsRising c.entries-items.ensures.value c.entries-items.ensures.rising in
    let there : at c.args.block cil ≡ Some c.in-Some.before = ap (λ (l : Lists). at c.args.block l.cil) c.self.view_is ∙ sym c.requires.before ∙ c.in-Some.is in
    omega (arith, weight_again c.args.block c.args.chunks c.in-Some.before cil rises there, c.self.invariant.1, c.item_cost.ensures.value, c.item_cost-in-Some.ensures.value)

pub returns-in-Some-clause-value : goal.returns-in-Some-clause-value
returns-in-Some-clause-value c =
    let cil = c.self.inside.cil in
    let rises = subst IsRising c.entries-items.ensures.value c.entries-items.ensures.rising in
    let there : at c.args.block cil ≡ Some c.in-Some.before = ap (λ (l : Lists). at c.args.block l.cil) c.self.view_is ∙ sym c.requires.before ∙ c.in-Some.is in
    let same : sum_by item_cost (put c.args.block c.args.chunks cil) ≡ sum_by item_cost (put c.args.block c.args.chunks c.args.self.now.cil) =
    ap (λ (l : Lists). sum_by item_cost (put c.args.block c.args.chunks l.cil)) c.self.view_is in
    omega (arith, same, weight_again c.args.block c.args.chunks c.in-Some.before cil rises there, c.self.invariant.1, c.item_cost.ensures.value, c.item_cost-in-Some.ensures.value)

pub returns-in-None-clause-value : goal.returns-in-None-clause-value
returns-in-None-clause-value c =
    let cil = c.self.inside.cil in
    let rises = subst IsRising c.entries-items.ensures.value c.entries-items.ensures.rising in
    let there = ap (λ (l : Lists). at c.args.block l.cil) c.self.view_is ∙ sym c.requires.before ∙ c.in-None.is in
    let same : sum_by item_cost (put c.args.block c.args.chunks cil) ≡ sum_by item_cost (put c.args.block c.args.chunks c.args.self.now.cil) =
    ap (λ (l : Lists). sum_by item_cost (put c.args.block c.args.chunks l.cil)) c.self.view_is in
    omega (arith, same, weight_new c.args.block c.args.chunks cil rises there, c.self.invariant.1, c.item_cost.ensures.value)
