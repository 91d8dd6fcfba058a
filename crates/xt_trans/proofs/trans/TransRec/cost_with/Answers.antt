use Rattle.std.proofs.Common.{◌∙◌, ◌+◌, ap, arith, ℕ}
use Rattle.std.specs.Prelude.{sum_by, ◌-◌}
use Rattle.xt_base.specs.Legs.{with_marks}
use Rattle.xt_base.specs.Space.{item_cost}
use Rattle.xt_base.specs.State.{Leg}
use Rattle.xt_trans.proofs.CostLemmas.{cost_is_none, cost_is_some, cost_parts}
use Rattle.xt_trans.proofs.trans.TransRec.cost_with.Goals as goal
use Rattle.xt_trans.specs.LegItems.{gain_in, loss_in}

pub overflow_sub-total : goal.overflow_sub-total
overflow_sub-total c =
    let whole = cost_parts c.self.inside.items c.args.list.now c.self.invariant.rising c.requires in
    let stands = c.standing.ensures.value ∙ ap (sum_by item_cost) c.entries.ensures.value in
    let gains = c.gained_and_lost-gained.ensures.gained ∙ ap (sum_by (gain_in c.args.list.now)) c.entries-entries.ensures.value in
    let losses = c.gained_and_lost-gained.ensures.lost ∙ ap (sum_by (loss_in c.args.list.now)) c.entries-entries.ensures.value in
    omega (arith, whole, stands, gains, losses)

pub returns-then-total-eq0-clause-value : goal.returns-then-total-eq0-clause-value
returns-then-total-eq0-clause-value c =
    let whole = cost_parts c.self.inside.items c.args.list.now c.self.invariant.rising c.requires in
    let stands = c.standing.ensures.value ∙ ap (sum_by item_cost) c.entries.ensures.value in
    let gains = c.gained_and_lost-gained.ensures.gained ∙ ap (sum_by (gain_in c.args.list.now)) c.entries-entries.ensures.value in
    let losses = c.gained_and_lost-gained.ensures.lost ∙ ap (sum_by (loss_in c.args.list.now)) c.entries-entries.ensures.value in
    let here = ap (λ (l : Leg). sum_by item_cost (with_marks l.changes c.args.list.now)) c.self.view_is in
    cost_is_none c.args.form.ends _ (with_marks c.args.self.now.changes c.args.list.now) (omega (arith, whole, here, stands, gains, losses)) c.if-total-eq0.true

pub returns-else-total-eq0-clause-value : goal.returns-else-total-eq0-clause-value
returns-else-total-eq0-clause-value c =
    let whole = cost_parts c.self.inside.items c.args.list.now c.self.invariant.rising c.requires in
    let stands = c.standing.ensures.value ∙ ap (sum_by item_cost) c.entries.ensures.value in
    let gains = c.gained_and_lost-gained.ensures.gained ∙ ap (sum_by (gain_in c.args.list.now)) c.entries-entries.ensures.value in
    let losses = c.gained_and_lost-gained.ensures.lost ∙ ap (sum_by (loss_in c.args.list.now)) c.entries-entries.ensures.value in
    let here = ap (λ (l : Leg). sum_by item_cost (with_marks l.changes c.args.list.now)) c.self.view_is in
    let total : ℕ = c.standing.result + c.gained_and_lost-gained.result.0 - c.gained_and_lost-gained.result.1 in
    omega (arith, c.ends.ensures.value, cost_is_some c.args.form.ends total (with_marks c.args.self.now.changes c.args.list.now) (omega (arith, whole, here, stands, gains, losses)) c.if-total-eq0.false)
