use Rattle.std.proofs.Common.{◌∙◌, ◌<◌, ap, arith, filter, length, map, sym, take, ℕ}
use Rattle.std.proofs.lemmas.List.{take_all}
use Rattle.xt_base.specs.Jobs.{by_number}
use Rattle.xt_items.specs.Lists.{Lists}
use Rattle.xt_items.specs.Plans.{is_unpinned}
use Rattle.xt_items.proofs.PlanLemmas.{not_taken, passed_by, passed_more}
use Rattle.xt_items.proofs.items.Items.flush_plan.Goals as goal
use Rattle.xt_items.proofs.items.Items.flush_plan.Goals.{then-takes+then-is_unpinned, else-takes, else-takes-via-then-takes+else-is_unpinned, else-takes-via-else-takes}

pub loop-entry-preserved : goal.loop-entry-preserved
loop-entry-preserved g c =
    λ f fits.
    let n = c.loop-entry.entry-index in
    let p = λ (e : ℕ × ℕ). is_unpinned f c.args.self.now e.0 in
    let xs = c.entries-entries.result.now in
    let lt : n < length xs = omega arith in
    let before = c.loop-entry.invariant f fits in
    elim c.if-takes.branch [
      | then-takes+then-is_unpinned w ↦
          passed_more n p xs (0, 0) lt 8 c.loop-entry.earliest c.if-takes.earliest (sym (w.is_unpinned.ensures f fits) ∙ w.if-is_unpinned.true) before (w.earliest-is ∙ w.add.ensures)
      | else-takes w ↦
          elim w.else-takes.branch [
            | else-takes-via-then-takes+else-is_unpinned v ↦ w.earliest-is ∙ passed_by n p xs (0, 0) lt 8 c.loop-entry.earliest (sym (v.is_unpinned.ensures f fits) ∙ v.if-is_unpinned.false) before
            | else-takes-via-else-takes v ↦ w.earliest-is ∙ not_taken n p xs (0, 0) lt c.loop-entry.earliest (sym c.takes.ensures ∙ v.if-takes.false) before
          ]
    ]

pub returns : goal.returns
returns g c =
    λ f fits.
    let p = λ (e : ℕ × ℕ). is_unpinned f c.args.self.now e.0 in
    let xs = c.entries-entries.result.now in
    let ail = c.entries-entries.ensures.value ∙ ap (λ (l : Lists). l.ail) c.self.view_is in
    let all = take_all c.loop-entry.entry-index xs (omega arith) in
    c.plan.ensures ∙ ap (map (λ e. e.0)) (c.loop-entry.invariant f fits ∙ ap (λ ys. take 8 (by_number (filter p ys))) (all ∙ ail))
