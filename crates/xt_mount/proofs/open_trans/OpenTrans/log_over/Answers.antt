use Rattle.std.proofs.Common.{◌∙◌, ◌+◌, ◌≤◌, List, [], ap, length, subst, sym, unwrap_or, ℕ}
use Rattle.std.specs.Prelude.{sum_by}
use Rattle.xt_base.specs.Calls.{edited, overwritten}
use Rattle.xt_base.specs.Chunks.{marks}
use Rattle.xt_base.specs.Legs.{change_of}
use Rattle.xt_base.specs.Sound.{IsRising}
use Rattle.xt_base.specs.Space.{change_cost}
use Rattle.xt_base.specs.State.{Leg, Transaction}
use Rattle.xt_mount.proofs.ChargeLemmas.{charged_alike}
use Rattle.xt_mount.proofs.StepLemmas.{over_step}
use Rattle.xt_mount.proofs.open_trans.OpenTrans.log_over.Goals as goal
use Rattle.xt_mount.specs.contracts.open_trans.OpenTrans.{the_view}
use Rattle.xt_resv.specs.Ledgers.{Grant}

pub write-requires-clause-within : goal.write-requires-clause-within
write-requires-clause-within c =
    subst (λ (t : Transaction). c.args.first + length c.args.bytes.now ≤ length (unwrap_or (change_of c.args.block t.leg).edit [])) (sym c.self.view_is) c.requires.within

pub invariant_of-self : goal.invariant_of-self
invariant_of-self c =
    let leg = c.self.inside.leg in
    let content : List ℕ = overwritten c.args.first c.args.bytes.now (unwrap_or (change_of c.args.block leg).edit []) in
    ap (λ (g : Grant). g.charged) c.pay_logged.ensures ∙ charged_alike c.args.block content c.mark-marked.result leg ∙ ap (λ (l : Leg). sum_by change_cost l.changes) (sym c.write.ensures)

pub returns : goal.returns
returns c =
    let block = c.args.block in
    let marked = c.mark-marked.result in
    let over : Leg → Leg = λ (l : Leg). edited block (overwritten c.args.first c.args.bytes.now (unwrap_or (change_of block l).edit [])) marked l in
    over_step block c.args.first c.args.bytes.now marked c.args.journal.now c.args.self.now (subst (λ (t : Transaction). IsRising t.leg.changes) c.self.view_is c.changes_rise.ensures) c.requires.some
    (c.mark-marked.ensures ∙ ap (marks c.args.first) c.len.ensures.value) _ c.requires.own c.requires.clean
    (ap (λ (g : Grant). record { unit = g.unit; legs = g.legs; perm = g.perm; leg = c.write.new.self }) c.pay_logged.ensures
    ∙ ap (λ (l : Leg). record (the_view c.self.inside) { leg = l }) c.write.ensures
    ∙ ap (λ (t : Transaction). record t { leg = over t.leg }) c.self.view_is)
