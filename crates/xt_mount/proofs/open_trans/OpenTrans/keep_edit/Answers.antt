use Rattle.std.proofs.Common.{◌∙◌, ap, sym}
use Rattle.std.specs.Prelude.{sum_by}
use Rattle.xt_base.specs.Space.{change_cost}
use Rattle.xt_base.specs.State.{Leg}
use Rattle.xt_mount.proofs.ChargeLemmas.{charged_alike}
use Rattle.xt_mount.proofs.open_trans.OpenTrans.keep_edit.Goals as goal
use Rattle.xt_resv.specs.Ledgers.{Grant}

pub invariant_of-self : goal.invariant_of-self
invariant_of-self c =
    ap (λ (g : Grant). g.charged) c.pay_logged.ensures ∙ charged_alike c.args.block c.args.edit c.args.marked c.self.inside.leg ∙ ap (λ (l : Leg). sum_by change_cost l.changes) (sym c.log.ensures)
