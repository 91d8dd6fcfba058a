use Rattle.std.proofs.Common.{◌∙◌, [], ap}
use Rattle.std.specs.Prelude.{nat_le}
use Rattle.xt_base.specs.Calls.{edited}
use Rattle.xt_base.specs.Space.{charge}
use Rattle.xt_base.specs.State.{Transaction}
use Rattle.xt_mount.proofs.ChargeLemmas.{fits_anew}
use Rattle.xt_mount.proofs.open_trans.OpenTrans.fits_logged.Goals as goal

pub returns : goal.returns
returns c =
    let leg = c.self.inside.leg in
    c.fits.ensures ∙ fits_anew c.args.form.ends leg (edited c.block.inside.0 [] c.args.marked leg) c.self.inside.ticket c.newly_logged.result c.self.invariant c.newly_logged.ensures.charge
    ∙ ap (λ (t : Transaction). nat_le (charge c.args.form.ends (edited c.block.inside.0 [] c.args.marked t.leg).changes) t.unit) c.self.view_is
    ∙ ap (λ b. nat_le (charge c.args.form.ends (edited b [] c.args.marked c.args.self.now.leg).changes) c.args.self.now.unit) c.block.view_is
