use Rattle.std.proofs.Common.{◌∙◌, ap}
use Rattle.std.specs.Prelude.{nat_le}
use Rattle.xt_base.specs.Calls.{invalidated}
use Rattle.xt_base.specs.Space.{charge}
use Rattle.xt_base.specs.State.{Transaction}
use Rattle.xt_mount.proofs.ChargeLemmas.{fits_anew}
use Rattle.xt_mount.proofs.open_trans.OpenTrans.fits_invalidated.Goals as goal

pub returns : goal.returns
returns c =
    let leg = c.self.inside.leg in
    c.fits.ensures ∙ fits_anew c.args.form.ends leg (invalidated c.block.inside.0 leg) c.self.inside.ticket c.newly_invalidated.result c.self.invariant c.newly_invalidated.ensures.charge
    ∙ ap (λ (t : Transaction). nat_le (charge c.args.form.ends (invalidated c.block.inside.0 t.leg).changes) t.unit) c.self.view_is
    ∙ ap (λ b. nat_le (charge c.args.form.ends (invalidated b c.args.self.now.leg).changes) c.args.self.now.unit) c.block.view_is
