use Rattle.std.proofs.Common.{◌∙◌, [], ap, sym, ℕ}
use Rattle.std.specs.Prelude.{nat_le}
use Rattle.xt_base.specs.Calls.{edited}
use Rattle.xt_base.specs.Space.{charge}
use Rattle.xt_base.specs.State.{Transaction}
use Rattle.xt_mount.proofs.ChargeLemmas.{edited_charge}
use Rattle.xt_mount.proofs.opened.Opened.fits_logged.Goals as goal

pub returns : goal.returns
returns c =
    let trans : Transaction = c.self.inside.trans.now in
    c.fits_logged.ensures ∙ sym (ap (λ (n : ℕ). nat_le n trans.unit) (edited_charge c.self.inside.frames.now.frames c.args.form.ends c.args.block c.args.marked trans.leg))
    ∙ ap (λ (t : Transaction). nat_le (charge c.args.form.ends (edited c.args.block [] c.args.marked t.leg).changes) t.unit) c.self.view_is
