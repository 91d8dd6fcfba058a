use Rattle.std.proofs.Common.{◌∙◌, ap, sym}
use Rattle.std.specs.Prelude.{is_some}
use Rattle.xt_base.specs.Maps.{is_in}
use Rattle.xt_items.proofs.SieveLemmas.{absent}
use Rattle.xt_items.proofs.sieved.SievedMap.contains_near.Goals as goal

pub returns-else-passes : goal.returns-else-passes
returns-else-passes g c =
    let no_bit = sym c.passes.ensures ∙ c.if-passes.false in
    c.if-passes.false ∙ sym (ap is_some (absent c.self.inside.bits c.args.key c.self.inside.map c.self.invariant no_bit)) ∙ ap (is_in c.args.key) c.self.view_is
