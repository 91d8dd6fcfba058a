use Rattle.std.proofs.Common.{◌∙◌, ap, sym}
use Rattle.xt_base.specs.Maps.{at}
use Rattle.xt_items.proofs.SieveLemmas.{absent}
use Rattle.xt_items.proofs.sieved.SievedMap.get.Goals as goal

pub returns-then-not-passes : goal.returns-then-not-passes
returns-then-not-passes g c = sym (absent c.self.inside.bits c.args.key c.self.inside.map c.self.invariant (sym c.passes.ensures ∙ c.if-not-passes.true)) ∙ ap (at c.args.key) c.self.view_is
