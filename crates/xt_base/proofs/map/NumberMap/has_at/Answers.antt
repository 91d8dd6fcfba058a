use Rattle.std.proofs.Common.{◌∙◌, ◌<◌, ap, arith, length}
use Rattle.std.proofs.lemmas.Bool.{eqb-true}
use Rattle.xt_base.specs.Maps.{is_in}
use Rattle.xt_base.proofs.PlaceLemmas.{in_at}
use Rattle.xt_base.proofs.map.NumberMap.has_at.Goals as goal

pub returns-then-at-len : goal.returns-then-at-len
returns-then-at-len g c same =
    let lt : c.args.at < length c.self.inside.entries.items = omega arith in (
      in_at c.args.key c.self.inside.entries.items c.args.at c.index.result.now lt c.index.ensures (eqb-true c.index.result.now.0 c.args.key same) ∙ ap (is_in c.args.key) c.self.view_is,
      omega (arith, lt, c.self.invariant.0),
    )
