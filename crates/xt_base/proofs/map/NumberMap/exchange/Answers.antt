use Rattle.std.proofs.Common.{◌∙◌, ap}
use Rattle.xt_base.specs.Maps.{put}
use Rattle.xt_base.proofs.ViewLemmas.{put_without}
use Rattle.xt_base.proofs.map.NumberMap.exchange.Goals as goal

pub returns-clause-map : goal.returns-clause-map
returns-clause-map g c =
    c.put_new.ensures ∙ ap (put c.args.key c.args.value) c.remove-before.ensures.rest ∙ put_without 0 c.args.key c.args.value c.args.self.now c.keys_rise.ensures
