use Rattle.std.proofs.Common.{◌∙◌, ap}
use Rattle.std.specs.Prelude.{is_some}
use Rattle.xt_base.specs.Maps.{is_in}
use Rattle.xt_frames.proofs.IdleLemmas.{found_is}
use Rattle.xt_frames.proofs.idle.IdleList.contains.Goals as goal

pub returns : goal.returns
returns c = c.is_some.ensures ∙ ap is_some c.name_of.ensures ∙ found_is c.args.block c.self.inside.names.entries ∙ ap (is_in c.args.block) c.self.view_is
