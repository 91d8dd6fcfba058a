use Rattle.std.proofs.Common.{◌∙◌, ap}
use Rattle.xt_base.specs.Stat.{stat_of}
use Rattle.xt_mount.proofs.mount.Mount.stat.Goals as goal

pub returns : goal.returns
returns c = c.stat.ensures ∙ ap stat_of c.self.view_is
