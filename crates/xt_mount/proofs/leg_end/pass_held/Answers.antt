use Rattle.std.proofs.Common.{◌∙◌, rules}
use Rattle.xt_mount.proofs.EndLemmas.{owners_kept}
use Rattle.xt_mount.proofs.leg_end.pass_held.Goals as goal
use Rattle.xt_mount.specs.Ending.{owner_kept}

pub returns : goal.returns
returns c = c.end_leg.ensures (owner_kept c.args.leg.now) (λ b o h. search rules) ∙ owners_kept c.args.trans c.args.leg.now c.args.locks.now
