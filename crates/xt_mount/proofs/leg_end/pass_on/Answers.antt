use Rattle.std.proofs.Common.{◌∙◌, rules}
use Rattle.xt_mount.proofs.EndLemmas.{owners_left}
use Rattle.xt_mount.proofs.leg_end.pass_on.Goals as goal
use Rattle.xt_mount.specs.Ending.{owner_left}

pub returns : goal.returns
returns c = c.end_leg.ensures (owner_left c.args.leg.now c.args.number) (λ b o h. search rules) ∙ owners_left c.args.trans c.args.number c.args.leg.now c.args.locks.now
