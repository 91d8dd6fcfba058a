use Rattle.std.proofs.Common.{◌∙◌, ap}
use Rattle.xt_base.proofs.ViewLemmas.{keys_without}
use Rattle.xt_base.specs.Maps.{without_member}
use Rattle.xt_frames.proofs.FreshLemmas.{are_without}
use Rattle.xt_frames.specs.Fresh.{fresh_of, is_fresh_mark}
use Rattle.xt_frames.proofs.fresh.FreshBlocks.remove.Goals as goal

pub invariant_of-self : goal.invariant_of-self
invariant_of-self c = are_without c.self.inside.marks c.remove-marks.new.self c.args.block c.self.invariant c.remove-marks.ensures.rest

pub returns : goal.returns
returns c = ap fresh_of c.remove-marks.ensures.rest ∙ keys_without is_fresh_mark 0 c.args.block c.self.inside.marks c.self.invariant.rising ∙ ap (without_member c.args.block) c.self.view_is
