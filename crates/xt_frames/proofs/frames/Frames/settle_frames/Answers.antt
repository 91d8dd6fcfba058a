use Rattle.std.proofs.Common.{◌∙◌, sym}
use Rattle.xt_frames.proofs.SettleLemmas.{all_framed}
use Rattle.xt_frames.proofs.frames.Frames.settle_frames.Goals as goal

pub returns : goal.returns
returns g c = λ busy fits.
    all_framed busy c.args.is_kept c.loop-block.frame c.loop-block.self (sym c.in_default.ensures.block) c.in_default.ensures.idle ∙ c.loop-block.invariant busy fits
