use Rattle.std.proofs.Common.{◌∙◌, sym}
use Rattle.xt_frames.proofs.SettleLemmas.{all_marked}
use Rattle.xt_frames.proofs.frames.Frames.settle_marks.Goals as goal

pub returns : goal.returns
returns g c = λ busy fits.
    all_marked busy c.loop-block.mark c.loop-block.self (sym c.in_default.ensures.block) ∙ c.loop-block.invariant busy fits
