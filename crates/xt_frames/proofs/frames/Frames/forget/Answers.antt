use Rattle.std.proofs.Common.{◌∙◌, sym}
use Rattle.xt_frames.proofs.SettleLemmas.{all_saved}
use Rattle.xt_frames.proofs.frames.Frames.forget.Goals as goal

pub returns : goal.returns
returns g c = λ saved fits.
    all_saved saved c.loop-block.frame c.loop-block.self (sym c.in_default.ensures.block) ∙ c.loop-block.invariant saved fits
