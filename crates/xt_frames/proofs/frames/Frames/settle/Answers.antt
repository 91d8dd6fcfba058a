use Rattle.std.proofs.Common.{◌∙◌, ap}
use Rattle.xt_frames.specs.Settling.{fresh_from}
use Rattle.xt_frames.proofs.frames.Frames.settle.Goals as goal

pub returns : goal.returns
returns g c = λ busy fits. c.settle_marks.ensures busy fits ∙ ap (fresh_from busy 0) (c.settle_frames.ensures busy fits)
