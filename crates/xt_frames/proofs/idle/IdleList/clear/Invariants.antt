use Rattle.std.proofs.Common.{length}
use Rattle.xt_frames.proofs.idle.IdleList.clear.Given as goal

abbrev pub decreases-loop-block : goal.decreases-loop-block
decreases-loop-block l = length l.self
