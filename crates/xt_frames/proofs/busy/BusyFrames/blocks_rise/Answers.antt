use Rattle.std.proofs.Common.{subst}
use Rattle.xt_base.proofs.ViewLemmas.{rises_view}
use Rattle.xt_base.specs.Sound.{RisesFrom}
use Rattle.xt_frames.specs.Busy.{frame_in}
use Rattle.xt_frames.proofs.busy.BusyFrames.blocks_rise.Goals as goal

pub returns : goal.returns
returns c = subst (RisesFrom 0) c.self.view_is (rises_view (frame_in c.self.inside.frames) 0 c.self.inside.index c.self.invariant.rising)
