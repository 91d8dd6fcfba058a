use Rattle.xt_frames.proofs.BusyLemmas.{busy_cleared, tied_cleared}
use Rattle.xt_frames.proofs.busy.BusyFrames.clear.Goals as goal

pub invariant_of-self : goal.invariant_of-self
invariant_of-self c = tied_cleared c.self.inside.frames c.clear.new.self c.clear-2.new.self c.self.invariant.room c.clear.ensures.empty c.clear.ensures.capacity c.clear-2.ensures

pub returns : goal.returns
returns c = busy_cleared c.clear.new.self c.clear-2.new.self c.clear-2.ensures
