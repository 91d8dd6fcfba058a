use Rattle.std.proofs.Common.{◌++◌, ap}
use Rattle.xt_frames.proofs.BusyLemmas.{copied_all}
use Rattle.xt_frames.specs.Busy.{busy_of, committed_of}
use Rattle.xt_frames.proofs.busy.copies_of.Goals as goal

pub loop-e-init : goal.loop-e-init
loop-e-init c = ap (λ xs. xs ++ committed_of (busy_of c.args.frames.now c.args.index.now)) c.in_ok-copies.ensures.items

pub returns : goal.returns
returns c = copied_all c.args.frames.now c.args.index.now c.loop-e.e-index c.loop-e.copies.items c.loop-e-test.false c.loop-e.invariant
