use Rattle.xt_recover.proofs.WriteLemmas.{SoWritten}
use Rattle.xt_recover.specs.Overlaid.{overlaid}
use Rattle.xt_recover.proofs.overlay.Overlay.write_over.Given as goal

abbrev pub invariant-loop-block : goal.invariant-loop-block
invariant-loop-block g l = SoWritten (overlaid l.self) l.block-iterator (g.H.HomeDevice.home_tells l.fn.home) (g.H.HomeDevice.home_taken l.fn.home) (g.H.HomeDevice.home_tells l.home) (g.H.HomeDevice.home_taken l.home)
