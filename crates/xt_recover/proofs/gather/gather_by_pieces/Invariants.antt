use Rattle.std.specs.Prelude.{IfSome}
use Rattle.xt_recover.proofs.GatherLemmas.{Stands}
use Rattle.xt_recover.specs.Overlaid.{overlaid}
use Rattle.xt_window.specs.Window.{IsTied, ahead}
use Rattle.xt_recover.proofs.gather.gather_by_pieces.Given as goal

abbrev pub invariant-loop-texts : goal.invariant-loop-texts
invariant-loop-texts g l = record {
  stands : IfSome (ahead l.fn.window (g.L.Read.remaining l.fn.log)) (λ bytes. Stands bytes l.window (g.L.Read.remaining l.log) l.texts (overlaid l.overlay));
  tied : IsTied l.window (g.L.Read.remaining l.log);
}
