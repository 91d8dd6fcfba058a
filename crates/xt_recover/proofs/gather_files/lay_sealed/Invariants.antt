use Rattle.xt_recover.proofs.FilesLemmas.{IsLayingOn}
use Rattle.xt_recover.specs.Overlaid.{overlaid}
use Rattle.xt_window.specs.Window.{IsTied}
use Rattle.xt_recover.proofs.gather_files.lay_sealed.Given as goal

abbrev pub invariant-loop-texts : goal.invariant-loop-texts
invariant-loop-texts g l = record {
  laying : IsLayingOn l.fn.source l.source (g.L.Read.remaining l.fn.log) (g.L.Read.remaining l.log) l.fn.before l.texts (overlaid l.fn.overlay) (overlaid l.overlay);
  tied : IsTied l.source.window (g.L.Read.remaining l.log);
}
