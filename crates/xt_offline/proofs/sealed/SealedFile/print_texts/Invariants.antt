use Rattle.std.specs.Prelude.{IfSome}
use Rattle.xt_offline.proofs.SealedLemmas.{Standing}
use Rattle.xt_offline.specs.SealedDump.{IsChained, IsFurther, IsUnprinted}
use Rattle.xt_window.specs.Window.{ahead, IsTied}
use Rattle.xt_offline.proofs.sealed.SealedFile.print_texts.Given as goal

abbrev pub invariant-loop : goal.invariant-loop
invariant-loop g l = record {
  stands : IfSome (ahead l.fn.self.window (g.R.Read.remaining l.fn.reader)) (λ bytes. IsUnprinted l.fn.self → Standing l.fn.self.header bytes l.self.last l.self.window (g.R.Read.remaining l.reader) (g.W.Write.contents l.fn.writer) (g.W.Write.contents l.writer));
  chained : IsChained l.self;
  tied : IsTied l.self.window (g.R.Read.remaining l.reader);
  further : IsFurther l.fn.self l.self;
}
