use Rattle.std.specs.Prelude.{IfSome}
use Rattle.xt_offline.proofs.DumpLemmas.{Stands}
use Rattle.xt_offline.specs.LogDump.{whole_log}
use Rattle.xt_window.specs.Window.{IsTied}
use Rattle.xt_offline.proofs.logdump.dump_bare.Given as goal

abbrev pub invariant-loop : goal.invariant-loop
invariant-loop g l = record {
  stands : IfSome (whole_log l.fn.window (g.R.Read.remaining l.fn.reader)) (λ log. Stands l.fn.window.limit log l.window (g.R.Read.remaining l.reader) (g.W.Write.contents l.fn.writer) (g.W.Write.contents l.writer));
  tied : IsTied l.window (g.R.Read.remaining l.reader);
}
