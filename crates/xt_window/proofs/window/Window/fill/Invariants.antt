use Rattle.xt_window.specs.Window.{IsRefilled}
use Rattle.xt_window.proofs.window.Window.fill.Given as goal

abbrev pub invariant-loop : goal.invariant-loop
invariant-loop g l = IsRefilled l.fn.self l.self (g.R.Read.remaining l.fn.reader) (g.R.Read.remaining l.reader)
