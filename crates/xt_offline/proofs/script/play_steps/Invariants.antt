use Rattle.std.proofs.Common.{take}
use Rattle.xt_offline.proofs.PlayLemmas.{HasPrinted}
use Rattle.xt_offline.proofs.script.play_steps.Given as goal

abbrev pub invariant-loop-at : goal.invariant-loop-at
invariant-loop-at g l = HasPrinted (take l.at l.steps) l.host l.waiting (g.W.Write.contents l.fn.writer) (g.W.Write.contents l.writer)
