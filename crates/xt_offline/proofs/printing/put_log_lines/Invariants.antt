use Rattle.std.proofs.Common.{take, ◌≡◌, ◌++◌}
use Rattle.xt_offline.specs.Printing.{log_lines}
use Rattle.xt_offline.proofs.printing.put_log_lines.Given as goal

abbrev pub invariant-loop-offer : goal.invariant-loop-offer
invariant-loop-offer l = l.waiting ≡ l.fn.waiting ++ log_lines l.slot (take l.offer-index l.offers)
