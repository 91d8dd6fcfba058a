use Rattle.std.proofs.Common.{take, ◌≡◌, ◌++◌}
use Rattle.xt_base.specs.Text.{offered}
use Rattle.xt_offline.specs.Printing.{log_lines}
use Rattle.xt_offline.proofs.printing.put_pieces.Given as goal

abbrev pub invariant-loop-piece : goal.invariant-loop-piece
invariant-loop-piece l = l.waiting ≡ l.fn.waiting ++ log_lines l.slot (offered l.ok (take l.piece-index l.pieces))
