use Rattle.std.proofs.Common.{◌≡◌, take, true}
use Rattle.xt_base.specs.Text.{offered}
use Rattle.xt_core.proofs.offers.taken_offers.Given as goal

abbrev pub invariant-loop-piece : goal.invariant-loop-piece
invariant-loop-piece l = l.offers.items ≡ offered true (take l.piece-index l.pieces)
