use Rattle.std.proofs.Common.{take}
use Rattle.std.specs.List.{concat}
use Rattle.xt_seal.specs.Seal.{Seals}
use Rattle.xt_c.proofs.seals.seal_of.Given as goal

abbrev pub invariant-loop-piece : goal.invariant-loop-piece
invariant-loop-piece l = Seals l.sealer l.head l.before (concat (take l.piece-index l.pieces))
