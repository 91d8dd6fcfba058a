use Rattle.std.proofs.Common.{ap, subst, sym, take, ◌++◌, ◌∙◌}
use Rattle.std.specs.List.{concat}
use Rattle.xt_seal.specs.Seal.{Seals}
use Rattle.xt_c.proofs.SealLemmas.{with_piece}
use Rattle.xt_c.proofs.seals.seal_of.Goals as goal

-- the piece was summed up behind those before it
pub loop-piece-preserved : goal.loop-piece-preserved
loop-piece-preserved c =
    let so_far = concat (take c.loop-piece.piece-index c.args.pieces.now) in
    let more = with_piece c.args.pieces.now c.loop-piece.piece-index c.piece-item.result c.loop-piece-test.true (sym c.piece-item.is) ∙ ap (λ p. so_far ++ p) (sym c.as_slice.ensures) in
    subst (λ t. Seals c.note.new.self c.args.head.now c.args.before.now t) (sym more) (c.note.ensures c.args.head.now c.args.before.now so_far c.loop-piece.invariant)
