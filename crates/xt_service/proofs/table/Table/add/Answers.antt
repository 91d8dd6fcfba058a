use Rattle.std.proofs.Common.{subst, sym, All, ◌≡◌}
use Rattle.std.proofs.lemmas.List.Elements.{All-push}
use Rattle.xt_service.proofs.table.Table.add.Goals as goal

-- the seat that is added is of the same host
pub invariant_of-self-clause-seats : goal.invariant_of-self-clause-seats
invariant_of-self-clause-seats g c =
    subst (All (λ seat. seat.board.board ≡ c.args.self.now.like.value.board.board)) (sym c.push_reserved.ensures.items)
    (All-push (λ seat. seat.board.board ≡ c.args.self.now.like.value.board.board) _ _ c.args.self.now.seats c.requires.board)

-- and off none of them another was split
pub invariant_of-self-clause-unsplit : goal.invariant_of-self-clause-unsplit
invariant_of-self-clause-unsplit g c =
    subst (All (λ seat. seat.board.splits ≡ 0)) (sym c.push_reserved.ensures.items) (All-push (λ seat. seat.board.splits ≡ 0) _ _ c.args.self.now.unsplit c.requires.unsplit)
