use Rattle.std.proofs.Common.{arith, inl, inr, refl, subst, sym, All, ◌≡◌, ◌⊎◌}
use Rattle.std.proofs.lemmas.List.Elements.{All-push}
use Rattle.xt_service.proofs.service.Service.end.Goals as goal
use Rattle.xt_service.specs.Seats.{IsUsed}

-- the seats of the places and of the workers, and the service's own
pub returns-clause-boards : goal.returns-clause-boards
returns-clause-boards g c =
    subst (All (λ seat. seat.board.board ≡ c.args.host.now.board)) (sym c.push_reserved.ensures.items)
    (All-push (λ seat. seat.board.board ≡ c.args.host.now.board) _ _ c.put_benches.ensures.boards c.unmount_each-kept.ensures.board)

-- the service's own was used, and off no other was a seat split
pub returns-clause-splits : goal.returns-clause-splits
returns-clause-splits g c =
    subst (All (λ seat. (seat.board.splits ≡ 0) ⊎ IsUsed c.args.self.own seat)) (sym c.push_reserved.ensures.items)
    (All-push (λ seat. (seat.board.splits ≡ 0) ⊎ IsUsed c.args.self.own seat) _ _ (λ i d less. inl (c.put_benches.ensures.unsplit i d less)) (inr c.unmount_each-kept.ensures.used))
