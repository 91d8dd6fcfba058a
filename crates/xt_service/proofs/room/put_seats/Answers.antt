use Rattle.std.proofs.Common.{subst, sym, All, ◌≡◌}
use Rattle.std.proofs.lemmas.List.Elements.{All-append}
use Rattle.xt_service.proofs.room.put_seats.Goals as goal

-- those that were there, and those that were put behind them
pub returns-clause-boards : goal.returns-clause-boards
returns-clause-boards g c =
    subst (All (λ seat. seat.board.board ≡ c.args.host.now.board)) (sym c.in-Ok.ensures.items)
    (All-append (λ seat. seat.board.board ≡ c.args.host.now.board) _ _ c.requires.boards c.requires.more_boards)

-- off none of them a seat was split
pub returns-clause-unsplit : goal.returns-clause-unsplit
returns-clause-unsplit g c =
    subst (All (λ seat. seat.board.splits ≡ 0)) (sym c.in-Ok.ensures.items)
    (All-append (λ seat. seat.board.splits ≡ 0) _ _ c.requires.unsplit c.requires.more_unsplit)
