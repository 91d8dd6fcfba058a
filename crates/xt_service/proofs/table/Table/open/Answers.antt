use Rattle.std.proofs.Common.{ap, rules, subst, sym, All, ◌≡◌, ◌∙◌}
use Rattle.std.proofs.lemmas.List.Elements.{All-push}
use Rattle.xt_cell.specs.HostSeats.{HostSeatView}
use Rattle.xt_service.proofs.HostChains.{host_session_used}
use Rattle.xt_service.proofs.TableLemmas.{placed, popped}
use Rattle.xt_service.proofs.table.Table.open.Goals as goal

-- the session that begins is by the seat that was taken, and so of the same host, and so are the seats that are left
pub invariant_of-self : goal.invariant_of-self
invariant_of-self g c =
    let like = c.args.self.now.like.value.board.board in
    let seats = popped (λ seat. seat.board.board ≡ like) _ _ _ _ c.pop.ensures.items c.in-Some.is c.args.self.now.seats in
    let unsplit = popped (λ seat. seat.board.splits ≡ 0) _ _ _ _ c.pop.ensures.items c.in-Some.is c.args.self.now.unsplit in
    record {
      most = search rules;
      keys = search rules;
      room = search rules;
      seats = seats.0;
      unsplit = unsplit.0;
      promised = placed (λ session. session.promise.0.value.board.board ≡ like) _ _ _ _ c.insert_reserved.ensures.updates (ap (λ (s : HostSeatView). s.board.board) c.in-Ok-start.ensures.session ∙ seats.1) c.args.self.now.promised;
      promised_unsplit = placed (λ session. session.promise.0.value.board.splits ≡ 0) _ _ _ _ c.insert_reserved.ensures.updates (ap (λ (s : HostSeatView). s.board.splits) c.in-Ok-start.ensures.session ∙ unsplit.1) c.args.self.now.promised_unsplit;
    }

-- or the seat is back after a session that was served here
pub invariant_of-self-in-Err-clause-seats : goal.invariant_of-self-in-Err-clause-seats
invariant_of-self-in-Err-clause-seats g c =
    let like = c.args.self.now.like.value.board.board in
    let seats = popped (λ seat. seat.board.board ≡ like) _ _ _ _ c.pop.ensures.items c.in-Some.is c.args.self.now.seats in
    subst (All (λ seat. seat.board.board ≡ like)) (sym c.push_reserved.ensures.items) (All-push (λ seat. seat.board.board ≡ like) _ _ seats.0 (c.in-Err.ensures.seat ∙ sym c.requires.board))

pub invariant_of-self-in-Err-clause-unsplit : goal.invariant_of-self-in-Err-clause-unsplit
invariant_of-self-in-Err-clause-unsplit g c =
    let unsplit = popped (λ seat. seat.board.splits ≡ 0) _ _ _ _ c.pop.ensures.items c.in-Some.is c.args.self.now.unsplit in
    let used = host_session_used _ _ _ _ _ _ _ c.in-Err.ensures.ended.1 in
    subst (All (λ seat. seat.board.splits ≡ 0)) (sym c.push_reserved.ensures.items) (All-push (λ seat. seat.board.splits ≡ 0) _ _ unsplit.0 (used.splits ∙ unsplit.1))
