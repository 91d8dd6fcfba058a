use Rattle.std.proofs.Common.{subst, sym, All, ◌≡◌, ◌∙◌}
use Rattle.std.proofs.lemmas.List.Elements.{All-push}
use Rattle.xt_service.proofs.HostChains.{host_session_used}
use Rattle.xt_service.proofs.TableLemmas.{taken}
use Rattle.xt_service.proofs.table.Table.take_back.Goals as goal

-- the seat that comes back is of the same host, as its thread served one session by it
pub invariant_of-self-2-clause-seats : goal.invariant_of-self-2-clause-seats
invariant_of-self-2-clause-seats g c =
    let kept = c.args.self.now.promised _ _ (sym c.try_remove.ensures.value ∙ c.in-Some.is) in
    let like = c.args.self.now.like.value.board.board in
    let used = host_session_used _ _ _ _ _ _ c.join.ensures.0 c.join.ensures.1 in
    subst (All (λ seat. seat.board.board ≡ like)) (sym c.push_reserved.ensures.items) (All-push (λ seat. seat.board.board ≡ like) _ _ c.args.self.now.seats (used.board ∙ kept))

-- and no seat was split off it
pub invariant_of-self-2-clause-unsplit : goal.invariant_of-self-2-clause-unsplit
invariant_of-self-2-clause-unsplit g c =
    let kept = c.args.self.now.promised_unsplit _ _ (sym c.try_remove.ensures.value ∙ c.in-Some.is) in
    let used = host_session_used _ _ _ _ _ _ c.join.ensures.0 c.join.ensures.1 in
    subst (All (λ seat. seat.board.splits ≡ 0)) (sym c.push_reserved.ensures.items) (All-push (λ seat. seat.board.splits ≡ 0) _ _ c.args.self.now.unsplit (used.splits ∙ kept))

-- so it is with the sessions that are left
pub invariant_of-self-2-clause-promised : goal.invariant_of-self-2-clause-promised
invariant_of-self-2-clause-promised g c = taken _ _ _ _ c.try_remove.ensures.updates c.args.self.now.promised

pub invariant_of-self-2-clause-promised_unsplit : goal.invariant_of-self-2-clause-promised_unsplit
invariant_of-self-2-clause-promised_unsplit g c = taken _ _ _ _ c.try_remove.ensures.updates c.args.self.now.promised_unsplit
