-- Seats that were split off another.
use Rattle.std.proofs.Common.{ap, refl, ◌∙◌, ◌≡◌}
use Rattle.xt_cell.specs.HostSeats.{HostSeatView, with_split}
use Rattle.xt_service.specs.Seats.{IsSplitOff}

-- none was split off
pub split_none : (s : HostSeatView) → IsSplitOff s s
split_none s = record { caller = refl; counts = refl; receipts = refl; board = refl; shown = refl; seen = refl; rank = refl }

-- some, and then some more
pub split_both : (a b c : HostSeatView) → IsSplitOff a b → IsSplitOff b c → IsSplitOff a c
split_both a b c p q = record {
  caller = q.caller ∙ p.caller;
  counts = q.counts ∙ p.counts;
  receipts = q.receipts ∙ p.receipts;
  board = q.board ∙ p.board;
  shown = q.shown ∙ p.shown;
  seen = q.seen ∙ p.seen;
  rank = q.rank ∙ p.rank;
}

-- one more
pub split_more : (a b c : HostSeatView) → IsSplitOff a b → c ≡ with_split b → IsSplitOff a c
split_more a b c p is = record {
  caller = ap (λ (s : HostSeatView). s.caller) is ∙ p.caller;
  counts = ap (λ (s : HostSeatView). s.counts) is ∙ p.counts;
  receipts = ap (λ (s : HostSeatView). s.receipts) is ∙ p.receipts;
  board = ap (λ (s : HostSeatView). s.board.board) is ∙ p.board;
  shown = ap (λ (s : HostSeatView). s.board.shown) is ∙ p.shown;
  seen = ap (λ (s : HostSeatView). s.board.seen) is ∙ p.seen;
  rank = ap (λ (s : HostSeatView). s.board.rank) is ∙ p.rank;
}

-- the same as before
pub split_same : (a b c : HostSeatView) → IsSplitOff a b → c ≡ b → IsSplitOff a c
split_same a b c p is = record {
  caller = ap (λ (s : HostSeatView). s.caller) is ∙ p.caller;
  counts = ap (λ (s : HostSeatView). s.counts) is ∙ p.counts;
  receipts = ap (λ (s : HostSeatView). s.receipts) is ∙ p.receipts;
  board = ap (λ (s : HostSeatView). s.board.board) is ∙ p.board;
  shown = ap (λ (s : HostSeatView). s.board.shown) is ∙ p.shown;
  seen = ap (λ (s : HostSeatView). s.board.seen) is ∙ p.seen;
  rank = ap (λ (s : HostSeatView). s.board.rank) is ∙ p.rank;
}
