use Rattle.xt_cell.proofs.FactLemmas.{posted_home, posted_idle, posted_log, posted_pieces}
use Rattle.xt_cell.proofs.posting.post_one.Goals as goal

pub returns-then-is_ok-clause-home : goal.returns-then-is_ok-clause-home
returns-then-is_ok-clause-home g c = posted_home _ _ _ c.posted.ensures.booked.served

pub returns-then-is_ok-clause-log : goal.returns-then-is_ok-clause-log
returns-then-is_ok-clause-log g c = posted_log _ _ _ c.posted.ensures.booked.served

pub returns-then-is_ok-clause-idle : goal.returns-then-is_ok-clause-idle
returns-then-is_ok-clause-idle g c = posted_idle _ _ _ c.posted.ensures.booked.served

pub returns-then-is_ok-clause-pieces : goal.returns-then-is_ok-clause-pieces
returns-then-is_ok-clause-pieces g c = posted_pieces _ _ _ c.posted.ensures.booked.served
