use Rattle.xt_queue.proofs.LawLemmas.{goes_once_in_order}
use Rattle.xt_queue.proofs.laws.once_in_order.Goals as goal

pub returns : goal.returns
returns c = record { law = goes_once_in_order }
