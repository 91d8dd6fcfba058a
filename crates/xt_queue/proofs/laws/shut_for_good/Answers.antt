use Rattle.xt_queue.proofs.LawLemmas.{stays_shut}
use Rattle.xt_queue.proofs.laws.shut_for_good.Goals as goal

pub returns : goal.returns
returns c = record { law = stays_shut }
