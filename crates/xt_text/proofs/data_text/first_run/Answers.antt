use Rattle.std.proofs.lemmas.List.Sums.{prefix_len-le-length}
use Rattle.xt_text.proofs.data_text.first_run.Goals as goal

pub returns-clause-within : goal.returns-clause-within
returns-clause-within c = rw c.count_equal.ensures.value (prefix_len-le-length _ c.args.bytes.now)
