use Rattle.xt_text.proofs.ReadAgain.{same_data}
use Rattle.xt_text.proofs.data_text.one_spelling.Goals as goal

pub returns : goal.returns
returns c = same_data
