use Rattle.xt_ckpt.proofs.OneText.{same_text}
use Rattle.xt_ckpt.proofs.laws.no_text_begins_another.Goals as goal

pub returns : goal.returns
returns c = same_text
