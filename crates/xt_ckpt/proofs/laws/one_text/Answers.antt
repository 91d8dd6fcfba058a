use Rattle.xt_ckpt.proofs.OneText as texts
use Rattle.xt_ckpt.proofs.laws.one_text.Goals as goal

pub returns : goal.returns
returns c = texts.one_text
