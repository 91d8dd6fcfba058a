use Rattle.xt_ckpt.proofs.Lengths.{length_sized, length_text}
use Rattle.xt_ckpt.proofs.laws.text_length.Goals as goal

pub returns-clause-plain : goal.returns-clause-plain
returns-clause-plain c = length_text

pub returns-clause-sized : goal.returns-clause-sized
returns-clause-sized c = length_sized
