use Rattle.xt_ckpt.proofs.TextReads.{text_reads}
use Rattle.xt_ckpt.proofs.ReadsText.{reads_text}
use Rattle.xt_ckpt.proofs.laws.fields_make_texts.Goals as goal

pub returns : goal.returns
returns c = λ size bytes number items are. (λ way. reads_text size bytes number items are way.0 way.1, text_reads size bytes number items)
