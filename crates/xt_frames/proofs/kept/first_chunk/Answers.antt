use Rattle.xt_frames.proofs.WordLemmas.{none_before}
use Rattle.xt_frames.proofs.kept.first_chunk.Goals as goal

pub returns : goal.returns
returns c = λ k before lt. none_before c.word.result c.args.set k c.word.ensures.back c.word.type_inv before lt
