use Rattle.xt_frames.proofs.WordLemmas.{none_from}
use Rattle.xt_frames.proofs.kept.chunk_end.Goals as goal

pub returns-clause-none : goal.returns-clause-none
returns-clause-none c = λ k from lt. none_from c.word.result c.args.set k c.word.ensures.back c.word.type_inv from lt
