use Rattle.xt_frames.proofs.WordLemmas.{has_without}
use Rattle.xt_frames.proofs.kept.chunks_without.Goals as goal

pub returns : goal.returns
returns c = has_without c.word.result c.word-2.result c.args.set c.args.other c.of_word.result c.word.ensures.back c.word-2.ensures.back c.word-2.type_inv c.of_word.ensures
