use Rattle.xt_volumes.proofs.VolumeLemmas.{apart_cut, cut_there, free_uncut, not_cut}
use Rattle.xt_volumes.proofs.volume.cut.Goals as goal

pub returns-clause-cut : goal.returns-clause-cut
returns-clause-cut c = λ xs ys none is. cut_there _ xs ys _ c.split_once.ensures.cases is none

pub returns-clause-whole : goal.returns-clause-whole
returns-clause-whole c = λ none. not_cut _ _ c.split_once.ensures.cases none

pub returns-clause-apart : goal.returns-clause-apart
returns-clause-apart c = apart_cut _ _ c.split_once.ensures.cases

pub returns-clause-uncut : goal.returns-clause-uncut
returns-clause-uncut c = λ none. free_uncut _ _ c.split_once.ensures.cases none
