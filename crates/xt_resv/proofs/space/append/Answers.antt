use Rattle.xt_resv.proofs.LandedLemmas.{landed_rises}
use Rattle.xt_resv.proofs.space.append.Goals as goal

pub returns-clause-rising : goal.returns-clause-rising
returns-clause-rising c = landed_rises _ _ _ _ c.requires.rising c.requires.below c.push_back_reserved.ensures.items
