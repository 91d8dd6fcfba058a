use Rattle.std.proofs.Common.{rules}
use Rattle.xt_volumes.proofs.RefusalLemmas.{spelled_wrong}
use Rattle.xt_volumes.specs.Volumes.{Spells}
use Rattle.xt_volumes.proofs.refusal.word_fault.Goals as goal

-- a volume whose sizes are right
pub returns-in-Some-clause-none : goal.returns-in-Some-clause-none
returns-in-Some-clause-none c = λ is. (c.in-Some.volume, search rules, c.size_fault.ensures.none (search (rules, is)))

-- or one of which a size is wrong
pub returns-in-Some-clause-found : goal.returns-in-Some-clause-found
returns-in-Some-clause-found c =
    let spelled : Spells c.args.word.now c.in-Some.volume = search rules in
    spelled_wrong _ _ _ spelled c.size_fault.ensures.outside

-- or none
pub returns-in-None-clause-found : goal.returns-in-None-clause-found
returns-in-None-clause-found c = c.spelling_fault.ensures (c.in_ok-volume.ensures.none (search rules))
