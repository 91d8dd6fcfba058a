use Rattle.std.proofs.Common.{rules}
use Rattle.xt_volumes.proofs.volume.Volume.parse.Goals as goal

-- it is the word behind so many others that spells none
pub returns-in-Ok-None-clause-bad : goal.returns-in-Ok-None-clause-bad
returns-in-Ok-None-clause-bad c = λ number is. (search (rules, is), c.read.ensures.none (search rules))
