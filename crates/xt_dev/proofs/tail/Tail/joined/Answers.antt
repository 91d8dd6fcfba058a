use Rattle.std.proofs.Common.{rules}
use Rattle.std.proofs.lemmas.Slice.{overwrites}
use Rattle.xt_dev.proofs.tail.Tail.joined.Goals as goal

-- src/tail.rt:70:5
pub returns : goal.returns
returns c = search (rules, overwrites)
