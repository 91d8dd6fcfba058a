use Rattle.std.proofs.Common.{rules}
use Rattle.xt_volumes.proofs.RefusalLemmas.{size_wrong}
use Rattle.xt_volumes.proofs.refusal.spelling_fault.Goals as goal

-- the last part is there, and no size
pub returns-then-is_none-4 : goal.returns-then-is_none-4
returns-then-is_none-4 c = λ none. (_, c.in-Some.ensures.cut, size_wrong _ _ c.size_of.ensures (search (rules, c.if-is_none-4.true)))
