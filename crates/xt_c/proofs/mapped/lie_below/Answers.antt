use Rattle.std.proofs.Common.{rules, tests}
use Rattle.std.proofs.lemmas.Iterator.{YieldsList-from_slice}
use Rattle.std.proofs.lemmas.Iterator.Search.{all_from_yields_List}
use Rattle.std.specs.Prelude.{nat_lt}
use Rattle.xt_c.proofs.mapped.lie_below.Goals as goal

pub returns : goal.returns
returns c =
    all_from_yields_List (λ b. nat_lt b c.args.count) _ _ _ c.all.ensures.ran (YieldsList-from_slice c.args.blocks.now (cc)) (λ x b q k. search (rules, tests))
