use Rattle.std.proofs.Common.{arith}
use Rattle.xt_items.proofs.PassedLemmas.{none_before, none_between}
use Rattle.xt_items.proofs.items.is_passed.Goals as goal

pub returns-then-at-eq0 : goal.returns-then-at-eq0
returns-then-at-eq0 c = λ _. none_before c.args.block c.args.entries.now c.args.at c.requires (omega (arith, c.if-at-entries.false)) (omega (arith, c.if-block-entries.false)) (omega (arith, c.if-at-eq0.true))

pub returns : goal.returns
returns c = λ low.
    none_between c.args.block c.args.entries.now c.args.at c.requires (omega (arith, c.if-at-entries.false)) (omega (arith, c.if-block-entries.false)) (λ none. omega (arith, none, c.if-at-eq0.false)) low
