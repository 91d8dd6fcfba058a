-- Each sector that was looked at is not in doubt.
use Rattle.std.proofs.Common.{rules, sym, ◌∙◌}
use Rattle.xt_dev.proofs.Doubted.{none_among, none_more}
use Rattle.xt_dev.proofs.doubts.Doubts.has.Goals as goal

pub loop-k-preserved : goal.loop-k-preserved
loop-k-preserved c = none_more c.args.self.now.doubtful.items c.args.sectors.first c.loop-k.k c.loop-k.invariant (sym c.has_one.ensures ∙ c.if-has_one.false)

pub returns : goal.returns
returns c = ((λ no. search rules), (λ among. search (rules, none_among c.args.self.now.doubtful.items c.args.sectors.first c.args.sectors.count c.loop-k.k c.loop-k-test.false c.loop-k.invariant among)))
