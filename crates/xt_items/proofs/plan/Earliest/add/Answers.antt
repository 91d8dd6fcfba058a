use Rattle.std.proofs.Common.{◌∙◌, ap, take}
use Rattle.xt_items.specs.Plans.{inserted, rank}
use Rattle.xt_items.proofs.PlanLemmas.{placed_last_is}
use Rattle.xt_items.proofs.plan.Earliest.add.Goals as goal

pub returns : goal.returns
returns c =
    c.insert.ensures ∙ ap (λ n. take 8 (inserted n c.args.entry c.args.self.now)) (c.rank_of-at.ensures.value ∙ ap (rank c.args.entry.1) c.entries.ensures.value) ∙ ap (take 8) (placed_last_is c.args.entry c.args.self.now)
