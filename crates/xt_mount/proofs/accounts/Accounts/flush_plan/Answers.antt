use Rattle.std.proofs.Common.{◌∙◌, ap, map, rules, take}
use Rattle.xt_base.specs.Jobs.{by_number}
use Rattle.xt_base.specs.Maps.{is_in}
use Rattle.xt_mount.proofs.PlanLemmas.{due_by}
use Rattle.xt_mount.proofs.accounts.Accounts.flush_plan.Goals as goal
use Rattle.xt_mount.specs.Accounts.{lists_in}

pub returns : goal.returns
returns c =
    let i = c.items.ensures in
    c.flush_plan.ensures (λ b. is_in b c.args.locks.now) (λ b o post. search rules)
    ∙ ap (λ es. map (λ e. e.0) (take 8 (by_number es))) (due_by (λ b. is_in b c.args.locks.now) c.items.result.now (lists_in c.args.self.now) i.cil i.flight i.ail)
