use Rattle.std.proofs.Common.{◌∙◌, List, ap, length, not, rules, ℕ}
use Rattle.std.specs.Prelude.{◌==◌}
use Rattle.xt_base.specs.Maps.{is_in}
use Rattle.xt_mount.proofs.PlanLemmas.{due_by}
use Rattle.xt_mount.proofs.accounts.Accounts.has_due.Goals as goal
use Rattle.xt_mount.specs.Accounts.{lists_in}

pub returns : goal.returns
returns c =
    let i = c.items.ensures in
    c.has_due.ensures (λ b. is_in b c.args.locks.now) (λ b o post. search rules)
    ∙ ap (λ (es : List (ℕ × ℕ)). not (length es == 0)) (due_by (λ b. is_in b c.args.locks.now) c.items.result.now (lists_in c.args.self.now) i.cil i.flight i.ail)
