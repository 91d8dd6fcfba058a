use Rattle.std.proofs.Common.{◌∙◌, ap}
use Rattle.xt_base.specs.Jobs.{gone}
use Rattle.xt_base.specs.Space.{least_number}
use Rattle.xt_items.specs.Lists.{Lists}
use Rattle.xt_mount.proofs.AccountsLemmas.{cleaned_pages}
use Rattle.xt_mount.proofs.accounts.Accounts.flush_done.Goals as goal

pub returns-clause-accounts : goal.returns-clause-accounts
returns-clause-accounts c =
    cleaned_pages c.self.inside.transactions (gone c.args.plan.now c.args.answers.now) c.self.inside.journal c.flush_done-count.new.self c.self.inside.space c.tail.new.self c.least.result c.args.self.now c.self.view_is
    c.flush_done-count.ensures.lists c.tail.ensures (c.least.ensures ∙ ap (λ (l : Lists). least_number l.ail) c.items.ensures)
