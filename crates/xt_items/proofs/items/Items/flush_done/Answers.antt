use Rattle.std.proofs.Common.{◌∙◌, ap, [], filter, if◌then◌else◌, not, sym}
use Rattle.xt_base.specs.Jobs.{written, write_answers}
use Rattle.xt_base.specs.Maps.{has}
use Rattle.xt_items.proofs.CleanLemmas.{all_stay}
use Rattle.xt_items.proofs.items.Items.flush_done.Goals as goal

pub returns-then-not-answers-clause-lists : goal.returns-then-not-answers-clause-lists
returns-then-not-answers-clause-lists c =
    let now = c.args.self.now in
    ap (λ ail. record now { ail = ail }) (all_stay now.ail ∙ ap (λ b. filter (λ e. not (has (if b then written c.args.plan.now (write_answers c.args.answers.now) else []) e.0)) now.ail) (sym c.if-not-answers.true))
