use Rattle.std.proofs.Common.{◌∙◌, ap, rules, sym, tests}
use Rattle.std.specs.List.{list_all}
use Rattle.std.specs.Prelude.{◌&&◌}
use Rattle.std.proofs.lemmas.Iterator.{YieldsList-from_slice, YieldsList-from_take}
use Rattle.std.proofs.lemmas.Iterator.Search.{all_from_yields_List}
use Rattle.xt_base.specs.Jobs.{write_answers}
use Rattle.xt_items.proofs.plan.all_ok.Goals as goal

pub returns-then-answers : goal.returns-then-answers
returns-then-answers c =
    let answers = c.args.answers.now in
    all_from_yields_List (λ ok. ok) _ _ c.all.result c.all.ensures.ran (YieldsList-from_take answers.count (YieldsList-from_slice answers.writes (cc)) (cc)) (λ x b q k. search (rules, tests))
    ∙ ap (λ b. b && list_all (λ ok. ok) (write_answers answers)) (sym c.if-answers.true)
