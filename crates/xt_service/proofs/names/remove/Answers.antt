use Rattle.std.proofs.Common.{rules, not}
use Rattle.std.proofs.lemmas.Fn.{filter_same}
use Rattle.xt_service.specs.Names.{is_same, named}
use Rattle.xt_service.proofs.names.remove.Goals as goal

pub returns-clause-names : goal.returns-clause-names
returns-clause-names c = filter_same _ (λ y. not (is_same y (named c.args.at.now c.args.number))) _ (λ x b f h. search rules) _ _ c.retain.ensures.filtered
