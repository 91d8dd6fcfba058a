use Rattle.std.proofs.Common.{subst, sym, ◌∙◌}
use Rattle.xt_recover.proofs.FilesLemmas.{fault_then}
use Rattle.xt_recover.proofs.LookLemmas.{met_wanted, none_wanted, on_ok_then, unmet_why}
use Rattle.xt_recover.specs.FilesGathering.{IsOfWanted}
use Rattle.xt_recover.proofs.gather_files.wanted_way.Goals as goal

pub returns-in-Some-newest_of-clause-wanted : goal.returns-in-Some-newest_of-clause-wanted
returns-in-Some-newest_of-clause-wanted c =
    on_ok_then c.met.result _ _ c.met.ensures.wanted
    (λ met a b way.
    subst (λ o. IsOfWanted o a b) (sym c.in-Some.is)
    (met_wanted c.args.way c.in-Some-newest_of.found c.in-Some.wanted a b (sym c.newest_of.ensures ∙ c.in-Some-newest_of.is) met way))

pub returns-in-Some-newest_of-clause-why : goal.returns-in-Some-newest_of-clause-why
returns-in-Some-newest_of-clause-why c =
    fault_then c.met.result _ _ c.met.ensures.why
    (λ fault unmet a b way. unmet_why c.args.way c.in-Some-newest_of.found c.in-Some.wanted fault a b (sym c.newest_of.ensures ∙ c.in-Some-newest_of.is) unmet way)

pub returns-in-None-clause-wanted : goal.returns-in-None-clause-wanted
returns-in-None-clause-wanted c = λ a b way. none_wanted c.args.wanted c.args.way a b (sym c.newest_of.ensures ∙ c.in-None.is) way
