use Rattle.std.proofs.Common.{Some, subst, sym}
use Rattle.xt_recover.proofs.FilesLemmas.{fault_then, ok_then}
use Rattle.xt_recover.proofs.LookLemmas.{on_ok_then}
use Rattle.xt_window.specs.Ways.{IsWay}
use Rattle.xt_recover.proofs.gather_files.look.Goals as goal

pub returns-in-Some-clause-way : goal.returns-in-Some-clause-way
returns-in-Some-clause-way c =
    ok_then c.wanted_way.result _ _ c.wanted_way.ensures.way (λ way is a b one two. subst (λ x. IsWay a b (Some x)) (sym is) (c.in-Some.ensures a b one two))

pub returns-in-Some-clause-wanted : goal.returns-in-Some-clause-wanted
returns-in-Some-clause-wanted c = on_ok_then c.wanted_way.result _ _ c.wanted_way.ensures.wanted (λ all a b one two. all a b (c.in-Some.ensures a b one two))

pub returns-in-Some-clause-why : goal.returns-in-Some-clause-why
returns-in-Some-clause-why c = fault_then c.wanted_way.result _ _ c.wanted_way.ensures.why (λ fault all a b one two. all a b (c.in-Some.ensures a b one two))
