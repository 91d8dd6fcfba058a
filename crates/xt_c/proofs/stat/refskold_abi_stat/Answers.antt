use Rattle.std.proofs.Common.{Option, Some, ap, pos, refl, subst, sym, ◌∙◌}
use Rattle.xt_base.specs.State.{State}
use Rattle.xt_c.proofs.stat.refskold_abi_stat.Goals as goal
use Rattle.xt_c.specs.Telling.{IsStatOf, stat_words}

-- what the mount tells, behind the handle
pub returns-clause-stat : goal.returns-clause-stat
returns-clause-stat c =
    subst (λ (o : Option State). IsStatOf o (pos 0) c.stat_words.result c.args.state.now)
    (sym (c.in-Some.ensures.taken ∙ ap Some (sym c.deref.ensures)))
    (refl, c.stat_words.ensures ∙ ap stat_words c.stat.ensures)
