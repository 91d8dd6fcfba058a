use Rattle.std.proofs.Common.{Some, ap, rules, subst, sym, w32, ℤ, ◌∙◌}
use Rattle.std.proofs.Math.Facts.{to_z-of_z}
use Rattle.xt_base.specs.declared.steps.Request.TheVariants.{Commit}
use Rattle.xt_c.proofs.ChangeLemmas.{asked_behind}
use Rattle.xt_c.proofs.changes.refskold_abi_commit.Goals as goal
use Rattle.xt_c.specs.Changing.{IsAsked}
use Rattle.xt_c.specs.Holding.{held}

-- the mount's own step, behind the handle
pub returns : goal.returns
returns c =
    subst (λ (z : ℤ). IsAsked (Commit c.args.trans) z (held c.put.new.self) (held c.args.handle.now))
    (sym (to_z-of_z {w = w32} {z = c.commit-status.result} (search (rules, c.commit-status.type_inv))))
    (asked_behind (Commit c.args.trans) (held c.args.handle.now) (held c.put.new.self) _ _ c.commit-status.result
    (c.in-Some.ensures.taken ∙ ap Some (sym c.deref_mut.ensures.value)) c.put.ensures c.commit-status.ensures.asked)
