use Rattle.std.proofs.Common.{Some, ap, not, rules, subst, sym, w32, ℤ, ◌==◌, ◌∙◌}
use Rattle.std.proofs.Math.Facts.{to_z-of_z}
use Rattle.xt_base.specs.declared.steps.Request.TheVariants.{Alloc}
use Rattle.xt_c.proofs.ChangeLemmas.{allocated_behind}
use Rattle.xt_c.proofs.changes.refskold_abi_alloc.Goals as goal
use Rattle.xt_c.specs.Changing.{IsAllocated}
use Rattle.xt_c.specs.Holding.{held}

-- the mount's own step, behind the handle
pub returns : goal.returns
returns c =
    let request = Alloc c.args.unit c.args.count (not (c.args.perm == 0)) in
    subst (λ (z : ℤ). IsAllocated request z c.open_trans-status.new.trans c.args.trans.now (held c.put.new.self) (held c.args.handle.now))
    (sym (to_z-of_z {w = w32} {z = c.open_trans-status.result} (search (rules, c.open_trans-status.type_inv))))
    (allocated_behind request (held c.args.handle.now) (held c.put.new.self) _ _ c.open_trans-status.result c.open_trans-status.new.trans c.args.trans.now
    (c.in-Some.ensures.taken ∙ ap Some (sym c.deref_mut.ensures.value)) c.put.ensures c.open_trans-status.ensures.allocated)
