use Rattle.std.proofs.Common.{Some, ap, length, rules, subst, sym, w32, ℤ, ◌∙◌}
use Rattle.std.proofs.Math.Facts.{to_z-of_z}
use Rattle.xt_c.proofs.WorkedLemmas.{moved}
use Rattle.xt_c.proofs.mapped.refskold_abi_flush_mapped.Goals as goal
use Rattle.xt_c.specs.Holding.{held}
use Rattle.xt_c.specs.Working.{IsWorked, flush_into, wants_none, worked}

-- the mount's own step, behind the handle
pub returns-clause-flushed : goal.returns-clause-flushed
returns-clause-flushed c =
    let step = flush_into c.args.serial (length c.args.device.now) in
    subst (λ (z : ℤ). IsWorked wants_none step (held c.args.handle.now) z (worked c.flush_into-status.new.reply (held c.put.new.self)) (worked c.args.reply.now (held c.args.handle.now)))
    (sym (to_z-of_z {w = w32} {z = c.flush_into-status.result} (search (rules, c.flush_into-status.type_inv))))
    (moved wants_none step (held c.args.handle.now) (held c.put.new.self) _ _ c.flush_into-status.result c.args.reply.now c.flush_into-status.new.reply
    (c.in-Some.ensures.taken ∙ ap Some (sym c.deref_mut.ensures.value)) c.put.ensures c.flush_into-status.ensures.flushed)
