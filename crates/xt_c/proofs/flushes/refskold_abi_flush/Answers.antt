use Rattle.std.proofs.Common.{Some, ap, rules, subst, sym, w32, ℤ, ◌∙◌}
use Rattle.std.proofs.Math.Facts.{to_z-of_z}
use Rattle.xt_c.proofs.WorkedLemmas.{flushed_behind}
use Rattle.xt_c.proofs.flushes.refskold_abi_flush.Goals as goal
use Rattle.xt_c.specs.Holding.{held}
use Rattle.xt_c.specs.Working.{IsFlushed, worked}

-- the mount's own step, behind the handle
pub returns : goal.returns
returns c =
    subst (λ (z : ℤ). IsFlushed c.args.serial c.args.count c.args.written c.args.synced (held c.args.handle.now) z (worked c.flush-status.new.reply (held c.put.new.self)) (worked c.args.reply.now (held c.args.handle.now)))
    (sym (to_z-of_z {w = w32} {z = c.flush-status.result} (search (rules, c.flush-status.type_inv))))
    (flushed_behind c.args.serial c.args.count c.args.written c.args.synced (held c.args.handle.now) (held c.put.new.self) _ _ c.flush-status.result c.args.reply.now c.flush-status.new.reply
    (c.in-Some.ensures.taken ∙ ap Some (sym c.deref_mut.ensures.value)) c.put.ensures c.flush-status.ensures.flushed)
