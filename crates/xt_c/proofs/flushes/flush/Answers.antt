use Rattle.std.proofs.Common.{[], Option, Some, ap, length, rules, subst, sym, w32, ℤ, ◌∙◌, ◌≡◌}
use Rattle.std.proofs.Math.Facts.{to_z-of_z}
use Rattle.xt_base.specs.Calls.{Outcome}
use Rattle.xt_base.specs.Jobs.{flush, flush_plan}
use Rattle.xt_c.proofs.WorkedLemmas.{due, flushes}
use Rattle.xt_c.proofs.flushes.flush.Goals as goal
use Rattle.xt_c.specs.Working.{IsFlush, flush_of, home_answers, worked}

-- the plan has as many blocks as the caller says, so the flush is the one that is due
pub returns-clause-flushed : goal.returns-clause-flushed
returns-clause-flushed c =
    let m = c.args.mount.now in
    let count = c.args.count in
    let new = c.flush_planned-told.new.self in
    let planned : c.count-planned.result ≡ length (flush_plan m) = c.count-planned.ensures.value ∙ ap length c.plan_of-plan.ensures.value in
    let counted : count ≡ length (flush_plan m) = c.if-count-from.false ∙ c.from.ensures ∙ planned in
    let answers : c.home_answers.result ≡ home_answers (length (flush_plan m)) c.args.written c.args.synced =
    c.home_answers.ensures ∙ ap (λ n. home_answers n c.args.written c.args.synced) planned in
    subst (λ (z : ℤ). IsFlush count (flush_of c.args.serial count c.args.written c.args.synced m) z (worked c.put_reply.new.to (Some new)) (worked c.args.reply.now (Some m))) (sym (to_z-of_z {w = w32} {z = c.flush_status.result} (search (rules, c.flush_status.type_inv))))
    (subst (λ (s : Option Outcome). IsFlush count s c.flush_status.result (worked c.put_reply.new.to (Some new)) (worked c.args.reply.now (Some m)))
    (sym (due c.args.serial count c.args.written c.args.synced m c.in-Some.ensures.waits counted))
    (flushes count new (flush [] (home_answers (length (flush_plan m)) c.args.written c.args.synced) m) c.flush_planned-told.result c.flush_status.result c.put_reply.new.to c.args.reply.now m
    (c.flush_planned-told.ensures.flushed ∙ ap (λ a. flush [] a m) answers) c.flush_status.ensures c.put_reply.ensures))
