use Rattle.std.proofs.Common.{[], Ok, Option, Some, ap, length, rules, subst, sym, true, w32, ℤ, ◌/◌, ◌∙◌, ◌≡◌}
use Rattle.std.proofs.Math.Facts.{to_z-of_z}
use Rattle.xt_base.specs.Calls.{Outcome}
use Rattle.xt_base.specs.Form.{Form}
use Rattle.xt_base.specs.Jobs.{flush, flush_plan}
use Rattle.xt_c.proofs.WorkedLemmas.{due_into, goes}
use Rattle.xt_c.proofs.mapped.flush_into.Goals as goal
use Rattle.xt_c.specs.Working.{IsStep, flush_into, home_answers, lie_below, wants_none, worked}

-- the blocks of the plan are whole within the device, so the flush is the one that is due
pub returns-clause-flushed : goal.returns-clause-flushed
returns-clause-flushed c =
    let m = c.args.mount.now in
    let bytes = length c.args.device.now in
    let told : Ok c.in-Ok.plan ≡ Ok (flush_plan m) = c.in-Ok.ensures.plan in
    let plan : c.in-Ok.plan ≡ flush_plan m = cc in
    let size : c.block_bytes.result ≡ m.form.size = c.block_bytes.ensures.value ∙ ap (λ (f : Form). f.size) c.form.ensures in
    let planned : c.count.result ≡ length (flush_plan m) = c.count.ensures.value ∙ ap length plan in
    let within : lie_below (bytes / m.form.size) (flush_plan m) ≡ true =
    ap (λ n. lie_below (bytes / n) (flush_plan m)) (sym size) ∙ ap (lie_below (bytes / c.block_bytes.result)) (sym (c.blocks-2.ensures.value ∙ plan))
    ∙ sym c.lie_below.ensures ∙ c.if-not-lie_below.false in
    let answers : c.home_answers.result ≡ home_answers (length (flush_plan m)) 255 1 = c.home_answers.ensures ∙ ap (λ n. home_answers n 255 1) planned in
    subst (λ (z : ℤ). IsStep wants_none m (flush_into c.args.serial bytes m) z (worked c.put_reply.new.to (Some c.flush_planned-told.new.self)) (worked c.args.reply.now (Some m)))
    (sym (to_z-of_z {w = w32} {z = c.status_of.result} (search (rules, c.status_of.type_inv))))
    (subst (λ (s : Option Outcome). IsStep wants_none m s c.status_of.result (worked c.put_reply.new.to (Some c.flush_planned-told.new.self)) (worked c.args.reply.now (Some m)))
    (sym (due_into c.args.serial bytes m c.in-Some.ensures.waits within))
    (goes wants_none m c.flush_planned-told.new.self (flush [] (home_answers (length (flush_plan m)) 255 1) m) c.flush_planned-told.result c.status_of.result c.put_reply.new.to c.args.reply.now
    (c.flush_planned-told.ensures.flushed ∙ ap (λ a. flush [] a m) answers) c.status_of.ensures c.put_reply.ensures))
