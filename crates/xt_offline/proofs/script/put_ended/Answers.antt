use Rattle.std.proofs.Common.{◌∙◌, ◌++◌, ap, sym}
use Rattle.xt_offline.proofs.PutLemmas.{on_both, put_refused, put_whole}
use Rattle.xt_offline.proofs.script.put_ended.Goals as goal
use Rattle.xt_offline.specs.Printing.{ended}
use Rattle.xt_text.specs.Replies.{slot_reply_text}

pub returns-then-is_no_memory-clause-put : goal.returns-then-is_no_memory-clause-put
returns-then-is_no_memory-clause-put c =
    put_refused c.args.step.now c.in-Ok.reply c.answer.new.self c.args.host.now c.in-Ok.ensures.told c.args.waiting.now c.put_reply.new.self (sym c.is_no_memory.ensures ∙ c.if-is_no_memory.true)
    (c.in-Ok-put_reply.ensures ∙ ap (λ n. c.args.waiting.now ++ ended (slot_reply_text n c.in-Ok.reply)) c.slot.ensures)

pub returns-clause-put : goal.returns-clause-put
returns-clause-put c =
    on_both c.put_all.result c.map_err.result _ _ c.map_err.ensures.variant c.put_all.ensures
    (λ text. put_whole c.args.step.now c.in-Ok.reply c.answer.new.self c.args.host.now c.in-Ok.ensures.told c.args.waiting.now c.put_all.new.self (sym c.is_no_memory.ensures ∙ c.if-is_no_memory.false) c.requires.home c.args.offers.now c.requires.log
    (text ∙ ap (λ l. l ++ c.args.offers.now) (c.in-Ok-put_reply.ensures ∙ ap (λ n. c.args.waiting.now ++ ended (slot_reply_text n c.in-Ok.reply)) c.slot.ensures)))
