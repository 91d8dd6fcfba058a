use Rattle.std.proofs.Common.{◌∙◌, ◌++◌, ap}
use Rattle.xt_offline.proofs.PutLemmas.{on_both, put_quiet}
use Rattle.xt_offline.proofs.script.put_quiet.Goals as goal
use Rattle.xt_offline.specs.Printing.{ended}
use Rattle.xt_text.specs.Replies.{slot_reply_text}

pub returns-clause-put : goal.returns-clause-put
returns-clause-put c =
    on_both c.put_reply.result c.map_err.result _ _ c.map_err.ensures.variant c.put_reply.ensures
    (λ text. put_quiet c.args.step.now c.in-Ok.reply c.answer.new.self c.args.host.now c.in-Ok.ensures.told c.args.waiting.now c.put_reply.new.self (c.in-Ok.ensures.quiet c.requires)
    (text ∙ ap (λ n. c.args.waiting.now ++ ended (slot_reply_text n c.in-Ok.reply)) c.slot.ensures))
