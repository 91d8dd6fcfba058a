use Rattle.std.proofs.Common.{length, subst}
use Rattle.xt_offline.proofs.AppendLemmas.{begins_longer, begins_then}
use Rattle.xt_offline.specs.LogDump.{item_lines}
use Rattle.xt_offline.specs.Printing.{ended, Begins}
use Rattle.xt_text.specs.Items.{head_text}
use Rattle.xt_offline.proofs.logdump.print_checkpoint.Goals as goal

pub returns-in_err-print_head_line-clause-part : goal.returns-in_err-print_head_line-clause-part
returns-in_err-print_head_line-clause-part g c =
    let ckpt = c.args.checkpoint.now in
    begins_longer _ _ (ended (head_text ckpt.no (length ckpt.items.items) ckpt.size)) (item_lines ckpt.items.items) c.print_head_line.ensures.part

pub returns-clause-part : goal.returns-clause-part
returns-clause-part g c =
    let ckpt = c.args.checkpoint.now in
    begins_then _ _ _ (ended (head_text ckpt.no (length ckpt.items.items) ckpt.size)) (item_lines ckpt.items.items) c.in_ok-print_head_line.ensures.all
    (subst (λ t. Begins (g.W.Write.contents c.print_head_line.new.writer) (g.W.Write.contents c.print_items.new.writer) (item_lines t)) c.deref.ensures.value c.print_items.ensures.part)
