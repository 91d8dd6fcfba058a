use Rattle.std.proofs.Common.{arith}
use Rattle.xt_offline.proofs.AppendLemmas.{begins_at}
use Rattle.xt_offline.specs.Printing.{ended}
use Rattle.xt_ckpt.specs.declared.item.Item.{Item}
use Rattle.xt_text.specs.Items.{item_text}
use Rattle.xt_offline.proofs.logdump.print_items.Goals as goal

pub returns-in_err-print_item_line-clause-part : goal.returns-in_err-print_item_line-clause-part
returns-in_err-print_item_line-clause-part g c =
    begins_at (λ (i : Item). ended (item_text i.block i.chunks i.content.items)) c.args.items.now c.loop-item.item-index c.item-item.result _ _ _ (omega arith) c.item-item.is c.loop-item.invariant c.print_item_line.ensures.part
