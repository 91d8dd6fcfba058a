use Rattle.std.proofs.Common.{◌∙◌, ap, arith, sym}
use Rattle.xt_ckpt.proofs.Entries.{block_is, entry_count}
use Rattle.xt_ckpt.specs.declared.item.Item.{Item}
use Rattle.xt_ckpt.proofs.source.RefSliceItemItemSource.block_at.Goals as goal

pub returns : goal.returns
returns c =
    ap (λ (i : Item). i.block) c.item.view_is
    ∙ sym (block_is c.args.self.now.now c.args.index c.index-self-index.result (omega (arith, c.requires, entry_count c.args.self.now.now)))
