use Rattle.std.proofs.Common.{◌∙◌, arith, sym}
use Rattle.xt_ckpt.proofs.Entries.{bytes_are, entry_count}
use Rattle.xt_ckpt.proofs.source.RefSliceItemItemSource.content_at.Goals as goal

pub returns : goal.returns
returns c = c.deref.ensures.value ∙ sym (bytes_are c.args.self.now.now c.args.index c.index-self-index.result (omega (arith, c.requires, entry_count c.args.self.now.now)))
