use Rattle.std.proofs.Common.{arith, sym}
use Rattle.xt_ckpt.proofs.Entries.{chunks_is, entry_count}
use Rattle.xt_ckpt.proofs.source.RefSliceItemItemSource.chunks_at.Goals as goal

pub returns : goal.returns
returns c = sym (chunks_is c.args.self.now.now c.args.index c.index-self-index.result (omega (arith, c.requires, entry_count c.args.self.now.now)))
