use Rattle.xt_ckpt.proofs.Entries.{all_entries, entry_count}
use Rattle.xt_ckpt.specs.Entries.{IsWhole}
use Rattle.std.proofs.Common.{arith}
use Rattle.xt_ckpt.proofs.piece_writer.PieceWriter.next.Goals as goal

pub try_next-requires-clause-few : goal.try_next-requires-clause-few
try_next-requires-clause-few c = omega (arith, c.requires.few, entry_count c.args.items.now)

pub try_next-requires-clause-form : goal.try_next-requires-clause-form
try_next-requires-clause-form c = all_entries IsWhole c.args.items.now c.requires.form
