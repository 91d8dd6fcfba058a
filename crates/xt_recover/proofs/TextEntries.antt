-- What is read of a text.
use Rattle.std.proofs.Common.{List, map}
use Rattle.xt_base.specs.Text.{chunk_bytes}
use Rattle.xt_ckpt.specs.Grammar.{Entry}
use Rattle.xt_recovery.specs.Log.{CheckpointText}

-- the items of a text, as they are read
abbrev pub entries_of : CheckpointText → List Entry
entries_of w = map (λ e. record { block = e.0; chunks = e.1; content = chunk_bytes (w.contents e.0) e.1 }) w.items
