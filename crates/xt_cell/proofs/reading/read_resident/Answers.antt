use Rattle.std.proofs.Common.{◌∙◌, sym}
use Rattle.xt_cell.proofs.ServedLemmas.{kept_if, plain_read, served_if}
use Rattle.xt_cell.proofs.reading.read_resident.Goals as goal

pub returns-then-is_no_memory-clause-kept : goal.returns-then-is_no_memory-clause-kept
returns-then-is_no_memory-clause-kept c = kept_if _ _ _ _ (sym c.is_no_memory.ensures ∙ c.if-is_no_memory.true) c.in-Ok.ensures.served

pub plain_twin-told-requires-clause-content : goal.plain_twin-told-requires-clause-content
plain_twin-told-requires-clause-content c = (plain_read _ _ _ _ _ _ _ _ (served_if _ _ _ _ (sym c.is_no_memory.ensures ∙ c.if-is_no_memory.false) c.in-Ok.ensures.served)).0

pub plain_twin-told-requires-clause-held : goal.plain_twin-told-requires-clause-held
plain_twin-told-requires-clause-held c = (plain_read _ _ _ _ _ _ _ _ (served_if _ _ _ _ (sym c.is_no_memory.ensures ∙ c.if-is_no_memory.false) c.in-Ok.ensures.served)).1
