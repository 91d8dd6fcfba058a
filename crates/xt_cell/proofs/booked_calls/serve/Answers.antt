use Rattle.std.proofs.Common.{◌∙◌, sym}
use Rattle.xt_cell.proofs.ServedLemmas.{content_keeps, held_if, kept_if, served_if}
use Rattle.xt_cell.proofs.booked_calls.serve.Goals as goal

pub returns-then-is_no_memory-clause-kept : goal.returns-then-is_no_memory-clause-kept
returns-then-is_no_memory-clause-kept c = kept_if _ _ _ _ (sym c.is_no_memory.ensures ∙ c.if-is_no_memory.true) c.called-reply.ensures

pub twin-requires : goal.twin-requires
twin-requires c = λ names. c.requires.ready (held_if _ _ _ _ c.requires.call names (served_if _ _ _ _ (sym c.is_no_memory.ensures ∙ c.if-is_no_memory.false) c.called-reply.ensures))

pub returns-in-Err-clause-kept : goal.returns-in-Err-clause-kept
returns-in-Err-clause-kept c = content_keeps _ _ _ _ c.requires.call c.in-Err.ensures.err (served_if _ _ _ _ (sym c.is_no_memory.ensures ∙ c.if-is_no_memory.false) c.called-reply.ensures)
