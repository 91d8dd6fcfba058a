use Rattle.std.proofs.Common.{refl, sym, ◌∙◌}
use Rattle.xt_cell.proofs.ServedLemmas.{kept_if, plain_if, served_if}
use Rattle.xt_cell.proofs.booked_jobs.serve_begin.Goals as goal

pub returns-then-is_no_memory-clause-kept : goal.returns-then-is_no_memory-clause-kept
returns-then-is_no_memory-clause-kept c = kept_if _ _ _ _ (sym c.is_no_memory.ensures ∙ c.if-is_no_memory.true) (c.begin_shared-reply.ensures.served c.args.worker)

pub plain_twin-told-requires-clause-content : goal.plain_twin-told-requires-clause-content
plain_twin-told-requires-clause-content c = (plain_if _ _ _ _ refl (served_if _ _ _ _ (sym c.is_no_memory.ensures ∙ c.if-is_no_memory.false) (c.begin_shared-reply.ensures.served c.args.worker))).0

pub plain_twin-told-requires-clause-held : goal.plain_twin-told-requires-clause-held
plain_twin-told-requires-clause-held c = (plain_if _ _ _ _ refl (served_if _ _ _ _ (sym c.is_no_memory.ensures ∙ c.if-is_no_memory.false) (c.begin_shared-reply.ensures.served c.args.worker))).1

pub returns-clause-served : goal.returns-clause-served
returns-clause-served c = served_if _ _ _ _ (sym c.is_no_memory.ensures ∙ c.if-is_no_memory.false) (c.begin_shared-reply.ensures.served c.args.worker)
