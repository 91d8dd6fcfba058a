use Rattle.std.proofs.Common.{refl}
use Rattle.xt_cell.proofs.ServedLemmas.{plain_if}
use Rattle.xt_cell.proofs.booked_jobs.serve_flush.Goals as goal

pub plain_twin-told-requires-clause-content : goal.plain_twin-told-requires-clause-content
plain_twin-told-requires-clause-content c = (plain_if _ _ _ _ refl (c.flush_planned-reply.ensures c.args.worker)).0

pub plain_twin-told-requires-clause-held : goal.plain_twin-told-requires-clause-held
plain_twin-told-requires-clause-held c = (plain_if _ _ _ _ refl (c.flush_planned-reply.ensures c.args.worker)).1

pub returns-clause-served : goal.returns-clause-served
returns-clause-served c = c.flush_planned-reply.ensures c.args.worker
