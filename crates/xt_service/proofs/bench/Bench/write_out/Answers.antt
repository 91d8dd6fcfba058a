use Rattle.xt_service.proofs.WriteLemmas.{force_told, push_told, written_out}
use Rattle.xt_service.proofs.bench.Bench.write_out.Goals as goal

-- a force and a push, and then the work of names
pub returns-clause-written : goal.returns-clause-written
returns-clause-written g c =
    let force = c.force.ensures in
    let push = c.push.ensures in
    written_out _ _ _ _ _ _ _ (force_told _ _ _ _ force.forced force.refused) force.board force.rises (push_told _ _ _ _ push.asked push.refused) push.board push.rises c.work.ensures.worked
