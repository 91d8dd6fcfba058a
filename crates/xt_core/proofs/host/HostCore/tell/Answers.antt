use Rattle.xt_core.proofs.ToldLemmas.{tell_more}
use Rattle.xt_core.proofs.host.HostCore.tell.Goals as goal

pub returns-clause-told : goal.returns-clause-told
returns-clause-told c = λ xs turns told.
    tell_more c.take.result c.map_err.result _ xs turns c.args.step.now c.take.new.self c.args.self.now c.map_err.ensures.variant c.map_err.ensures.cases c.take.ensures.said c.take.ensures.range told
