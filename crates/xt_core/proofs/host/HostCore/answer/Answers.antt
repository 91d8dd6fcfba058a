use Rattle.std.proofs.Common.{refl}
use Rattle.xt_core.proofs.QuietLemmas.{said_quiet}
use Rattle.xt_core.proofs.host.HostCore.answer.Goals as goal
use Rattle.xt_core.specs.Runs.{IsToldBy, said_as}

pub returns-clause-told : goal.returns-clause-told
returns-clause-told c = λ xs turns told.
    IsToldBy.more xs turns c.args.step.now (said_as c.args.step.now c.serve.result c.args.self.now) c.serve.new.self c.args.self.now told c.serve.ensures.range
    (record { stepped = c.serve.ensures.stepped; place = refl; log = refl; home = refl })

pub returns-clause-quiet : goal.returns-clause-quiet
returns-clause-quiet c = said_quiet c.args.step.now c.serve.result c.args.self.now
