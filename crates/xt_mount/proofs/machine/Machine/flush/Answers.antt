use Rattle.std.proofs.Common.{◌∙◌}
use Rattle.xt_mount.proofs.FlushLemmas.{flush_is, not_none}
use Rattle.xt_mount.proofs.machine.Machine.flush.Goals as goal
use Rattle.xt_mount.specs.Machines.{state_of}

pub returns : goal.returns
returns c =
    c.flushed.ensures ∙ flush_is (state_of c.args.self.now) c.args.answers.now c.args.plan.now c.requires.planned (not_none c.args.plan.now c.count.result c.count.ensures.value c.if-count-eq0.false)
