use Rattle.std.proofs.Common.{◌∙◌, [], ap}
use Rattle.xt_base.specs.Jobs.{flush}
use Rattle.xt_mount.proofs.MountLemmas.{flushed_whole}
use Rattle.xt_mount.proofs.mount.Mount.flush_planned.Goals as goal
use Rattle.xt_mount.specs.Machines.{state_of}

pub invariant_of-self : goal.invariant_of-self
invariant_of-self c = flushed_whole c.flush.result (state_of c.self.inside.machine) (state_of c.flush.new.self) c.args.answers c.flush.ensures c.self.invariant

pub returns-clause-flushed : goal.returns-clause-flushed
returns-clause-flushed c = c.flush.ensures ∙ ap (flush [] c.args.answers) c.self.view_is
