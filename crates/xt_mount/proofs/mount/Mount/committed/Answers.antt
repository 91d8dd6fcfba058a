use Rattle.std.proofs.Common.{◌∙◌, Some, ap, length}
use Rattle.xt_base.specs.State.{State}
use Rattle.xt_mount.proofs.SizeLemmas.{committed_size}
use Rattle.xt_mount.proofs.mount.Mount.committed.Goals as goal
use Rattle.xt_mount.specs.Machines.{state_of}

pub returns-in-Some-clause-size : goal.returns-in-Some-clause-size
returns-in-Some-clause-size c =
    ap length c.bytes.ensures.value ∙ committed_size (state_of c.self.inside.machine) c.block.inside.0 (Some c.in-Some.content.now) c.self.invariant.1 c.in-Some.ensures ∙ ap (λ (s : State). s.form.size) c.self.view_is
