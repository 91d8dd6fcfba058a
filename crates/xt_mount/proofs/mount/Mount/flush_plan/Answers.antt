use Rattle.std.proofs.Common.{subst, sym}
use Rattle.std.specs.Prelude.{All}
use Rattle.std.specs.Prelude.{◌≡◌, true}
use Rattle.xt_base.specs.Maps.{is_in}
use Rattle.xt_base.specs.State.{State}
use Rattle.xt_mount.specs.Machines.{state_of}
use Rattle.xt_mount.proofs.MountLemmas.{plan_committed}
use Rattle.xt_mount.proofs.PlannedLemmas.{plan_unchanged}
use Rattle.xt_mount.proofs.mount.Mount.flush_plan.Goals as goal
use Rattle.xt_mount.specs.Accounts.{IsUnchanged}

pub returns-clause-committed : goal.returns-clause-committed
returns-clause-committed c =
    subst (λ (s : State). All (λ b. is_in b s.frames.committed ≡ true) c.flush_plan.result) c.self.view_is
    (subst (All (λ b. is_in b (state_of c.self.inside.machine).frames.committed ≡ true)) (sym c.flush_plan.ensures) (plan_committed (state_of c.self.inside.machine) c.self.invariant.0))

pub returns-clause-unchanged : goal.returns-clause-unchanged
returns-clause-unchanged c =
    subst (λ (s : State). All (λ b. IsUnchanged b s.transactions) c.flush_plan.result) c.self.view_is
    (subst (All (λ b. IsUnchanged b (state_of c.self.inside.machine).transactions)) (sym c.flush_plan.ensures) (plan_unchanged (state_of c.self.inside.machine) c.self.invariant.0))
