use Rattle.std.proofs.Common.{All, Option, subst, sym}
use Rattle.xt_base.specs.State.{State}
use Rattle.xt_mount.proofs.slot.MountSlot.flush_plan.Goals as goal
use Rattle.xt_mount.specs.Slots.{IsUnchangedIn, SlotState}

pub returns-in-Ok-clause-unchanged : goal.returns-in-Ok-clause-unchanged
returns-in-Ok-clause-unchanged c =
    subst (λ (s : SlotState). All (λ b. IsUnchangedIn b s.mounted) c.in-Ok.plan) c.self.view_is
    (subst (λ (o : Option State). All (λ b. IsUnchangedIn b o) c.in-Ok.plan) (sym c.in-Some.is) c.in-Ok.ensures.unchanged)
