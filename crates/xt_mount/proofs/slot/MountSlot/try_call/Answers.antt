use Rattle.std.proofs.Common.{subst}
use Rattle.xt_base.specs.declared.steps.Answer.{Answer}
use Rattle.xt_base.specs.declared.steps.Step.TheVariants.{Call}
use Rattle.xt_mount.proofs.SlotLemmas.{called_slot, own_called, share_called}
use Rattle.xt_mount.proofs.slot.MountSlot.try_call.Goals as goal
use Rattle.xt_mount.specs.Slots.{IsServedUnlessMemory, SlotState}

pub invariant_of-self : goal.invariant_of-self
invariant_of-self c = (
  own_called c.self.inside.slot c.self.inside.last_life c.args.life c.args.request.now Answer.None c.in-Ok.reply c.is_unmounted-is_gone.result c.tried.new.mount c.empty_if.new.mount c.self.inside.mount
      c.empty_if.ensures.mount c.in-Ok.ensures.answered c.self.invariant.0,
  share_called c.self.inside.slot c.self.inside.last_life c.args.life c.args.request.now Answer.None c.in-Ok.reply c.is_unmounted-is_gone.result c.tried.new.mount c.empty_if.new.mount c.self.inside.mount
      c.self.inside.share c.empty_if.new.share c.empty_if.ensures.mount c.empty_if.ensures.share c.in-Ok.ensures.answered c.self.invariant.0 c.self.invariant.1,
)

pub returns-in-Ok-clause-served : goal.returns-in-Ok-clause-served
returns-in-Ok-clause-served c =
    subst
    (λ (s : SlotState). IsServedUnlessMemory (Call s.slot c.args.life c.args.request.now Answer.None) c.in-Ok.reply (record { slot = c.self.inside.slot; last_life = c.self.inside.last_life; mounted = c.empty_if.new.mount }) s)
    c.self.view_is
    (called_slot c.self.inside.slot c.self.inside.last_life c.args.life c.args.request.now Answer.None c.in-Ok.reply c.is_unmounted-is_gone.result c.tried.new.mount c.empty_if.new.mount c.self.inside.mount
    c.is_unmounted-is_gone.ensures c.empty_if.ensures.mount c.in-Ok.ensures.answered)
