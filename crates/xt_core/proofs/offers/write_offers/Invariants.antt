use Rattle.std.proofs.Common.{◌≡◌, take}
use Rattle.xt_base.specs.Jobs.{writes}
use Rattle.xt_core.proofs.offers.write_offers.Given as goal
use Rattle.xt_mount.specs.Slots.{contents_in, form_in}

abbrev pub invariant-loop-i : goal.invariant-loop-i
invariant-loop-i l = l.offers.items ≡ writes (form_in l.slot.mounted).size (contents_in l.slot.mounted) (take l.i l.blocks) (take l.i l.answers)
