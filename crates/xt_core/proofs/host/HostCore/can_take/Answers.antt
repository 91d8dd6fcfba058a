use Rattle.std.proofs.Common.{◌∙◌, sym}
use Rattle.xt_core.proofs.PlaceLemmas.{found_slot}
use Rattle.xt_core.proofs.host.HostCore.can_take.Goals as goal

pub suits-requires : goal.suits-requires
suits-requires c =
    sym (found_slot c.self.inside.cells.items c.self.invariant c.index.result c.index.ensures.range c.index-then-can_take.result.now c.index-then-can_take.ensures ∙ c.index.ensures.value ∙ c.slot.ensures)
