use Rattle.std.proofs.Common.{◌∙◌, ap, subst, sym}
use Rattle.xt_base.specs.Maps.{put}
use Rattle.xt_trans.proofs.ItemLemmas.{items_left, items_without, taken_held_is, taken_is}
use Rattle.xt_trans.specs.LegItems.{AreItems, is_item_held, leg_of}
use Rattle.xt_trans.proofs.entries.take_dirty.Goals as goal

pub returns-then-is_held-clause-leg : goal.returns-then-is_held-clause-leg
returns-then-is_held-clause-leg c =
    let new = c.put.ensures ∙ ap (put c.args.block c.hold_alone.result) c.take_item-item.ensures.rest in
    let held = sym (ap is_item_held c.take_item-item.ensures.value) ∙ sym c.is_held.ensures ∙ c.if-is_held.true in
    ap leg_of new ∙ taken_held_is c.args.block c.hold_alone.result c.args.items.now c.requires c.hold_alone.ensures.marks held

pub returns-then-is_held-clause-items : goal.returns-then-is_held-clause-items
returns-then-is_held-clause-items c =
    let new = c.put.ensures ∙ ap (put c.args.block c.hold_alone.result) c.take_item-item.ensures.rest in
    subst AreItems (sym new) (items_left c.args.block c.hold_alone.result c.args.items.now c.requires c.hold_alone.ensures.marks c.hold_alone.ensures.change)

pub returns-else-is_held-clause-leg : goal.returns-else-is_held-clause-leg
returns-else-is_held-clause-leg c =
    let free = sym (ap is_item_held c.take_item-item.ensures.value) ∙ sym c.is_held.ensures ∙ c.if-is_held.false in
    ap leg_of c.take_item-item.ensures.rest ∙ taken_is c.args.block c.args.items.now c.requires free

pub returns-else-is_held-clause-items : goal.returns-else-is_held-clause-items
returns-else-is_held-clause-items c = subst AreItems (sym c.take_item-item.ensures.rest) (items_without c.args.block c.args.items.now c.requires)
