use Rattle.std.proofs.Common.{◌∙◌, ap, false, subst, sym}
use Rattle.xt_base.specs.Maps.{put}
use Rattle.xt_base.specs.Marks.{marks_of}
use Rattle.xt_trans.proofs.ItemLemmas.{dropped_is, items_released, items_without, released_is}
use Rattle.xt_trans.specs.LegItems.{AreItems, change_in, is_item_dirty, leg_of}
use Rattle.xt_trans.specs.declared.item.BufItem.{BufItem}
use Rattle.xt_trans.proofs.entries.drop_hold.Goals as goal

pub returns-then-is_dirty-clause-leg : goal.returns-then-is_dirty-clause-leg
returns-then-is_dirty-clause-leg c =
    let was = c.take_item-item.ensures.value in
    let of = c.released.ensures.marks ∙ ap (λ (i : BufItem). record (marks_of i.marks) { hold = false }) was in
    let is = c.released.ensures.change ∙ ap change_in was in
    let new = c.put.ensures ∙ ap (put c.args.block c.released.result) c.take_item-item.ensures.rest in
    ap leg_of new ∙ released_is c.args.block c.released.result c.args.items.now c.requires of is

pub returns-then-is_dirty-clause-items : goal.returns-then-is_dirty-clause-items
returns-then-is_dirty-clause-items c =
    let was = c.take_item-item.ensures.value in
    let of = c.released.ensures.marks ∙ ap (λ (i : BufItem). record (marks_of i.marks) { hold = false }) was in
    let is = c.released.ensures.change ∙ ap change_in was in
    let new = c.put.ensures ∙ ap (put c.args.block c.released.result) c.take_item-item.ensures.rest in
    let dirty = sym (ap is_item_dirty was) ∙ sym c.is_dirty.ensures ∙ c.if-is_dirty.true in
    subst AreItems (sym new) (items_released c.args.block c.released.result c.args.items.now c.requires of is dirty)

pub returns-else-is_dirty-clause-leg : goal.returns-else-is_dirty-clause-leg
returns-else-is_dirty-clause-leg c =
    let clean = sym (ap is_item_dirty c.take_item-item.ensures.value) ∙ sym c.is_dirty.ensures ∙ c.if-is_dirty.false in
    ap leg_of c.take_item-item.ensures.rest ∙ dropped_is c.args.block c.args.items.now c.requires clean

pub returns-else-is_dirty-clause-items : goal.returns-else-is_dirty-clause-items
returns-else-is_dirty-clause-items c = subst AreItems (sym c.take_item-item.ensures.rest) (items_without c.args.block c.args.items.now c.requires)
