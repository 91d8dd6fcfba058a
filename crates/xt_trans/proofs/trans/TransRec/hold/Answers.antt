use Rattle.std.proofs.Common.{◌≡◌, ◌∙◌, ◌+◌, ◌<◌, ap, false, length, subst, sym, true}
use Rattle.xt_base.specs.Maps.{has, put, with_member}
use Rattle.xt_base.specs.Marks.{marks_of}
use Rattle.xt_base.specs.State.{Leg}
use Rattle.xt_trans.proofs.ItemLemmas.{held_is, items_held, room_held}
use Rattle.xt_trans.specs.LegItems.{AreItems, change_in, leg_of}
use Rattle.xt_trans.specs.declared.item.BufItem.{BufItem}
use Rattle.xt_trans.proofs.trans.TransRec.hold.Goals as goal

pub put-requires : goal.put-requires
put-requires c =
    λ gone. c.take_item-item.ensures.room (room_held c.args.block c.self.inside.items c.self.invariant
    (subst (λ (l : Leg). has l.holds c.args.block ≡ false → length l.changes + length l.holds < 128) (sym c.self.view_is) c.requires))

pub invariant_of-self : goal.invariant_of-self
invariant_of-self c =
    let was = c.take_item-item.ensures.value in
    let of = c.held.ensures.marks ∙ ap (λ (i : BufItem). record (marks_of i.marks) { hold = true }) was in
    let is = c.held.ensures.change ∙ ap (λ (i : BufItem). change_in i) was in
    let new = c.put.ensures ∙ ap (put c.args.block c.held.result) c.take_item-item.ensures.rest in
    subst AreItems (sym new) (items_held c.args.block c.held.result c.self.inside.items c.self.invariant of is)

pub returns : goal.returns
returns c =
    let was = c.take_item-item.ensures.value in
    let of = c.held.ensures.marks ∙ ap (λ (i : BufItem). record (marks_of i.marks) { hold = true }) was in
    let is = c.held.ensures.change ∙ ap (λ (i : BufItem). change_in i) was in
    let new = c.put.ensures ∙ ap (put c.args.block c.held.result) c.take_item-item.ensures.rest in
    ap leg_of new ∙ held_is c.args.block c.held.result c.self.inside.items c.self.invariant of is
    ∙ ap (λ (l : Leg). record l { holds = with_member c.args.block l.holds }) c.self.view_is
