use Rattle.std.proofs.Common.{◌≡◌, ◌∙◌, None, [], ◌+◌, ◌<◌, ap, false, length, subst, sym, true}
use Rattle.xt_base.specs.Calls.{invalidated}
use Rattle.xt_base.specs.Maps.{is_in, put}
use Rattle.xt_base.specs.Marks.{marks_of}
use Rattle.xt_base.specs.State.{Leg}
use Rattle.xt_trans.proofs.ItemLemmas.{invalidated_is, items_invalidated, room_changed}
use Rattle.xt_trans.specs.LegItems.{AreItems, leg_of}
use Rattle.xt_trans.specs.declared.item.BufItem.{BufItem}
use Rattle.xt_trans.proofs.trans.TransRec.inval.Goals as goal

pub put-requires : goal.put-requires
put-requires c =
    λ gone. c.take_item-item.ensures.room (room_changed c.args.block c.self.inside.items c.self.invariant
    (subst (λ (l : Leg). is_in c.args.block l.changes ≡ false → length l.changes + length l.holds < 128) (sym c.self.view_is) c.requires))

pub invariant_of-self : goal.invariant_of-self
invariant_of-self c =
    let was = c.take_item-item.ensures.value in
    let of = c.invalidated.ensures.marks ∙ ap (λ (i : BufItem). record (marks_of i.marks) { hold = false; stale = true; dirty = true }) was in
    let is = c.invalidated.ensures.change ∙ ap (λ (i : BufItem). record { edit = None; marks = []; charged = i.charged }) was in
    let new = c.put.ensures ∙ ap (put c.args.block c.invalidated.result) c.take_item-item.ensures.rest in
    subst AreItems (sym new) (items_invalidated c.args.block c.invalidated.result c.self.inside.items c.self.invariant of is)

pub returns : goal.returns
returns c =
    let was = c.take_item-item.ensures.value in
    let of = c.invalidated.ensures.marks ∙ ap (λ (i : BufItem). record (marks_of i.marks) { hold = false; stale = true; dirty = true }) was in
    let is = c.invalidated.ensures.change ∙ ap (λ (i : BufItem). record { edit = None; marks = []; charged = i.charged }) was in
    let new = c.put.ensures ∙ ap (put c.args.block c.invalidated.result) c.take_item-item.ensures.rest in
    ap leg_of new ∙ invalidated_is c.args.block c.invalidated.result c.self.inside.items c.self.invariant of is
    ∙ ap (λ (l : Leg). invalidated c.args.block l) c.self.view_is
