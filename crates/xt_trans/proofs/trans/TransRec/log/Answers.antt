use Rattle.std.proofs.Common.{◌≡◌, ◌∙◌, Some, ◌+◌, ◌<◌, ap, false, length, subst, sym, true}
use Rattle.xt_base.proofs.PlaceLemmas.{without_absent}
use Rattle.xt_base.specs.Calls.{edited}
use Rattle.xt_base.specs.Chunks.{union}
use Rattle.xt_base.specs.Maps.{is_in, put}
use Rattle.xt_base.specs.Marks.{marks_of}
use Rattle.xt_base.specs.State.{Leg}
use Rattle.xt_trans.proofs.ItemLemmas.{item_absent, items_logged, logged_is, room_changed}
use Rattle.xt_trans.specs.LegItems.{AreItems, leg_of}
use Rattle.xt_trans.specs.declared.item.BufItem.{BufItem}
use Rattle.xt_trans.proofs.trans.TransRec.log.Goals as goal

pub insert_at-requires-clause-room : goal.insert_at-requires-clause-room
insert_at-requires-clause-room c =
    room_changed c.args.block c.self.inside.items c.self.invariant
    (subst (λ (l : Leg). is_in c.args.block l.changes ≡ false → length l.changes + length l.holds < 128) (sym c.self.view_is) c.requires)
    c.in-Err.ensures.place.1

pub invariant_of-self : goal.invariant_of-self
invariant_of-self c =
    let absent = c.in-Err.ensures.place.1 in
    let was = c.blank_item.ensures ∙ sym (item_absent c.args.block c.self.inside.items absent) in
    let of = c.logged-item.ensures.marks ∙ ap (λ (i : BufItem). record (marks_of i.marks) { stale = false; dirty = true }) was in
    let is = c.logged-item.ensures.change ∙ ap (λ (i : BufItem). record { edit = Some c.args.edit; marks = union i.chunks c.args.marked; charged = union i.charged c.args.marked }) was in
    let new = c.insert_at.ensures ∙ ap (put c.args.block c.logged-item.result) (without_absent c.args.block c.self.inside.items absent) in
    subst AreItems (sym new) (items_logged c.args.block c.logged-item.result c.self.inside.items c.self.invariant c.args.edit c.args.marked of is)

pub returns-in-Err : goal.returns-in-Err
returns-in-Err c =
    let absent = c.in-Err.ensures.place.1 in
    let was = c.blank_item.ensures ∙ sym (item_absent c.args.block c.self.inside.items absent) in
    let of = c.logged-item.ensures.marks ∙ ap (λ (i : BufItem). record (marks_of i.marks) { stale = false; dirty = true }) was in
    let is = c.logged-item.ensures.change ∙ ap (λ (i : BufItem). record { edit = Some c.args.edit; marks = union i.chunks c.args.marked; charged = union i.charged c.args.marked }) was in
    let new = c.insert_at.ensures ∙ ap (put c.args.block c.logged-item.result) (without_absent c.args.block c.self.inside.items absent) in
    ap leg_of new ∙ logged_is c.args.block c.logged-item.result c.self.inside.items c.self.invariant c.args.edit c.args.marked of is
    ∙ ap (λ (l : Leg). edited c.args.block c.args.edit c.args.marked l) c.self.view_is

pub put-requires : goal.put-requires
put-requires c =
    λ gone. c.take_item-item.ensures.room (room_changed c.args.block c.self.inside.items c.self.invariant
    (subst (λ (l : Leg). is_in c.args.block l.changes ≡ false → length l.changes + length l.holds < 128) (sym c.self.view_is) c.requires))

pub invariant_of-self-in-Ok : goal.invariant_of-self-in-Ok
invariant_of-self-in-Ok c =
    let was = c.take_item-item.ensures.value in
    let of = c.logged.ensures.marks ∙ ap (λ (i : BufItem). record (marks_of i.marks) { stale = false; dirty = true }) was in
    let is = c.logged.ensures.change ∙ ap (λ (i : BufItem). record { edit = Some c.args.edit; marks = union i.chunks c.args.marked; charged = union i.charged c.args.marked }) was in
    let new = c.put.ensures ∙ ap (put c.args.block c.logged.result) c.take_item-item.ensures.rest in
    subst AreItems (sym new) (items_logged c.args.block c.logged.result c.self.inside.items c.self.invariant c.args.edit c.args.marked of is)

pub returns-in-Ok : goal.returns-in-Ok
returns-in-Ok c =
    let was = c.take_item-item.ensures.value in
    let of = c.logged.ensures.marks ∙ ap (λ (i : BufItem). record (marks_of i.marks) { stale = false; dirty = true }) was in
    let is = c.logged.ensures.change ∙ ap (λ (i : BufItem). record { edit = Some c.args.edit; marks = union i.chunks c.args.marked; charged = union i.charged c.args.marked }) was in
    let new = c.put.ensures ∙ ap (put c.args.block c.logged.result) c.take_item-item.ensures.rest in
    ap leg_of new ∙ logged_is c.args.block c.logged.result c.self.inside.items c.self.invariant c.args.edit c.args.marked of is
    ∙ ap (λ (l : Leg). edited c.args.block c.args.edit c.args.marked l) c.self.view_is
