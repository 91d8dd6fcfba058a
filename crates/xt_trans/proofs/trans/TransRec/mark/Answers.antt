use Rattle.std.proofs.Common.{◌≡◌, ◌∙◌, List, Option, Some, [], ap, false, subst, sym, true, ℕ}
use Rattle.xt_base.specs.Calls.{edited}
use Rattle.xt_base.specs.Chunks.{union}
use Rattle.xt_base.specs.Legs.{change_of}
use Rattle.xt_base.specs.Maps.{put}
use Rattle.xt_base.specs.Marks.{marks_of}
use Rattle.xt_base.specs.State.{Change, Leg}
use Rattle.xt_trans.proofs.ItemLemmas.{change_is, in_place_is, items_logged, logged_is, room_in_place}
use Rattle.xt_trans.specs.LegItems.{AreItems, change_in, item_at, leg_of}
use Rattle.xt_trans.specs.declared.item.BufItem.{BufItem}
use Rattle.xt_vectors.specs.Edits.{is_in_place}
use Rattle.xt_trans.proofs.trans.TransRec.mark.Goals as goal

pub put-requires : goal.put-requires
put-requires c =
    let block = c.args.block in
    let here = sym (ap (λ (x : Change). is_in_place x.edit) (change_is block c.self.inside.items c.self.invariant))
    ∙ ap (λ (l : Leg). is_in_place (change_of block l).edit) c.self.view_is ∙ c.requires in
    λ gone. c.take_item-item.ensures.room (room_in_place block c.self.inside.items here)

pub invariant_of-self : goal.invariant_of-self
invariant_of-self c =
    let block = c.args.block in
    let marked = c.args.marked in
    let was = c.take_item-item.ensures.value in
    let here = sym (ap (λ (x : Change). is_in_place x.edit) (change_is block c.self.inside.items c.self.invariant))
    ∙ ap (λ (l : Leg). is_in_place (change_of block l).edit) c.self.view_is ∙ c.requires in
    let empty : (item_at block c.self.inside.items).edit ≡ Some [] = in_place_is (change_in (item_at block c.self.inside.items)).edit here in
    let of = c.marked_too.ensures.marks ∙ ap (λ (i : BufItem). record (marks_of i.marks) { stale = false; dirty = true }) was in
    let is = c.marked_too.ensures.change ∙ ap (λ (i : BufItem). record { edit = i.edit; marks = union i.chunks marked; charged = union i.charged marked }) was
    ∙ ap (λ (o : Option (List ℕ)). record { edit = o; marks = union (item_at block c.self.inside.items).chunks marked; charged = union (item_at block c.self.inside.items).charged marked }) empty in
    let new = c.put.ensures ∙ ap (put block c.marked_too.result) c.take_item-item.ensures.rest in
    subst AreItems (sym new) (items_logged block c.marked_too.result c.self.inside.items c.self.invariant [] marked of is)

pub returns : goal.returns
returns c =
    let block = c.args.block in
    let marked = c.args.marked in
    let was = c.take_item-item.ensures.value in
    let here = sym (ap (λ (x : Change). is_in_place x.edit) (change_is block c.self.inside.items c.self.invariant))
    ∙ ap (λ (l : Leg). is_in_place (change_of block l).edit) c.self.view_is ∙ c.requires in
    let empty : (item_at block c.self.inside.items).edit ≡ Some [] = in_place_is (change_in (item_at block c.self.inside.items)).edit here in
    let of = c.marked_too.ensures.marks ∙ ap (λ (i : BufItem). record (marks_of i.marks) { stale = false; dirty = true }) was in
    let is = c.marked_too.ensures.change ∙ ap (λ (i : BufItem). record { edit = i.edit; marks = union i.chunks marked; charged = union i.charged marked }) was
    ∙ ap (λ (o : Option (List ℕ)). record { edit = o; marks = union (item_at block c.self.inside.items).chunks marked; charged = union (item_at block c.self.inside.items).charged marked }) empty in
    let new = c.put.ensures ∙ ap (put block c.marked_too.result) c.take_item-item.ensures.rest in
    ap leg_of new ∙ logged_is block c.marked_too.result c.self.inside.items c.self.invariant [] marked of is ∙ ap (λ (l : Leg). edited block [] marked l) c.self.view_is
