use Rattle.std.proofs.Common.{◌≡◌, ◌∙◌, List, Some, [], ap, arith, false, length, subst, sym, true, unwrap_or, ℕ}
use Rattle.std.specs.Prelude.{is_some}
use Rattle.xt_base.specs.Calls.{edited, overwritten}
use Rattle.xt_base.specs.Chunks.{union}
use Rattle.xt_base.specs.Legs.{change_of}
use Rattle.xt_base.specs.Maps.{put}
use Rattle.xt_base.specs.Marks.{marks_of}
use Rattle.xt_base.specs.State.{Change, Leg}
use Rattle.xt_trans.proofs.ItemLemmas.{change_is, items_logged, logged_is, room_own}
use Rattle.xt_trans.specs.LegItems.{AreItems, change_in, item_at, leg_of}
use Rattle.xt_trans.specs.declared.item.BufItem.{BufItem}
use Rattle.xt_vectors.specs.Edits.{own_edit}
use Rattle.xt_trans.proofs.trans.TransRec.write.Goals as goal

pub written-item-requires-clause-own : goal.written-item-requires-clause-own
written-item-requires-clause-own c =
    let block = c.args.block in
    ap (λ (i : BufItem). is_some (own_edit i.edit)) c.take_item-item.ensures.value ∙ sym (ap (λ (x : Change). is_some (own_edit x.edit)) (change_is block c.self.inside.items c.self.invariant))
    ∙ ap (λ (l : Leg). is_some (own_edit (change_of block l).edit)) c.self.view_is ∙ c.requires.own

pub written-item-requires-clause-within : goal.written-item-requires-clause-within
written-item-requires-clause-within c =
    let block = c.args.block in
    let same : unwrap_or c.take_item-item.result.edit [] ≡ unwrap_or (change_of block c.args.self.now).edit [] =
    ap (λ (i : BufItem). unwrap_or i.edit []) c.take_item-item.ensures.value ∙ sym (ap (λ (x : Change). unwrap_or x.edit []) (change_is block c.self.inside.items c.self.invariant))
    ∙ ap (λ (l : Leg). unwrap_or (change_of block l).edit []) c.self.view_is in
    omega (arith, ap length same, c.requires.within)

pub put-requires : goal.put-requires
put-requires c =
    let block = c.args.block in
    let own = sym (ap (λ (x : Change). is_some (own_edit x.edit)) (change_is block c.self.inside.items c.self.invariant))
    ∙ ap (λ (l : Leg). is_some (own_edit (change_of block l).edit)) c.self.view_is ∙ c.requires.own in
    λ gone. c.take_item-item.ensures.room (room_own block c.self.inside.items own)

pub invariant_of-self : goal.invariant_of-self
invariant_of-self c =
    let block = c.args.block in
    let marked = c.args.marked in
    let over : Change → List ℕ = λ (x : Change). overwritten c.args.first c.args.bytes.now (unwrap_or x.edit []) in
    let was = ap (λ (x : Change). record x { edit = Some (over x) }) (ap change_in c.take_item-item.ensures.value) in
    let of = c.marked_too.ensures.marks ∙ ap (λ m. record (marks_of m) { stale = false; dirty = true }) (c.written-item.ensures.marks ∙ ap (λ (i : BufItem). i.marks) c.take_item-item.ensures.value) in
    let is = c.marked_too.ensures.change ∙ ap (λ (x : Change). record { edit = x.edit; marks = union x.marks marked; charged = union x.charged marked }) (c.written-item.ensures.change ∙ was) in
    let new = c.put.ensures ∙ ap (put block c.marked_too.result) c.take_item-item.ensures.rest in
    subst AreItems (sym new) (items_logged block c.marked_too.result c.self.inside.items c.self.invariant (over (change_in (item_at block c.self.inside.items))) marked of is)

pub returns : goal.returns
returns c =
    let block = c.args.block in
    let marked = c.args.marked in
    let over : Change → List ℕ = λ (x : Change). overwritten c.args.first c.args.bytes.now (unwrap_or x.edit []) in
    let was = ap (λ (x : Change). record x { edit = Some (over x) }) (ap change_in c.take_item-item.ensures.value) in
    let of = c.marked_too.ensures.marks ∙ ap (λ m. record (marks_of m) { stale = false; dirty = true }) (c.written-item.ensures.marks ∙ ap (λ (i : BufItem). i.marks) c.take_item-item.ensures.value) in
    let is = c.marked_too.ensures.change ∙ ap (λ (x : Change). record { edit = x.edit; marks = union x.marks marked; charged = union x.charged marked }) (c.written-item.ensures.change ∙ was) in
    let new = c.put.ensures ∙ ap (put block c.marked_too.result) c.take_item-item.ensures.rest in
    let content : List ℕ = over (change_in (item_at block c.self.inside.items)) in
    let same = sym (ap over (change_is block c.self.inside.items c.self.invariant)) ∙ ap (λ (l : Leg). over (change_of block l)) c.self.view_is in
    ap leg_of new ∙ logged_is block c.marked_too.result c.self.inside.items c.self.invariant content marked of is
    ∙ ap (λ (l : Leg). edited block content marked l) c.self.view_is ∙ ap (λ (x : List ℕ). edited block x marked c.args.self.now) same
