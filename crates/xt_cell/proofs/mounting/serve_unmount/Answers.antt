use Rattle.std.proofs.Common.{Option, ap, arith, sym, ℕ, ◌∙◌}
use Rattle.std.proofs.lemmas.Result.{IfErr-weaker, IfOk-weaker}
use Rattle.std.specs.Prelude.{is_some}
use Rattle.xt_base.specs.State.{State}
use Rattle.xt_base.specs.declared.steps.Answer.TheVariants as Answer
use Rattle.xt_base.specs.declared.steps.Request.TheVariants.{Unmount}
use Rattle.xt_base.specs.declared.steps.Step.TheVariants.{Call}
use Rattle.xt_cell.proofs.MountLemmas.{always, event_from, none_left, pair, trio, unmounts_of}
use Rattle.xt_cell.specs.Facts.{has_log, is_flown_by_job, is_last_post}
use Rattle.xt_mount.specs.Slots.{SlotState}
use Rattle.xt_queue.specs.Names.{last_of, unposted}
use Rattle.xt_cell.proofs.mounting.serve_unmount.Goals as goal

pub post_both-requires : goal.post_both-requires
post_both-requires g c =
    let no = sym c.is_no_memory.ensures ∙ c.if-is_no_memory.false in
    let made = unmounts_of _ _ _ _ _ _ _ c.unmount_twin.ensures (c.call-reply.ensures.booked no).entry.served in
    let before = ap (λ (s : SlotState). is_last_post (last_of unposted c.args.poster.now.posted) s) c.make_room.ensures.book.state ∙ c.requires.last in
    let less = c.call-reply.ensures.room no in
    let room = c.in-Ok.ensures.room in
    (omega arith, (omega arith, (made.last _ before, omega (arith, less, room))))

pub done_of-requires : goal.done_of-requires
done_of-requires g c =
    let no = sym c.is_no_memory.ensures ∙ c.if-is_no_memory.false in
    (unmounts_of _ _ _ _ _ _ _ c.unmount_twin.ensures (c.call-reply.ensures.booked no).entry.served).done

pub returns-clause-idle : goal.returns-clause-idle
returns-clause-idle g c =
    let no = sym c.is_no_memory.ensures ∙ c.if-is_no_memory.false in
    let made = unmounts_of _ _ _ _ _ _ _ c.unmount_twin.ensures (c.call-reply.ensures.booked no).entry.served in
    c.post_both.ensures.idle (made.idle (ap (λ (s : SlotState). is_flown_by_job s.mounted) c.make_room.ensures.book.state ∙ c.requires.idle))

pub returns-clause-gone : goal.returns-clause-gone
returns-clause-gone g c =
    let no = sym c.is_no_memory.ensures ∙ c.if-is_no_memory.false in
    let made = unmounts_of _ _ _ _ _ _ _ c.unmount_twin.ensures (c.call-reply.ensures.booked no).entry.served in
    let flown = ap (λ (s : SlotState). is_flown_by_job s.mounted) c.make_room.ensures.book.state ∙ c.requires.idle in
    IfOk-weaker _ _ _
    (λ done ok.
    trio
    (sym (ap (λ (s : SlotState). is_some s.mounted) c.make_room.ensures.book.state) ∙ (made.gone ok flown).0)
    (sym (ap (λ (s : SlotState). has_log s.mounted) c.make_room.ensures.book.state) ∙ (made.gone ok flown).1)
    (none_left _ (c.post_both.ensures.home ∙ ap (λ (o : Option State). is_some o) (made.gone ok flown).2)))
    c.done_of.ensures.done

pub returns-clause-kept : goal.returns-clause-kept
returns-clause-kept g c =
    let no = sym c.is_no_memory.ensures ∙ c.if-is_no_memory.false in
    let made = unmounts_of _ _ _ _ _ _ _ c.unmount_twin.ensures (c.call-reply.ensures.booked no).entry.served in
    IfErr-weaker _ _ _
    (λ e is.
    pair
    (c.post_both.ensures.home ∙ (made.kept e is).0 ∙ ap (λ (s : SlotState). is_some s.mounted) c.make_room.ensures.book.state)
    (c.post_both.ensures.log ∙ (made.kept e is).1 ∙ ap (λ (s : SlotState). has_log s.mounted) c.make_room.ensures.book.state))
    c.done_of.ensures.refused

pub returns-clause-unmounted : goal.returns-clause-unmounted
returns-clause-unmounted g c =
    let no = sym c.is_no_memory.ensures ∙ c.if-is_no_memory.false in
    let step = c.unmount_twin.ensures ∙ ap (λ (n : ℕ). Call n c.args.life Unmount Answer.None) (c.slot-slot.ensures ∙ c.slot.ensures.slot) in
    IfOk-weaker _ _ _
    (λ done is. event_from _ _ _ _ _ _ _ _ _ _ _ _ _ _ _ c.make_room.ensures.book c.make_room.ensures.seat (c.call-reply.ensures.booked no) step is c.caller.ensures c.post_both.ensures.posts)
    c.done_of.ensures.done

pub returns-clause-booked : goal.returns-clause-booked
returns-clause-booked g c =
    let no = sym c.is_no_memory.ensures ∙ c.if-is_no_memory.false in
    let step = c.unmount_twin.ensures ∙ ap (λ (n : ℕ). Call n c.args.life Unmount Answer.None) (c.slot-slot.ensures ∙ c.slot.ensures.slot) in
    IfErr-weaker _ _ _
    (λ e is. always (event_from _ _ _ _ _ _ _ _ _ _ _ _ _ _ _ c.make_room.ensures.book c.make_room.ensures.seat (c.call-reply.ensures.booked no) step is c.caller.ensures c.post_both.ensures.posts))
    c.done_of.ensures.refused
