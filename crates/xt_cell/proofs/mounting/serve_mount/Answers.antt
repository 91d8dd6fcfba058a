use Rattle.std.proofs.Common.{Option, ap, arith, refl, sym, ◌∙◌}
use Rattle.std.proofs.lemmas.Result.{IfErr-weaker, IfOk-weaker}
use Rattle.std.specs.Prelude.{is_some}
use Rattle.xt_base.specs.State.{State}
use Rattle.xt_cell.proofs.MountLemmas.{always, event_from, mounts, pair}
use Rattle.xt_cell.specs.Facts.{has_log, is_flown_by_job, is_last_post}
use Rattle.xt_mount.specs.Slots.{SlotState}
use Rattle.xt_queue.specs.Names.{last_of, unposted}
use Rattle.xt_cell.proofs.mounting.serve_mount.Goals as goal

pub post_both-requires : goal.post_both-requires
post_both-requires g c =
    let no = sym c.is_no_memory.ensures ∙ c.if-is_no_memory.false in
    let made = mounts _ _ _ _ _ _ _ (c.mount-reply.ensures.booked no).entry.served in
    let before = ap (λ (s : SlotState). is_last_post (last_of unposted c.args.poster.now.posted) s) c.make_room.ensures.book.state ∙ c.requires.last in
    let less = c.mount-reply.ensures.room no in
    let room = c.in-Ok.ensures.room in
    (omega arith, (omega arith, (made.last _ before, omega (arith, less, room))))

pub life_of-requires : goal.life_of-requires
life_of-requires g c =
    let no = sym c.is_no_memory.ensures ∙ c.if-is_no_memory.false in
    (mounts _ _ _ _ _ _ _ (c.mount-reply.ensures.booked no).entry.served).life

pub returns-clause-idle : goal.returns-clause-idle
returns-clause-idle g c =
    let no = sym c.is_no_memory.ensures ∙ c.if-is_no_memory.false in
    let made = mounts _ _ _ _ _ _ _ (c.mount-reply.ensures.booked no).entry.served in
    c.post_both.ensures.idle (made.idle (ap (λ (s : SlotState). is_flown_by_job s.mounted) c.make_room.ensures.book.state ∙ c.requires.idle))

pub returns-clause-there : goal.returns-clause-there
returns-clause-there g c =
    let no = sym c.is_no_memory.ensures ∙ c.if-is_no_memory.false in
    let made = mounts _ _ _ _ _ _ _ (c.mount-reply.ensures.booked no).entry.served in
    IfOk-weaker _ _ _ (λ life is. pair (c.post_both.ensures.home ∙ (made.there life is).0) (c.post_both.ensures.log ∙ (made.there life is).1)) c.life_of.ensures.life

pub returns-clause-kept : goal.returns-clause-kept
returns-clause-kept g c =
    let no = sym c.is_no_memory.ensures ∙ c.if-is_no_memory.false in
    let made = mounts _ _ _ _ _ _ _ (c.mount-reply.ensures.booked no).entry.served in
    IfErr-weaker _ _ _
    (λ e is.
    pair
    (c.post_both.ensures.home ∙ ap (λ (o : Option State). is_some o) (made.kept e is) ∙ ap (λ (s : SlotState). is_some s.mounted) c.make_room.ensures.book.state)
    (c.post_both.ensures.log ∙ ap has_log (made.kept e is) ∙ ap (λ (s : SlotState). has_log s.mounted) c.make_room.ensures.book.state))
    c.life_of.ensures.refused

pub returns-clause-mounted : goal.returns-clause-mounted
returns-clause-mounted g c =
    let no = sym c.is_no_memory.ensures ∙ c.if-is_no_memory.false in
    IfOk-weaker _ _ _
    (λ life is. event_from _ _ _ _ _ _ _ _ _ _ _ _ _ _ _ c.make_room.ensures.book c.make_room.ensures.seat (c.mount-reply.ensures.booked no) refl is c.caller.ensures c.post_both.ensures.posts)
    c.life_of.ensures.life

pub returns-clause-booked : goal.returns-clause-booked
returns-clause-booked g c =
    let no = sym c.is_no_memory.ensures ∙ c.if-is_no_memory.false in
    IfErr-weaker _ _ _
    (λ e is. always (event_from _ _ _ _ _ _ _ _ _ _ _ _ _ _ _ c.make_room.ensures.book c.make_room.ensures.seat (c.mount-reply.ensures.booked no) refl is c.caller.ensures c.post_both.ensures.posts))
    c.life_of.ensures.refused
