use Rattle.std.proofs.Common.{ap, arith, refl, subst, sym, ℕ, ◌∙◌}
use Rattle.std.proofs.lemmas.Bool.{false≢true}
use Rattle.std.specs.Prelude.{is_some}
use Rattle.xt_base.specs.Jobs.{is_waiting}
use Rattle.xt_base.specs.Order.{mount_is}
use Rattle.xt_cell.proofs.CallLemmas.{booked_from}
use Rattle.xt_cell.proofs.RunLemmas.{begin_keeps, not_begun}
use Rattle.xt_cell.specs.Facts.{has_log, is_last_post}
use Rattle.xt_cell.specs.Posts.{PostsBoth}
use Rattle.xt_mount.specs.Slots.{SlotState}
use Rattle.xt_queue.specs.Names.{last_of, unposted}
use Rattle.xt_cell.proofs.running.serve_begin.Goals as goal

pub post_both-requires : goal.post_both-requires
post_both-requires g c =
    let happened = sym c.is_no_memory.ensures ∙ c.if-is_no_memory.false in
    let waits = ap (λ (s : SlotState). mount_is (is_waiting c.args.name.now) s.mounted) c.make_room.ensures.book.state ∙ c.requires.waiting in
    let keeps = begin_keeps _ _ _ _ _ c.requires.kind waits (c.started-reply.ensures.booked happened).entry.served in
    let before = ap (λ (s : SlotState). is_last_post (last_of unposted c.args.poster.now.posted) s) c.make_room.ensures.book.state ∙ c.requires.last in
    let less = c.started-reply.ensures.room happened in
    let room = c.in-Ok.ensures.room in
    (omega arith, (omega arith, (keeps.last _ before, omega (arith, less, room))))

pub returns-then-is_no_memory-clause-begun : goal.returns-then-is_no_memory-clause-begun
returns-then-is_no_memory-clause-begun g c = λ some.
    let refused = sym c.is_no_memory.ensures ∙ c.if-is_no_memory.true in
    absurd (false≢true (sym (c.started-reply.ensures.job ∙ not_begun _ refused) ∙ some))

pub returns-clause-home : goal.returns-clause-home
returns-clause-home g c =
    let happened = sym c.is_no_memory.ensures ∙ c.if-is_no_memory.false in
    let waits = ap (λ (s : SlotState). mount_is (is_waiting c.args.name.now) s.mounted) c.make_room.ensures.book.state ∙ c.requires.waiting in
    let keeps = begin_keeps _ _ _ _ _ c.requires.kind waits (c.started-reply.ensures.booked happened).entry.served in
    c.post_both.ensures.home ∙ keeps.home ∙ ap (λ (s : SlotState). is_some s.mounted) c.make_room.ensures.book.state

pub returns-clause-idle : goal.returns-clause-idle
returns-clause-idle g c =
    let happened = sym c.is_no_memory.ensures ∙ c.if-is_no_memory.false in
    let waits = ap (λ (s : SlotState). mount_is (is_waiting c.args.name.now) s.mounted) c.make_room.ensures.book.state ∙ c.requires.waiting in
    let keeps = begin_keeps _ _ _ _ _ c.requires.kind waits (c.started-reply.ensures.booked happened).entry.served in
    c.post_both.ensures.idle keeps.idle

pub returns-clause-begun : goal.returns-clause-begun
returns-clause-begun g c = λ some.
    let happened = sym c.is_no_memory.ensures ∙ c.if-is_no_memory.false in
    let waits = ap (λ (s : SlotState). mount_is (is_waiting c.args.name.now) s.mounted) c.make_room.ensures.book.state ∙ c.requires.waiting in
    let keeps = begin_keeps _ _ _ _ _ c.requires.kind waits (c.started-reply.ensures.booked happened).entry.served in
    (sym (ap (λ (s : SlotState). has_log s.mounted) c.make_room.ensures.book.state) ∙ keeps.before, c.post_both.ensures.log ∙ keeps.begun (sym c.started-reply.ensures.job ∙ some))

pub returns-clause-other : goal.returns-clause-other
returns-clause-other g c = λ none.
    let happened = sym c.is_no_memory.ensures ∙ c.if-is_no_memory.false in
    let waits = ap (λ (s : SlotState). mount_is (is_waiting c.args.name.now) s.mounted) c.make_room.ensures.book.state ∙ c.requires.waiting in
    let keeps = begin_keeps _ _ _ _ _ c.requires.kind waits (c.started-reply.ensures.booked happened).entry.served in
    c.post_both.ensures.log ∙ keeps.other (sym c.started-reply.ensures.job ∙ none) ∙ ap (λ (s : SlotState). has_log s.mounted) c.make_room.ensures.book.state

pub returns-clause-booked : goal.returns-clause-booked
returns-clause-booked g c = λ happened.
    let booked = c.started-reply.ensures.booked happened in
    record {
      between = c.started-reply.new.book;
      noted = c.started-reply.new.seat;
      booked = booked_from _ _ _ _ _ _ _ _ _ c.make_room.ensures.book c.make_room.ensures.seat booked;
      receipts = refl;
      caller = refl;
      posts =
          subst (λ (n : ℕ). PostsBoth n c.args.poster.now c.started-reply.new.book c.post_both.new.poster c.post_both.new.book) (c.caller.ensures ∙ booked.receipt.caller ∙ c.make_room.ensures.seat.caller)
          c.post_both.ensures.posts;
    }
