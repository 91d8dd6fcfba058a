use Rattle.std.proofs.Common.{ap, arith, inr, refl, subst, sym, ℕ, ◌∙◌}
use Rattle.std.specs.Prelude.{is_some}
use Rattle.xt_cell.proofs.CallLemmas.{booked_from, call_keeps, step_from}
use Rattle.xt_cell.specs.Facts.{has_log, is_flown_by_job, is_last_post}
use Rattle.xt_cell.specs.Posts.{PostsBoth}
use Rattle.xt_mount.specs.Slots.{SlotState}
use Rattle.xt_queue.specs.Names.{last_of, unposted}
use Rattle.xt_cell.proofs.cell.serve_asking.Goals as goal

pub post_both-requires : goal.post_both-requires
post_both-requires g c =
    let no = sym c.is_no_memory.ensures ∙ c.if-not-is_no_memory.true in
    let keeps = call_keeps _ _ _ _ _ _ _ _ (step_from _ _ _ _ _ c.in-Ok.ensures.there c.in-Ok.ensures.size) c.requires.kind (c.ask-reply.ensures.booked no).entry.served in
    let before = ap (λ (s : SlotState). is_last_post (last_of unposted c.args.poster.now.posted) s) c.ready.ensures.book.state ∙ c.requires.last in
    let less = c.ask-reply.ensures.room no in
    let room = c.in-Ok.ensures.room in
    (omega arith, (omega arith, (keeps.last _ before, omega (arith, less, room))))

pub returns-then-not-is_no_memory-clause-home : goal.returns-then-not-is_no_memory-clause-home
returns-then-not-is_no_memory-clause-home g c =
    let no = sym c.is_no_memory.ensures ∙ c.if-not-is_no_memory.true in
    let keeps = call_keeps _ _ _ _ _ _ _ _ (step_from _ _ _ _ _ c.in-Ok.ensures.there c.in-Ok.ensures.size) c.requires.kind (c.ask-reply.ensures.booked no).entry.served in
    c.ready.ensures.home ∙ c.requires.home ∙ sym (ap (λ (s : SlotState). is_some s.mounted) c.ready.ensures.book.state) ∙ sym keeps.home ∙ sym c.post_both.ensures.home

pub returns-then-not-is_no_memory-clause-log : goal.returns-then-not-is_no_memory-clause-log
returns-then-not-is_no_memory-clause-log g c =
    let no = sym c.is_no_memory.ensures ∙ c.if-not-is_no_memory.true in
    let keeps = call_keeps _ _ _ _ _ _ _ _ (step_from _ _ _ _ _ c.in-Ok.ensures.there c.in-Ok.ensures.size) c.requires.kind (c.ask-reply.ensures.booked no).entry.served in
    c.post_both.ensures.log ∙ keeps.log ∙ ap (λ (s : SlotState). has_log s.mounted) c.ready.ensures.book.state

pub returns-then-not-is_no_memory-clause-idle : goal.returns-then-not-is_no_memory-clause-idle
returns-then-not-is_no_memory-clause-idle g c =
    let no = sym c.is_no_memory.ensures ∙ c.if-not-is_no_memory.true in
    let keeps = call_keeps _ _ _ _ _ _ _ _ (step_from _ _ _ _ _ c.in-Ok.ensures.there c.in-Ok.ensures.size) c.requires.kind (c.ask-reply.ensures.booked no).entry.served in
    c.post_both.ensures.idle (keeps.idle (ap (λ (s : SlotState). is_flown_by_job s.mounted) c.ready.ensures.book.state ∙ c.requires.idle))

pub returns-then-not-is_no_memory-clause-booked : goal.returns-then-not-is_no_memory-clause-booked
returns-then-not-is_no_memory-clause-booked g c = λ no.
    let booked = c.ask-reply.ensures.booked no in (
      _,
      step_from _ _ _ _ _ c.in-Ok.ensures.there c.in-Ok.ensures.size,
      record {
        between = c.ask-reply.new.self;
        noted = c.ask-reply.new.seat;
        booked = booked_from _ _ _ _ _ _ _ _ _ c.ready.ensures.book c.ready.ensures.seat booked;
        receipts = refl;
        caller = refl;
        posts = subst (λ (n : ℕ). PostsBoth n c.args.poster.now c.ask-reply.new.self c.post_both.new.poster c.post_both.new.book) (c.caller.ensures ∙ booked.receipt.caller ∙ c.ready.ensures.seat.caller) c.post_both.ensures.posts;
      },
      c.in-Ok.ensures.asked,
    )

pub returns-then-not-is_no_memory-clause-failures : goal.returns-then-not-is_no_memory-clause-failures
returns-then-not-is_no_memory-clause-failures g c = λ no.
    let booked = booked_from _ _ _ _ _ _ _ _ _ c.ready.ensures.book c.ready.ensures.seat (c.ask-reply.ensures.booked no) in
    (_, _, booked.receipt.receipts, c.in-Ok.ensures.failures)

pub returns-else-not-is_no_memory-clause-tried : goal.returns-else-not-is_no_memory-clause-tried
returns-else-not-is_no_memory-clause-tried g c = λ no_memory.
    inr (_, c.in-Ok.ensures.asked)
