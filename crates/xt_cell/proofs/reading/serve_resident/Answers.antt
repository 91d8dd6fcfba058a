use Rattle.std.proofs.Common.{ap, arith, refl, subst, ℕ, ◌∙◌}
use Rattle.xt_base.specs.Order.{is_there}
use Rattle.xt_base.specs.declared.steps.Answer.{Answer}
use Rattle.xt_cell.proofs.CallLemmas.{call_keeps, step_from}
use Rattle.xt_cell.specs.Posts.{PostsBoth}
use Rattle.xt_cell.proofs.reading.serve_resident.Goals as goal

pub post_both-requires : goal.post_both-requires
post_both-requires g c =
    let keeps = call_keeps _ _ _ _ _ _ _ _ (step_from _ _ _ _ Answer.None (ap (λ b. is_there b Answer.None) c.in-Some.ensures.unasked) refl) refl c.in-Some.ensures.booked.entry.served in
    let room = c.in-Some.ensures.room in
    (omega arith, (omega arith, (keeps.last _ c.requires.last, omega (arith, room))))

pub returns-clause-home : goal.returns-clause-home
returns-clause-home g c =
    let keeps = call_keeps _ _ _ _ _ _ _ _ (step_from _ _ _ _ Answer.None (ap (λ b. is_there b Answer.None) c.in-Some.ensures.unasked) refl) refl c.in-Some.ensures.booked.entry.served in
    c.post_both.ensures.home ∙ keeps.home

pub returns-clause-log : goal.returns-clause-log
returns-clause-log g c =
    let keeps = call_keeps _ _ _ _ _ _ _ _ (step_from _ _ _ _ Answer.None (ap (λ b. is_there b Answer.None) c.in-Some.ensures.unasked) refl) refl c.in-Some.ensures.booked.entry.served in
    c.post_both.ensures.log ∙ keeps.log

pub returns-clause-idle : goal.returns-clause-idle
returns-clause-idle g c =
    let keeps = call_keeps _ _ _ _ _ _ _ _ (step_from _ _ _ _ Answer.None (ap (λ b. is_there b Answer.None) c.in-Some.ensures.unasked) refl) refl c.in-Some.ensures.booked.entry.served in
    c.post_both.ensures.idle (keeps.idle c.requires.idle)

pub returns-clause-booked : goal.returns-clause-booked
returns-clause-booked g c =
    let booked = c.in-Some.ensures.booked in
    record {
      between = c.try_read.new.self;
      noted = c.try_read.new.seat;
      booked = booked;
      receipts = refl;
      caller = refl;
      posts = subst (λ (n : ℕ). PostsBoth n c.args.poster.now c.try_read.new.self c.post_both.new.poster c.post_both.new.book) (c.caller.ensures ∙ booked.receipt.caller) c.post_both.ensures.posts;
    }
