use Rattle.std.proofs.Common.{arith, refl, subst, ℕ, ◌∙◌}
use Rattle.xt_cell.proofs.RunLemmas.{end_keeps}
use Rattle.xt_cell.specs.Posts.{PostsBoth}
use Rattle.xt_cell.proofs.running.serve_end.Goals as goal

pub post_both-requires : goal.post_both-requires
post_both-requires g c =
    let keeps = end_keeps _ _ _ _ _ _ c.requires.begun c.end-reply.ensures.booked.entry.served in
    let less = c.end-reply.ensures.room in
    let room = c.requires.room in
    (omega arith, (omega arith, (keeps.last _ c.requires.last, omega (arith, less, room))))

pub returns-clause-home : goal.returns-clause-home
returns-clause-home g c =
    let keeps = end_keeps _ _ _ _ _ _ c.requires.begun c.end-reply.ensures.booked.entry.served in
    c.post_both.ensures.home ∙ keeps.home

pub returns-clause-log : goal.returns-clause-log
returns-clause-log g c =
    let keeps = end_keeps _ _ _ _ _ _ c.requires.begun c.end-reply.ensures.booked.entry.served in
    c.post_both.ensures.log ∙ keeps.log

pub returns-clause-idle : goal.returns-clause-idle
returns-clause-idle g c =
    let keeps = end_keeps _ _ _ _ _ _ c.requires.begun c.end-reply.ensures.booked.entry.served in
    c.post_both.ensures.idle keeps.idle

pub returns-clause-booked : goal.returns-clause-booked
returns-clause-booked g c = record {
  between = c.end-reply.new.self;
  noted = c.end-reply.new.seat;
  booked = c.end-reply.ensures.booked;
  receipts = refl;
  caller = refl;
  posts = subst (λ (n : ℕ). PostsBoth n c.args.poster.now c.end-reply.new.self c.post_both.new.poster c.post_both.new.book) (c.caller.ensures ∙ c.end-reply.ensures.booked.receipt.caller) c.post_both.ensures.posts;
}
