use Rattle.std.proofs.Common.{subst, sym, ℕ, ◌∙◌}
use Rattle.std.proofs.lemmas.Bool.{false≢true}
use Rattle.xt_cell.proofs.CallLemmas.{booked_from}
use Rattle.xt_cell.specs.Posts.{PostsBoth}
use Rattle.xt_cell.proofs.cell.SlotCell.flush.Goals as goal

pub returns-clause-refused : goal.returns-clause-refused
returns-clause-refused g c = λ refused. absurd (false≢true (sym c.serve_flush-reply.ensures.happened ∙ refused))

pub returns-clause-booked : goal.returns-clause-booked
returns-clause-booked g c = λ happened.
    let event = c.serve_flush-reply.ensures.booked in
    let told = rw c.make_room.ensures.book.state at c.offered-answers.ensures.offered in (
      c.offered-answers.result,
      record {
        between = event.between;
        noted = event.noted;
        booked = booked_from _ _ _ _ _ _ _ _ _ c.make_room.ensures.book c.make_room.ensures.seat event.booked;
        receipts = c.show_shut.ensures.receipts ∙ event.receipts;
        caller = c.show_shut.ensures.caller ∙ event.caller;
        posts = subst (λ (n : ℕ). PostsBoth n c.args.self.now.poster event.between c.serve_flush-reply.new.poster c.serve_flush-reply.new.book) c.make_room.ensures.seat.caller event.posts;
      },
      told,
    )

pub returns-clause-failures : goal.returns-clause-failures
returns-clause-failures g c = λ happened.
    let event = c.serve_flush-reply.ensures.booked in
    let booked = booked_from _ _ _ _ _ _ _ _ _ c.make_room.ensures.book c.make_room.ensures.seat event.booked in
    (c.offered-answers.result, _, c.show_shut.ensures.receipts ∙ event.receipts ∙ booked.receipt.receipts, c.offered-answers.ensures.failures)
