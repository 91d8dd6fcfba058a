use Rattle.std.proofs.Common.{subst, ℕ, ◌∙◌}
use Rattle.xt_cell.proofs.CallLemmas.{booked_from}
use Rattle.xt_cell.specs.Posts.{PostsBoth}
use Rattle.xt_cell.proofs.cell.SlotCell.end.Goals as goal

pub returns-clause-booked : goal.returns-clause-booked
returns-clause-booked g c =
    let event = c.serve_end-reply.ensures.booked in
    record {
      between = event.between;
      noted = event.noted;
      booked = booked_from _ _ _ _ _ _ _ _ _ c.make_room.ensures.book c.make_room.ensures.seat event.booked;
      receipts = c.show_shut.ensures.receipts ∙ event.receipts;
      caller = c.show_shut.ensures.caller ∙ event.caller;
      posts = subst (λ (n : ℕ). PostsBoth n c.args.self.now.poster event.between c.serve_end-reply.new.poster c.serve_end-reply.new.book) c.make_room.ensures.seat.caller event.posts;
    }
