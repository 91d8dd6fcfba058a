use Rattle.std.proofs.Common.{sym, ◌∙◌}
use Rattle.xt_cell.proofs.ToldLemmas.{refused_told, served_told, shutdown_seen, unasked_receipt}
use Rattle.xt_cell.proofs.cell.SlotCell.call.Goals as goal

pub returns-then-not-is_no_memory-clause-booked : goal.returns-then-not-is_no_memory-clause-booked
returns-then-not-is_no_memory-clause-booked g c = λ no.
    let made = c.serve_call-reply.ensures.booked no in (
      made.0,
      made.1,
      record {
        between = made.2.between;
        noted = made.2.noted;
        booked = made.2.booked;
        receipts = c.show_shut.ensures.receipts ∙ made.2.receipts;
        caller = c.show_shut.ensures.caller ∙ made.2.caller;
        posts = made.2.posts;
      },
      made.3,
    )

pub returns-then-not-is_no_memory-clause-kind : goal.returns-then-not-is_no_memory-clause-kind
returns-then-not-is_no_memory-clause-kind g c =
    let made = c.serve_call-reply.ensures.booked (sym c.is_no_memory.ensures ∙ c.if-not-is_no_memory.true) in
    served_told _ _ _ _ _ made.1 _ _ _ made.2.booked.entry.served

pub returns-then-not-is_no_memory-clause-unasked : goal.returns-then-not-is_no_memory-clause-unasked
returns-then-not-is_no_memory-clause-unasked g c = λ no other.
    let made = c.serve_call-reply.ensures.booked no in
    let kept = unasked_receipt _ _ _ _ _ made.1 _ _ _ _ _ _ _ made.2 other in
    (kept.0, c.show_shut.ensures.receipts ∙ kept.1)

pub returns-then-not-is_no_memory-clause-failures : goal.returns-then-not-is_no_memory-clause-failures
returns-then-not-is_no_memory-clause-failures g c = λ no.
    let told = c.serve_call-reply.ensures.failures no in
    (told.0, told.1, c.show_shut.ensures.receipts ∙ told.2, told.3)

pub returns-then-not-is_no_memory-clause-caller : goal.returns-then-not-is_no_memory-clause-caller
returns-then-not-is_no_memory-clause-caller g c =
    let made = c.serve_call-reply.ensures.booked (sym c.is_no_memory.ensures ∙ c.if-not-is_no_memory.true) in
    c.show_shut.ensures.caller ∙ made.2.caller ∙ made.2.booked.receipt.caller

pub returns-then-not-is_no_memory-clause-shut : goal.returns-then-not-is_no_memory-clause-shut
returns-then-not-is_no_memory-clause-shut g c = λ is ok.
    let made = c.serve_call-reply.ensures.booked (sym c.is_no_memory.ensures ∙ c.if-not-is_no_memory.true) in
    shutdown_seen _ _ _ _ _ _ _ _ _ _ _ _ _ _ _ _ made.1 made.2 is ok c.is_shutdown-is_asked.ensures c.show_shut.ensures.shown

pub returns-else-not-is_no_memory-clause-kind : goal.returns-else-not-is_no_memory-clause-kind
returns-else-not-is_no_memory-clause-kind g c = refused_told _ _ (sym c.is_no_memory.ensures ∙ c.if-not-is_no_memory.false)
