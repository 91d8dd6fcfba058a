use Rattle.std.proofs.Common.{ap, arith, refl}
use Rattle.xt_base.specs.declared.steps.Step.TheVariants.{Flush}
use Rattle.xt_cell.proofs.BookLemmas.{written_book}
use Rattle.xt_cell.specs.Books.{BookView}
use Rattle.xt_cell.proofs.book.SlotBook.flush.Goals as goal

pub invariant_of-self : goal.invariant_of-self
invariant_of-self g c =
    let room = ap (λ (b : BookView). b.room) c.self.view_is in
    written_book _ _ _ _ _ _ _ _ (Flush c.args.worker c.args.name.now c.args.answers.now) _ _ _ _ c.self.invariant c.serve_flush-reply.ensures.served refl (omega (arith, room, c.requires.room)) c.write.ensures.entries c.flush_twin-step.ensures c.serve_flush-reply.ensures.twice c.write.ensures.total
