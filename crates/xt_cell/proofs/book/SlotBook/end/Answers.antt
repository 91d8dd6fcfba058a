use Rattle.std.proofs.Common.{ap, arith, refl}
use Rattle.xt_base.specs.declared.steps.Step.TheVariants.{End}
use Rattle.xt_cell.proofs.BookLemmas.{written_book}
use Rattle.xt_cell.specs.Books.{BookView}
use Rattle.xt_cell.proofs.book.SlotBook.end.Goals as goal

pub invariant_of-self : goal.invariant_of-self
invariant_of-self g c =
    let room = ap (λ (b : BookView). b.room) c.self.view_is in
    written_book _ _ _ _ _ _ _ _ (End c.args.worker c.args.name.now c.args.answers.now) _ _ _ _ c.self.invariant c.serve_end-reply.ensures.served refl (omega (arith, room, c.requires.room)) c.write.ensures.entries c.end_twin-step.ensures c.serve_end-reply.ensures.twice c.write.ensures.total
