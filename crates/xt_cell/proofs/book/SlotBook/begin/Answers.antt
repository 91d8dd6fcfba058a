use Rattle.std.proofs.Common.{ap, arith, refl}
use Rattle.xt_cell.proofs.BookLemmas.{written_book}
use Rattle.xt_cell.specs.Books.{BookView}
use Rattle.xt_cell.proofs.book.SlotBook.begin.Goals as goal

pub invariant_of-self : goal.invariant_of-self
invariant_of-self g c =
    let room = ap (λ (b : BookView). b.room) c.self.view_is in
    written_book _ _ _ _ _ _ _ _ _ _ _ _ _ c.self.invariant c.in-Ok.ensures.served refl (omega (arith, room, c.requires.room)) c.write.ensures.entries c.begin_twin-step.ensures c.in-Ok.ensures.twice c.write.ensures.total
