use Rattle.std.proofs.Common.{ap, arith, refl}
use Rattle.xt_cell.proofs.BookLemmas.{posted_book}
use Rattle.xt_cell.specs.Books.{BookView}
use Rattle.xt_cell.proofs.book.SlotBook.posted.Goals as goal

pub invariant_of-self : goal.invariant_of-self
invariant_of-self g c =
    let room = ap (λ (b : BookView). b.room) c.self.view_is in
    posted_book _ _ _ _ _ _ _ _ _ _ _ _ c.self.invariant c.posted.ensures refl (omega (arith, room, c.requires.room)) c.push_reserved.ensures.items c.own-step.ensures c.own-reply.ensures
