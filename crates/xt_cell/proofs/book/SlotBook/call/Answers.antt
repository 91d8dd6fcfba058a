use Rattle.std.proofs.Common.{refl, ap, arith, subst}
use Rattle.xt_base.specs.declared.steps.Step.{Step}
use Rattle.xt_cell.proofs.BookLemmas.{call_counts, written_book}
use Rattle.xt_cell.specs.Books.{BookView}
use Rattle.xt_mount.specs.Slots.{IsServed}
use Rattle.xt_cell.proofs.book.SlotBook.call.Goals as goal

pub invariant_of-self : goal.invariant_of-self
invariant_of-self g c =
    let room = ap (λ (b : BookView). b.room) c.self.view_is in
    written_book _ _ _ _ _ _ _ _ _ _ _ _ _ c.self.invariant
    (subst (λ (x : Step). IsServed x c.in-Ok.reply c.serve.new.slot c.self.inside.mount) c.get.ensures c.in-Ok.ensures.served)
    (call_counts _ c.requires.call)
    (omega (arith, room, c.requires.room))
    c.write.ensures.entries refl c.in-Ok.ensures.twice c.write.ensures.total
