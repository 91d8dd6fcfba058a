use Rattle.std.proofs.Common.{ap, arith, refl, ℕ, ◌∙◌}
use Rattle.xt_base.specs.declared.steps.Answer.{Answer}
use Rattle.xt_base.specs.declared.steps.Request.{Request}
use Rattle.xt_base.specs.declared.steps.Step.TheVariants.{Call}
use Rattle.xt_cell.proofs.BookLemmas.{written_book}
use Rattle.xt_cell.specs.Books.{BookView}
use Rattle.xt_cell.proofs.book.SlotBook.try_read.Goals as goal

pub invariant_of-self : goal.invariant_of-self
invariant_of-self g c =
    let room = ap (λ (b : BookView). b.room) c.self.view_is in
    written_book _ _ _ _ _ _ _ _ (Call c.self.inside.mount.slot c.args.life (Request.Read c.args.trans c.args.block) Answer.None) _ _ _ _ c.self.invariant c.in-Some.ensures.served refl (omega (arith, room, c.requires.room)) c.write.ensures.entries
    (◌∙◌ {b = Call c.slot-slot.result c.args.life (Request.Read c.args.trans c.args.block) Answer.None} c.read_twin-step.ensures (ap (λ (n : ℕ). Call n c.args.life (Request.Read c.args.trans c.args.block) Answer.None) c.slot-slot.ensures))
    c.in-Some.ensures.twice c.write.ensures.total
