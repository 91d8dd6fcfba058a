use Rattle.std.proofs.Common.{ap, arith, refl, ℕ, ◌∙◌}
use Rattle.xt_base.specs.declared.steps.Step.TheVariants as Step
use Rattle.xt_cell.proofs.BookLemmas.{written_book}
use Rattle.xt_cell.specs.Books.{BookView}
use Rattle.xt_cell.proofs.book.SlotBook.mount.Goals as goal

pub invariant_of-self : goal.invariant_of-self
invariant_of-self g c =
    let room = ap (λ (b : BookView). b.room) c.self.view_is in
    written_book _ _ _ _ _ _ _ _ (Step.Mount c.self.inside.mount.slot c.args.log_bytes c.args.blocks c.args.size) _ _ _ _ c.self.invariant c.in-Ok.ensures.served refl (omega (arith, room, c.requires.room)) c.write.ensures.entries (◌∙◌ {b = Step.Mount c.slot-slot.result c.args.log_bytes c.args.blocks c.args.size} c.mount_twin-step.ensures (ap (λ (n : ℕ). Step.Mount n c.args.log_bytes c.args.blocks c.args.size) c.slot-slot.ensures)) c.in-Ok.ensures.twice c.write.ensures.total
