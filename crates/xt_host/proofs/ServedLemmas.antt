-- What a call leaves with its seat, whether its request is a read or not.
use Rattle.std.proofs.Common.{Bool, false, refl, sym, true, ◌∙◌, ◌≡◌}
use Rattle.std.proofs.lemmas.Bool.{false≢true}
use Rattle.xt_base.specs.Isolation.{is_no_memory}
use Rattle.xt_base.specs.Replies.{is_read}
use Rattle.xt_base.specs.declared.steps.Answer.{Answer}
use Rattle.xt_base.specs.declared.steps.Reply.{Reply}
use Rattle.xt_base.specs.declared.steps.Request.{Request}
use Rattle.xt_base.specs.declared.steps.Step.TheVariants.{Call}
use Rattle.xt_cell.specs.HostSeats.{HostSeatView, IsSameSeat}
use Rattle.xt_cell.specs.declared.mount_ref.MountRef.{MountRef}
use Rattle.xt_receipts.specs.Calls.{Receives}
use Rattle.xt_host.specs.Tokens.{Served}

-- a device answered only where the request is a read
pub served_of : (at : MountRef) (request : Request) (reply : Reply) (old new : HostSeatView) → (is_no_memory reply ≡ true → IsSameSeat old new)
    → (is_no_memory reply ≡ false → (answer : Answer) × Receives at.slot (Call at.slot at.life request answer) reply old new)
    → (is_no_memory reply ≡ false → is_read request ≡ false → Receives at.slot (Call at.slot at.life request Answer.None) reply old new)
    → Served at request reply old new
served_of at request reply old new same received unasked = record { refused = same; received = by (is_read request) refl }
  where
    by : (b : Bool) → is_read request ≡ b → is_no_memory reply ≡ false → (answer : Answer) × (is_read request ≡ false → answer ≡ Answer.None) × Receives at.slot (Call at.slot at.life request answer) reply old new
    by true is happened = let told = received happened in (told.0, (λ other. absurd (false≢true (sym other ∙ is))), told.1)
    by false is happened = (Answer.None, (λ other. refl), unasked happened is)
