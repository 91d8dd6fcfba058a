-- A call as the event of a locked slot.
use Rattle.std.proofs.Common.{[], Bool, Option, ap, false, length, refl, subst, true, ℕ, ◌+◌, ◌++◌, ◌∙◌, ◌≡◌, ◌∷◌}
use Rattle.std.specs.Prelude.{is_some, ◌&&◌}
use Rattle.xt_base.specs.Alone.{is_okay}
use Rattle.xt_base.specs.Calls.{is_unmount}
use Rattle.xt_base.specs.Order.{has_size, is_there, mount_is, of_life}
use Rattle.xt_base.specs.State.{State}
use Rattle.xt_base.specs.declared.steps.Answer.{Answer}
use Rattle.xt_base.specs.declared.steps.Reply.{Reply}
use Rattle.xt_base.specs.declared.steps.Request.{Request}
use Rattle.xt_base.specs.declared.steps.Step.{Step}
use Rattle.xt_base.specs.declared.steps.Step.TheVariants.{Call}
use Rattle.xt_cell.proofs.FactLemmas.{call_home, call_idle, call_last, call_log}
use Rattle.xt_cell.specs.Books.{BaseView, BookView, IsSameBook, entry, next_number}
use Rattle.xt_cell.specs.Cells.{IsStepOf}
use Rattle.xt_cell.specs.Events.{IsBooked}
use Rattle.xt_cell.specs.Facts.{has_log, is_flown_by_job, is_last_post}
use Rattle.xt_cell.specs.HostSeats.{HostSeatView, IsSameSeat, receipt}
use Rattle.xt_mount.specs.Slots.{IsServed, SlotState}

-- the step of a request, with its answer
pub step_from : (slot life : ℕ) (request : Request) (o : Option State) (answer : Answer) → is_there (mount_is (of_life life request) o) answer ≡ true → has_size answer o ≡ true → IsStepOf slot life request o (Call slot life request answer)
step_from slot life request o answer there size = record { answer = answer; is = refl; there = there; size = size }

-- what is kept of a slot from one state to another
pub record Keeps (new old : SlotState) : Type 0 where
  pub last : (p : ℕ × ℕ) → is_last_post p old ≡ true → is_last_post p new ≡ true
  pub home : is_some new.mounted ≡ is_some old.mounted
  pub log : has_log new.mounted ≡ has_log old.mounted
  pub idle : is_flown_by_job old.mounted ≡ true → is_flown_by_job new.mounted ≡ true

no_and : (a b : Bool) → a ≡ false → (a && b) ≡ false
no_and a b e = ap (λ c. c && b) e

-- a call that is no unmount keeps it
pub call_keeps : (slot life : ℕ) (request : Request) (o : Option State) (x : Step) (r : Reply) (new old : SlotState) → IsStepOf slot life request o x → is_unmount request ≡ false → IsServed x r new old → Keeps new old
call_keeps slot life request o x r new old step other served_x =
    let served = subst (λ y. IsServed y r new old) step.is served_x in
    let stays = no_and (is_unmount request) (is_okay r) other in
    record {
      last = call_last slot life request step.answer r new old served stays;
      home = call_home slot life request step.answer r new old served stays;
      log = call_log slot life request step.answer r new old served stays;
      idle = call_idle slot life request step.answer r new old served stays;
    }

-- what was booked in the same book and at the same seat
pub booked_from : (slot : ℕ) (x : Step) (r : Reply) (a b n : BookView) (s t u : HostSeatView) → IsSameBook a b → IsSameSeat s t → IsBooked slot x r b n t u → IsBooked slot x r a n s u
booked_from slot x r a b n s t u book seat booked = record {
  entry = record {
    base = booked.entry.base ∙ book.base;
    entries = booked.entry.entries ∙ ap (λ es. es ++ entry t.caller x r ∷ []) book.entries ∙ ap (λ c. a.entries ++ entry c x r ∷ []) seat.caller;
    served = subst (λ state. IsServed x r n.state state) book.state booked.entry.served;
  };
  receipt = record {
    caller = booked.receipt.caller ∙ seat.caller;
    receipts =
        booked.receipt.receipts ∙ ap (λ rs. rs ++ receipt slot (next_number b) x r ∷ []) seat.receipts
        ∙ ap (λ (base : BaseView). s.receipts ++ receipt slot (base.folded + length b.entries) x r ∷ []) book.base ∙ ap (λ es. s.receipts ++ receipt slot (a.base.folded + length es) x r ∷ []) book.entries;
    board = booked.receipt.board ∙ seat.board;
  };
}
