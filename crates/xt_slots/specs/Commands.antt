-- What each command makes of the seat that it is given by.
use Rattle.std.specs.Prelude.{IfErr, IfOk, IfSome, List, None, OnErr, OnOk, false, true, ℕ, ⊤, ◌≡◌}
use Rattle.xt_base.specs.Isolation.{is_no_memory}
use Rattle.xt_base.specs.Jobs.{is_ckpt}
use Rattle.xt_base.specs.declared.steps.Answer.TheVariants as Answered
use Rattle.xt_base.specs.declared.steps.HomeAnswers.{HomeAnswers}
use Rattle.xt_base.specs.declared.steps.Reply.TheVariants.{Life, Okay, Refused}
use Rattle.xt_base.specs.declared.steps.Request.TheVariants as ARequest
use Rattle.xt_base.specs.declared.steps.Step.{Step}
use Rattle.xt_cell.specs.HostSeats.{HostSeatView, IsSameSeat, Shows}
use Rattle.xt_receipts.specs.Calls.{Receives}
use Rattle.xt_slots.specs.declared.commands.Command.{Command}
use Rattle.xt_slots.specs.declared.commands.Command.TheVariants as Do
use Rattle.xt_slots.specs.declared.commands.Outcome.{Outcome}
use Rattle.xt_slots.specs.declared.commands.Outcome.TheVariants as Came
use Rattle.xt_queue.specs.Boards.{Rises}
use Rattle.xt_queue.specs.Words.{word_of}

-- a seat as it is, but for its counts
abbrev pub with_counts : List ℕ → HostSeatView → HostSeatView
with_counts counts s = record { caller = s.caller; counts = counts; receipts = s.receipts; board = s.board; room = s.room }

module _ {A B : Type 0} {IsA : A → Type 0} {IsB : B → Type 0} where
  -- the slot of a command
  abbrev pub slot_of : Command A B IsA IsB → ℕ
  slot_of (Do.Mount slot log_bytes blocks size home log) = slot
  slot_of (Do.Unmount at) = at.slot
  slot_of (Do.Begin worker name) = name.slot
  slot_of (Do.End done) = done.name.slot
  slot_of (Do.Flush worker name) = name.slot

  -- a job is begun or flushed by its kind
  abbrev pub MayBe : Command A B IsA IsB → Type 0
  MayBe (Do.Begin worker name) = is_ckpt name.kind ≡ true
  MayBe (Do.Flush worker name) = is_ckpt name.kind ≡ false
  MayBe other = ⊤

  -- what comes of a command, and of the seat
  abbrev pub Did : Command A B IsA IsB → HostSeatView → HostSeatView → Outcome A B IsA IsB → Type 0
  Did (Do.Unmount at) old new (Came.Unmounted result) =
      IfErr result (λ errno. is_no_memory (Refused errno) ≡ true → IsSameSeat old new)
      × OnOk result (Receives at.slot (Step.Call at.slot at.life ARequest.Unmount Answered.None) Okay old new)
      × IfErr result (λ errno. is_no_memory (Refused errno) ≡ false → Receives at.slot (Step.Call at.slot at.life ARequest.Unmount Answered.None) (Refused errno) old new)
      × (new.board ≡ old.board)
  Did (Do.Mount slot log_bytes blocks size home log) old new (Came.Mounted result) =
      IfErr result (λ back. is_no_memory (Refused back.errno) ≡ true → IsSameSeat old new)
      × IfOk result (λ at. (at.slot ≡ slot) × Receives slot (Step.Mount slot log_bytes blocks size) (Life at.life) old new)
      × IfErr result (λ back. is_no_memory (Refused back.errno) ≡ false → Receives slot (Step.Mount slot log_bytes blocks size) (Refused back.errno) old new)
      × IfErr result (λ back. (back.home ≡ home) × (back.log ≡ log))
      × IfOk result (λ at. Shows slot (word_of at.life None) old.board new.board)
      × OnErr result (new.board ≡ old.board)
  Did (Do.Begin worker name) old new (Came.Begun result) =
      (result ≡ None → IsSameSeat old new)
      × IfSome result (λ began. is_no_memory began.0 ≡ true → IsSameSeat old new)
      × IfSome result (λ began. is_no_memory began.0 ≡ false → Receives name.slot (Step.Begin worker name) began.0 old new)
      × IfSome result (λ began. IfSome began.1 (λ job. (job.worker ≡ worker) × (job.name ≡ name)))
      × (new.board ≡ old.board)
  Did (Do.End done) old new (Came.Ended result) =
      IfErr result (λ back. (back.0 ≡ done) × IsSameSeat old new)
      × IfOk result (λ reply. Receives done.name.slot (Step.End done.worker done.name done.answers) reply old new)
      × Rises old.board.seen new.board.seen
  Did (Do.Flush worker name) old new (Came.Flushed result) =
      (result ≡ None → IsSameSeat old new)
      × IfSome result (λ reply. is_no_memory reply ≡ true → IsSameSeat old new)
      × IfSome result (λ reply. is_no_memory reply ≡ false → (answers : HomeAnswers) × Receives name.slot (Step.Flush worker name answers) reply old new)
      × Rises old.board.seen new.board.seen
  Did other old new answer = ⊥
