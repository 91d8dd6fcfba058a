-- What a worker's seat has after one job.
use Rattle.std.proofs.Common.{[], false, refl, true, ℕ, ◌≡◌, ◌∙◌, ◌∷◌}
use Rattle.xt_base.specs.Isolation.{is_no_memory}
use Rattle.xt_base.specs.declared.names.JobName.{JobName}
use Rattle.xt_base.specs.declared.steps.HomeAnswers.{HomeAnswers}
use Rattle.xt_base.specs.declared.steps.Reply.{Reply}
use Rattle.xt_base.specs.declared.steps.Step.TheVariants.{Begin, Flush}
use Rattle.xt_cell.specs.HostSeats.{HostSeatView, IsSameSeat}
use Rattle.xt_host.proofs.WorkLemmas.{worked_begin, worked_ended, worked_flush, worked_none}
use Rattle.xt_host.specs.Calls.{Receives}
use Rattle.xt_host.specs.Work.{Worked}

same : (s : HostSeatView) → IsSameSeat s s
same s = record { caller = refl; counts = refl; receipts = refl; board = refl }

module _ (worker : ℕ) (name : JobName) where
  -- its name waited no more
  pub left : (a b : HostSeatView) → IsSameSeat a b → Worked worker (name ∷ []) a b
  left a b is = worked_none worker (name ∷ []) a b is

  -- a checkpoint was begun, or refused memory
  pub began : (reply : Reply) (a b : HostSeatView) → (is_no_memory reply ≡ true → IsSameSeat a b) → (is_no_memory reply ≡ false → Receives name.slot (Begin worker name) reply a b) → Worked worker (name ∷ []) a b
  began reply a b refused received = worked_begin worker name reply a a b (same a) refused received

  -- a flush was done, or refused memory
  pub flushed : (reply : Reply) (a b : HostSeatView) → (is_no_memory reply ≡ true → IsSameSeat a b) → (is_no_memory reply ≡ false → (answers : HomeAnswers) × Receives name.slot (Flush worker name answers) reply a b) → Worked worker (name ∷ []) a b
  flushed reply a b refused received = worked_flush worker name reply a a b (same a) refused received

  -- a checkpoint was begun, run and ended
  pub ended : (reply : Reply) (by ran : ℕ) (of run : JobName) (a b c : HostSeatView) → (is_no_memory reply ≡ true → IsSameSeat a b) → (is_no_memory reply ≡ false → Receives name.slot (Begin worker name) reply a b)
      → ran ≡ by → by ≡ worker → run ≡ of → of ≡ name → Worked ran (run ∷ []) b c → Worked worker (name ∷ []) a c
  ended reply by ran of run a b c refused received same_ran own same_run named rest = worked_ended worker ran name run a b c (same_ran ∙ own) (same_run ∙ named) (began reply a b refused received) rest
