-- What a call makes of a locked slot.
use Rattle.std.specs.Prelude.{Bool, List, None, Option, Some, if◌then◌else◌, is_some, not, true, ℕ, ◌&&◌, ◌||◌, ◌≡◌, false}
use Rattle.xt_base.specs.Jobs.{is_begun}
use Rattle.xt_base.specs.Order.{has_size, is_there, mount_is, of_life}
use Rattle.xt_base.specs.State.{State}
use Rattle.xt_base.specs.declared.names.JobName.{JobName}
use Rattle.xt_base.specs.declared.steps.Answer.{Answer}
use Rattle.xt_base.specs.declared.steps.Reason.{Reason}
use Rattle.xt_base.specs.declared.steps.Reply.{Reply}
use Rattle.xt_base.specs.declared.steps.Request.{Request}
use Rattle.xt_base.specs.declared.steps.Request.TheVariants.{Shutdown}
use Rattle.xt_base.specs.declared.steps.Step.{Step}
use Rattle.xt_base.specs.declared.steps.Step.TheVariants.{Call}
use Rattle.xt_cell.specs.Books.{BookView}
use Rattle.xt_cell.specs.Events.{IsBooked}
use Rattle.xt_cell.specs.HostSeats.{HostSeatView, Shows}
use Rattle.xt_cell.specs.Posts.{PostsBoth}
use Rattle.xt_mount.specs.Slots.{pieces_in}
use Rattle.xt_queue.specs.Passes.{PostView}
use Rattle.xt_queue.specs.Seats.{SeatView}
use Rattle.xt_queue.specs.Words.{word_of}

-- the step of a request to a life of a slot, with an answer exactly where its mount asks for one; a content has the size of the mount's blocks
pub record IsStepOf (slot life : ℕ) (request : Request) (o : Option State) (step : Step) : Type 0 where
  pub answer : Answer
  pub is : step ≡ Call slot life request answer
  pub there : is_there (mount_is (of_life life request) o) answer ≡ true
  pub size : has_size answer o ≡ true

-- an event: the step was served and booked with its receipt, and then what it made owed was posted
pub record IsEvent (slot : ℕ) (step : Step) (reply : Reply) (book after : BookView) (seat later : HostSeatView) (pass passed : PostView) : Type 0 where
  pub between : BookView
  pub noted : HostSeatView
  pub booked : IsBooked slot step reply book between seat noted
  pub receipts : later.receipts ≡ noted.receipts
  pub caller : later.caller ≡ noted.caller
  pub posts : PostsBoth seat.caller pass between passed after

-- whether a request shuts its mount
abbrev pub is_shutdown : Request → Bool
is_shutdown Shutdown = true
is_shutdown other = false

-- the word that an event shows: that of a mount which it shut, or which it was asked to shut
abbrev pub word_shown : Bool → Option Reason → Option State → Option ℕ
word_shown asked before None = None
word_shown asked before (Some m) = if is_some m.shut && (asked || not (is_some before)) then Some (word_of m.life m.shut) else None

-- the seat showed a word of a slot, or nothing
abbrev pub IsShown : ℕ → Option ℕ → SeatView → SeatView → Type 0
IsShown slot None old new = new ≡ old
IsShown slot (Some word) old new = Shows slot word old new

-- whether this is what a mount is answered: its life, or why it was refused
abbrev pub is_life : Reply → Bool
is_life (Reply.Life life) = true
is_life (Reply.Refused errno) = true
is_life other = false

-- whether this is what an unmount is answered: ok, or why it was refused
abbrev pub is_done : Reply → Bool
is_done Reply.Okay = true
is_done (Reply.Refused errno) = true
is_done other = false

-- a name and pieces are those of the checkpoint in flight
abbrev pub IsFlight : JobName → List (List ℕ) → Option State → Type 0
IsFlight name pieces o = (mount_is (is_begun name) o ≡ true) × (pieces ≡ pieces_in o)
