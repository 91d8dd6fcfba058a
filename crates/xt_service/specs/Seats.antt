-- What becomes of the seats of a service: of a session's, of a worker's, and of its own.
use Rattle.std.specs.List.{Contains}
use Rattle.std.specs.Prelude.{All, IfSome, List, None, Option, Some, replicate, slice_set, ℕ, [], ◌++◌, ◌≡◌, ◌⊎◌, ◌∷◌}
use Rattle.xt_base.specs.declared.names.JobName.{JobName}
use Rattle.xt_base.specs.declared.sizes.TheConstants.{SLOTS}
use Rattle.xt_base.specs.declared.steps.Errno.{Errno}
use Rattle.xt_base.specs.declared.steps.Reply.{Reply}
use Rattle.xt_base.specs.declared.steps.Reply.TheVariants.{Okay, Refused}
use Rattle.xt_base.specs.declared.steps.Request.TheVariants.{Force, Push, Unmount}
use Rattle.xt_base.specs.declared.steps.Step.{Step}
use Rattle.xt_base.specs.declared.steps.Step.TheVariants.{Call}
use Rattle.xt_cell.specs.HostSeats.{HostSeatView}
use Rattle.xt_cell.specs.declared.mount_ref.MountRef.{MountRef}
use Rattle.xt_cell.specs.declared.records.Receipt.{Receipt}
use Rattle.xt_host.specs.Tokens.{Served}
use Rattle.xt_host.specs.Work.{IsWorkOf, counted_each}
use Rattle.xt_queue.specs.Boards.{Rises}

-- a seat off which other seats were split, perhaps none: it is as it was, but for how many those are and for its room
pub record IsSplitOff (old new : HostSeatView) : Type 0 where
  pub caller : new.caller ≡ old.caller
  pub counts : new.counts ≡ old.counts
  pub receipts : new.receipts ≡ old.receipts
  pub board : new.board.board ≡ old.board.board
  pub shown : new.board.shown ≡ old.board.shown
  pub seen : new.board.seen ≡ old.board.seen
  pub rank : new.board.rank ≡ old.board.rank

-- a seat by which calls were made, perhaps none: it is the same caller's at the same board, what it saw did not go down, no seat was split off it, and its rank stays
pub record IsUsed (old new : HostSeatView) : Type 0 where
  pub caller : new.caller ≡ old.caller
  pub board : new.board.board ≡ old.board.board
  pub rises : Rises old.board.seen new.board.seen
  pub splits : new.board.splits ≡ old.board.splits
  pub rank : new.board.rank ≡ old.board.rank

-- a seat by which a worker worked: it counted one event for each of some steps, and each of them is this worker's begin, end or flush of a name that it took
pub record HasWorked (worker : ℕ) (taken : List JobName) (old new : HostSeatView) : Type 0 where
  pub steps : List Receipt
  pub own : All (IsWorkOf worker taken) steps
  pub counts : new.counts ≡ counted_each steps old.counts
  pub used : IsUsed old new

-- a step asks that what a mount has committed be written to its log, or home
abbrev pub IsWriteStep : MountRef → Step → Type 0
IsWriteStep at (Call slot life Force answer) = (slot ≡ at.slot) × (life ≡ at.life)
IsWriteStep at (Call slot life Push answer) = (slot ≡ at.slot) × (life ≡ at.life)
IsWriteStep at other = ⊥

-- a receipt is of such a step to one of some mounts, in the book of its slot
abbrev pub IsWriteOf : List MountRef → Receipt → Type 0
IsWriteOf mounts r = (at : MountRef) × Contains mounts at × (r.slot ≡ at.slot) × IsWriteStep at r.step

-- a seat by which a worker worked and had mounts written out: it counted one event for each of some steps, and each of them is a step of its work, or asks that one of these
-- mounts be written
pub record HasWrittenOut (mounts : List MountRef) (worker : ℕ) (taken : List JobName) (old new : HostSeatView) : Type 0 where
  pub steps : List Receipt
  pub own : All (λ r. IsWorkOf worker taken r ⊎ IsWriteOf mounts r) steps
  pub counts : new.counts ≡ counted_each steps old.counts
  pub used : IsUsed old new

-- each name that was put aside is one of those that were taken
abbrev pub AreOf : List JobName → List (Option JobName) → Type 0
AreOf taken places = All (λ place. IfSome place (λ name. Contains taken name)) places

-- ---- the end of a service
-- the reply to an unmount, by why the slot is mounted still, if it is
abbrev pub unmount_reply : Option Errno → Reply
unmount_reply None = Okay
unmount_reply (Some errno) = Refused errno

-- mounts were asked for to be unmounted by a seat, one after another, with why each slot is mounted still, of those that are
pub data Unmounts (first : HostSeatView) : List MountRef → HostSeatView → List (Option Errno) → Type 0 where
  none : Unmounts first [] first (replicate SLOTS None)
  more : (before : List MountRef) (at : MountRef) (now last : HostSeatView) (kept : List (Option Errno)) (why : Option Errno) → Unmounts first before now kept → Served at Unmount (unmount_reply why) now last → Unmounts first (before ++ at ∷ []) last (slice_set kept at.slot why)
