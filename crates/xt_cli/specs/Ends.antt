-- What the end of a service tells.
use Rattle.std.specs.Prelude.{Bool, List, None, Option, Some, [], false, is_none, replicate, slice_index_or, slice_set, true, ℕ, ◌&&◌, ◌++◌, ◌≡◌, ◌∷◌}
use Rattle.xt_base.specs.declared.sizes.TheConstants.{SLOTS}
use Rattle.xt_base.specs.declared.steps.Reason.{Reason}
use Rattle.xt_base.specs.declared.steps.Reason.TheVariants.{LogIoError, MetaIoError}
use Rattle.xt_cell.specs.HostSeats.{HostSeatView}
use Rattle.xt_cell.specs.declared.mount_ref.MountRef.{MountRef}
use Rattle.xt_cli.specs.declared.serve.ending.Ended.{Ended}
use Rattle.xt_queue.specs.Words.{word_of}

-- whether a device failed where a slot was shut for this reason, if it was
abbrev pub is_device_fault : Option Reason → Bool
is_device_fault (Some MetaIoError) = true
is_device_fault (Some LogIoError) = true
is_device_fault other = false

-- a seat looked at the slots of some mounts, one after another, with why each slot was shut, of those that were: what it then saw of it
pub data Looks (first : HostSeatView) : List MountRef → HostSeatView → List (Option Reason) → Type 0 where
  none : Looks first [] first (replicate SLOTS None)
  more : (before : List MountRef) (at : MountRef) (now last : HostSeatView) (shut : List (Option Reason)) (life : ℕ) (why : Option Reason) → Looks first before now shut → last.board.seen ≡ slice_set now.board.seen at.slot (word_of life why) → Looks first (before ++ at ∷ []) last (slice_set shut at.slot why)

-- whether all that was committed in a slot is on its home device: the books of the host agree, and the slot is neither mounted still nor was it shut
abbrev pub is_home : Ended → ℕ → Bool
is_home ended slot = ended.is_closed && is_none (slice_index_or ended.kept slot None) && is_none (slice_index_or ended.shut slot None)
