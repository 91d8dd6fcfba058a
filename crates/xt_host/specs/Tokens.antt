-- What a call by a token leaves with its seat, and what the tokens are.
use Rattle.std.specs.Prelude.{false, true, ◌≡◌, ◌≢◌}
use Rattle.xt_base.specs.Calls.{held_of, io_of}
use Rattle.xt_base.specs.Isolation.{is_no_memory}
use Rattle.xt_base.specs.Replies.{is_read}
use Rattle.xt_base.specs.declared.steps.Answer.{Answer}
use Rattle.xt_base.specs.declared.steps.Errno.TheVariants.{Io}
use Rattle.xt_base.specs.declared.steps.Reply.{Reply}
use Rattle.xt_base.specs.declared.steps.Reply.TheVariants.{Refused}
use Rattle.xt_base.specs.declared.steps.Request.{Request}
use Rattle.xt_base.specs.declared.steps.Request.TheVariants.{Commit, Roll}
use Rattle.xt_base.specs.declared.steps.Step.TheVariants.{Call}
use Rattle.xt_cell.specs.HostSeats.{HostSeatView, IsSameSeat}
use Rattle.xt_cell.specs.declared.mount_ref.MountRef.{MountRef}
use Rattle.xt_receipts.specs.Calls.{Receives}
use Rattle.xt_host.specs.declared.outcomes.CommitFault.{CommitFault}
use Rattle.xt_host.specs.declared.outcomes.CommitFault.TheVariants as Committing
use Rattle.xt_host.specs.declared.outcomes.RollFault.{RollFault}
use Rattle.xt_host.specs.declared.outcomes.RollFault.TheVariants as Rolling
use Rattle.xt_host.specs.declared.told.LegFault.{LegFault}
use Rattle.xt_host.specs.declared.told.LegFault.TheVariants as Ending
use Rattle.xt_host.specs.declared.outcomes.Forced.{Forced}
use Rattle.xt_host.specs.declared.outcomes.Forced.TheVariants as Forcing
use Rattle.xt_host.specs.declared.outcomes.Relse.{Relse}
use Rattle.xt_host.specs.declared.outcomes.Relse.TheVariants as Releasing
use Rattle.xt_host.specs.declared.tokens.Trans.{Trans}

-- a request to a mount was told this: one receipt more, in which a device answered only if the request is a read; or memory was refused, and the seat is as it was
pub record Served (at : MountRef) (request : Request) (reply : Reply) (old new : HostSeatView) : Type 0 where
  pub refused : is_no_memory reply ≡ true → IsSameSeat old new
  pub received : is_no_memory reply ≡ false → (answer : Answer) × (is_read request ≡ false → answer ≡ Answer.None) × Receives at.slot (Call at.slot at.life request answer) reply old new

-- the reply of a lock that was given back
abbrev pub released : Relse → Reply
released Releasing.Kept = Reply.Kept
released Releasing.Free = Reply.Free

-- the reply of a force
abbrev pub forced : Forced → Reply
forced Forcing.Done = Reply.Done
forced (Forcing.Wait number) = Reply.Wait number

-- a leg of a mount was not committed, by the reply that was told: refused with another error than EIO, or given up
abbrev pub IsNotEnded : MountRef → Reply → LegFault → Type 0
IsNotEnded at reply (Ending.Refused errno) = (errno ≢ Io) × (reply ≡ Refused errno)
IsNotEnded at reply (Ending.Aborted held) = (held.at ≡ at) × (reply ≡ io_of (held_of held.blocks))

-- a commit was not done: the transaction is open and comes back, or its leg was given up with EIO, which ended it, and these blocks stay held
abbrev pub NotCommitted : Trans → HostSeatView → HostSeatView → CommitFault → Type 0
NotCommitted trans old new (Committing.Back back errno) = (back ≡ trans) × (errno ≢ Io) × Served trans.at (Commit trans.number) (Refused errno) old new
NotCommitted trans old new (Committing.Aborted held) = (held.at ≡ trans.at) × Served trans.at (Commit trans.number) (io_of (held_of held.blocks)) old new

-- a roll was not done: nothing changed, or the leg was given up with EIO, and these blocks stay held; the transaction is open and comes back in either case
abbrev pub NotRolled : Trans → HostSeatView → HostSeatView → RollFault → Type 0
NotRolled trans old new (Rolling.Back back errno) = (back ≡ trans) × (errno ≢ Io) × Served trans.at (Roll trans.number) (Refused errno) old new
NotRolled trans old new (Rolling.Aborted back held) = (back ≡ trans) × (held.at ≡ trans.at) × Served trans.at (Roll trans.number) (io_of (held_of held.blocks)) old new
