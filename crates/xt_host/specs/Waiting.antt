-- Requests that are tried until their reply is not one that asks to try again.
use Rattle.std.specs.Prelude.{All, List, false, true, ◌++◌, ◌≡◌, ◌≢◌}
use Rattle.xt_base.specs.Calls.{held_of, io_of}
use Rattle.xt_base.specs.Replies.{is_read}
use Rattle.xt_base.specs.declared.steps.Answer.{Answer}
use Rattle.xt_base.specs.declared.steps.Errno.TheVariants.{Io}
use Rattle.xt_base.specs.declared.steps.Reply.{Reply}
use Rattle.xt_base.specs.declared.steps.Reply.TheVariants.{Refused}
use Rattle.xt_base.specs.declared.steps.Request.{Request}
use Rattle.xt_base.specs.declared.steps.Request.TheVariants as ARequest
use Rattle.xt_base.specs.declared.steps.Step.TheVariants.{Call}
use Rattle.xt_cell.specs.HostSeats.{HostSeatView}
use Rattle.xt_cell.specs.declared.mount_ref.MountRef.{MountRef}
use Rattle.xt_cell.specs.declared.records.Receipt.{Receipt}
use Rattle.xt_receipts.specs.Again.{is_again}
use Rattle.xt_host.specs.Tokens.{Served}
use Rattle.xt_host.specs.Work.{counted_each}
use Rattle.xt_host.specs.declared.attempt.Attempt.{Attempt}
use Rattle.xt_host.specs.declared.attempt.Attempt.TheVariants as Try
use Rattle.xt_host.specs.declared.outcomes.RollFault.{RollFault}
use Rattle.xt_host.specs.declared.outcomes.RollFault.TheVariants as Rolling
use Rattle.xt_host.specs.declared.tokens.Trans.{Trans}

-- the request of a try
abbrev pub request_of : Attempt → Request
request_of (Try.Alloc unit count perm) = ARequest.Alloc unit count perm
request_of (Try.Get trans block) = ARequest.Get trans block
request_of (Try.Read trans block) = ARequest.Read trans block
request_of (Try.Roll trans) = ARequest.Roll trans
request_of (Try.ForceTo number) = ARequest.ForceTo number

-- a receipt is of this request to this mount, with a reply that asks to try again; a device answered only if the request is a read
abbrev pub IsTryOf : MountRef → Request → Receipt → Type 0
IsTryOf at request r = (r.slot ≡ at.slot) × (is_again r.reply ≡ true) × ((answer : Answer) × (is_read request ≡ false → answer ≡ Answer.None) × (r.step ≡ Call at.slot at.life request answer))

-- a request was tried some times, perhaps none, and each time asked to try again: each try is one receipt more and one event more counted of its slot, and nothing else is; no seat was split off, and the rank stays
pub record Tried (at : MountRef) (request : Request) (old new : HostSeatView) : Type 0 where
  pub tries : List Receipt
  pub told : All (IsTryOf at request) tries
  pub receipts : new.receipts ≡ old.receipts ++ tries
  pub counts : new.counts ≡ counted_each tries old.counts
  pub caller : new.caller ≡ old.caller
  pub splits : new.board.splits ≡ old.board.splits
  pub rank : new.board.rank ≡ old.board.rank

-- a request was tried until it was told this, which does not ask to try again
pub record AtLast (at : MountRef) (request : Request) (reply : Reply) (old new : HostSeatView) : Type 0 where
  pub before : HostSeatView
  pub tried : Tried at request old before
  pub served : Served at request reply before new
  pub settled : is_again reply ≡ false

-- a roll was not done at last: nothing changed, or the leg was given up with EIO, and these blocks stay held; the transaction is open and comes back in either case
abbrev pub NotRolledAtLast : Trans → HostSeatView → HostSeatView → RollFault → Type 0
NotRolledAtLast trans old new (Rolling.Back back errno) = (back ≡ trans) × (errno ≢ Io) × AtLast trans.at (ARequest.Roll trans.number) (Refused errno) old new
NotRolledAtLast trans old new (Rolling.Aborted back held) = (back ≡ trans) × (held.at ≡ trans.at) × AtLast trans.at (ARequest.Roll trans.number) (io_of (held_of held.blocks)) old new
