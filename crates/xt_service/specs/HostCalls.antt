-- Sessions over a host that others use too: what their lines are answered, and what they give back at their end.
use Rattle.std.specs.Prelude.{List, None, Option, Some, [], false, slice_index, slice_set, true, ℕ, ◌<◌, ◌≡◌}
use Rattle.xt_base.specs.Replies.{may_get}
use Rattle.xt_base.specs.declared.steps.Errno.TheVariants.{Invalid}
use Rattle.xt_base.specs.declared.steps.Reason.{Reason}
use Rattle.xt_base.specs.declared.steps.Reply.{Reply}
use Rattle.xt_base.specs.declared.steps.Reply.TheVariants.{Okay, Refused, Seen}
use Rattle.xt_base.specs.declared.steps.Request.{Request}
use Rattle.xt_base.specs.declared.steps.Request.TheVariants.{Shutdown}
use Rattle.xt_base.specs.declared.steps.Step.{Step}
use Rattle.xt_base.specs.declared.steps.Step.TheVariants.{Call, Peek}
use Rattle.xt_cell.specs.HostSeats.{HostSeatView}
use Rattle.xt_cell.specs.declared.mount_ref.MountRef.{MountRef}
use Rattle.xt_host.specs.Tokens.{Served}
use Rattle.xt_queue.specs.Boards.{Rises}
use Rattle.xt_queue.specs.Words.{word_of}
use Rattle.xt_service.specs.Holding.{held_after, holds, next_back, trans_after}
use Rattle.xt_service.specs.declared.names.Name.{Name}

-- a session: its seat at the host, and the names of its open transactions and of its held buffers, ascending
pub record SessionView : Type 0 where
  pub seat : HostSeatView
  pub trans : List Name
  pub held : List Name

-- a seat that forgot its receipts
abbrev pub forgotten : HostSeatView → HostSeatView
forgotten s = record { caller = s.caller; counts = s.counts; receipts = []; board = s.board; room = s.room }

-- ---- the seat
-- a request to a mount was told this by one call of the host: earlier receipts are forgotten, and the seat counted one event more of that slot, with the
-- receipt of the request and the reply; or memory was refused, and the counts stand. The reply is one that the request may get, and what the seat saw of
-- the board did not go down; a shutdown that is told ok was seen
pub record IsTold (at : MountRef) (request : Request) (reply : Reply) (old new : HostSeatView) : Type 0 where
  pub served : Served at request reply (forgotten old) new
  pub kind : may_get request reply ≡ true
  pub rises : Rises old.board.seen new.board.seen
  pub board : new.board.board ≡ old.board.board
  pub shut : request ≡ Shutdown → reply ≡ Okay → word_of at.life None < slice_index new.board.seen at.slot

-- what a seat sees of a slot was told; its counts and its receipts stand, no seat was split off it, and its rank stays
pub record IsShown (slot : ℕ) (reply : Reply) (old new : HostSeatView) : Type 0 where
  pub life : ℕ
  pub reason : Option Reason
  pub told : reply ≡ Seen life reason
  pub seen : new.board.seen ≡ slice_set old.board.seen slot (word_of life reason)
  pub rises : Rises old.board.seen new.board.seen
  pub shown : new.board.shown ≡ old.board.shown
  pub board : new.board.board ≡ old.board.board
  pub counts : new.counts ≡ old.counts
  pub receipts : new.receipts ≡ old.receipts
  pub caller : new.caller ≡ old.caller
  pub splits : new.board.splits ≡ old.board.splits
  pub rank : new.board.rank ≡ old.board.rank

-- ---- one line
-- the host was asked, and the names changed by what it told
pub record IsAsked (at : MountRef) (request : Request) (reply : Reply) (old new : SessionView) : Type 0 where
  pub told : IsTold at request reply old.seat new.seat
  pub trans : new.trans ≡ trans_after at request reply old.trans
  pub held : new.held ≡ held_after at request reply old.held

-- a request is asked of the host where the session holds what it names; where it does not the reply is EINVAL, and nothing changes
pub record IsCalled (at : MountRef) (request : Request) (reply : Reply) (old new : SessionView) : Type 0 where
  pub strange : holds at request old.trans old.held ≡ false → (reply ≡ Refused Invalid) × (new ≡ old)
  pub asked : holds at request old.trans old.held ≡ true → IsAsked at request reply old new

-- the board was looked at; what the session holds stands
pub record IsPeeked (slot : ℕ) (reply : Reply) (old new : SessionView) : Type 0 where
  pub shown : IsShown slot reply old.seat new.seat
  pub trans : new.trans ≡ old.trans
  pub held : new.held ≡ old.held

-- what a line is answered, and what it leaves
abbrev pub Answers : SessionView → Step → Reply → SessionView → Type 0
Answers old (Call slot life request answer) reply new = IsCalled (record { slot = slot; life = life }) request reply old new
Answers old (Peek slot) reply new = IsPeeked slot reply old new
Answers old other reply new = ⊥

-- ---- the end
-- a session gave back what it held, one after another: each time what comes next, so that what was answered ENOMEM is asked again
pub data GaveBack (first : SessionView) : SessionView → Type 0 where
  none : GaveBack first first
  more : (now last : SessionView) (at : MountRef) (request : Request) (reply : Reply) → GaveBack first now → next_back now.trans now.held ≡ Some (at, request) → IsAsked at request reply now last → GaveBack first last

-- the end of a session: it gave back all that it held
pub record Ends (first last : SessionView) : Type 0 where
  pub gave : GaveBack first last
  pub trans : last.trans ≡ []
  pub held : last.held ≡ []
