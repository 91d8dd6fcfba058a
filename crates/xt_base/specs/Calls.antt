-- The calls of a mount: for each request its refusals in their order, and what it does.
use Rattle.std.specs.List.{list_any}
use Rattle.std.specs.Prelude.{Bool, List, None, Option, Some, [], drop, false, if◌then◌else◌, is_none, is_some, length, nat_le, nat_lt, not, take, true, unwrap_or, ℕ, ◌&&◌, ◌*◌, ◌++◌, ◌+◌, ◌-◌, ◌==◌, ◌||◌, ◌∷◌}
use Rattle.xt_base.specs.Chunks.{marks, union}
use Rattle.xt_base.specs.Legs.{aborted, change_of, clean_leg, ended, is_dirty, is_stale, own_count}
use Rattle.xt_base.specs.Maps.{at, has, is_in, put, set_at, with_member, without, without_member}
use Rattle.xt_base.specs.Settle.{Dropped, settled}
use Rattle.xt_base.specs.Space.{busy_count, charge, greatest, is_busy, used}
use Rattle.xt_base.specs.Stat.{stat_of}
use Rattle.xt_base.specs.State.{Flight, Frames, Leg, State, Transaction}
use Rattle.xt_base.specs.Text.{content_at, zeros}
use Rattle.xt_base.specs.declared.sizes.TheConstants.{BUSY_BLOCKS, GRANTED_LEGS, OPEN_TRANSACTIONS}
use Rattle.xt_base.specs.declared.steps.Answer.{Answer}
use Rattle.xt_base.specs.declared.steps.Errno.{Errno}
use Rattle.xt_base.specs.declared.steps.Errno.TheVariants.{Again, Busy, Invalid, Io, NoBufs, NoSpace}
use Rattle.xt_base.specs.declared.steps.Owner.{Owner}
use Rattle.xt_base.specs.declared.steps.Owner.TheVariants.{Held, Trans}
use Rattle.xt_base.specs.declared.steps.Reason.{Reason}
use Rattle.xt_base.specs.declared.steps.Reason.TheVariants.{CorruptIncore, ForceUmount, MetaIoError}
use Rattle.xt_base.specs.declared.steps.Reply.{Reply}
use Rattle.xt_base.specs.declared.steps.Reply.TheVariants.{Aborted, Committed, CommittedHeld, Done, Free, Kept, Okay, OkayHeld, Refused, Wait}
use Rattle.xt_base.specs.declared.steps.Request.{Request}

-- what a call or job answers and leaves
pub record Outcome : Type 0 where
  pub reply : Reply
  pub state : State

-- a reply and a state
abbrev pub gives : Reply → State → Outcome
gives r s = record { reply = r; state = s }

-- the first refusal that holds
abbrev pub first_of : List (Bool × Errno) → Option Errno
first_of [] = None
first_of (r ∷ rs) = if r.0 then Some r.1 else first_of rs

-- refused and unchanged, or else what is done
abbrev pub unless : Option Errno → State → Outcome → Outcome
unless None s o = o
unless (Some e) s o = gives (Refused e) s

-- what needs an open transaction
abbrev pub with_trans : Option Transaction → State → (Transaction → Outcome) → Outcome
with_trans None s f = gives (Refused Invalid) s
with_trans (Some trans) s f = f trans

-- ---- what a request sees of a block
-- whether the transaction has a block
abbrev pub is_own : State → ℕ → ℕ → Bool
is_own s t b = is_some (own_count t (at b s.owners))

-- whether somebody else has it
abbrev pub is_elsewhere : State → ℕ → ℕ → Bool
is_elsewhere s t b = is_in b s.owners && not (is_own s t b)

-- whether it shows zeros until it is written whole
abbrev pub is_fresh : State → ℕ → Bool
is_fresh s b = has s.frames.fresh b

-- busy and not fresh, or idle
abbrev pub is_resident : State → ℕ → Bool
is_resident s b = (is_busy s b && not (is_fresh s b)) || is_in b s.frames.idle

-- whether an owner is the hold of a leg that ended
abbrev pub is_held : Option Owner → Bool
is_held (Some Held) = true
is_held other = false

-- what a leg sees of a block that is fresh or not, and has a committed content: its edit, or zeros, or that content
abbrev pub seen_with : ℕ → ℕ → Leg → Bool → List ℕ → List ℕ
seen_with size b leg fresh committed = unwrap_or (change_of b leg).edit (if fresh || is_stale b leg then zeros size else committed)

-- what a transaction sees of a block that it owns
abbrev pub seen : ℕ → ℕ → Leg → Frames → List ℕ
seen size b leg frames = seen_with size b leg (has frames.fresh b) (content_at size b frames.committed)

-- ---- small changes of a state
-- a block with another owner
abbrev pub with_owner : ℕ → Owner → State → State
with_owner b o s = record s { owners = put b o s.owners }

-- a block with none
abbrev pub unowned : ℕ → State → State
unowned b s = record s { owners = without b s.owners }

-- a transaction with another leg
abbrev pub with_leg : ℕ → Transaction → Leg → State → State
with_leg t trans leg s = record s { transactions = set_at t (record trans { leg = leg }) s.transactions }

-- a block that is fresh no more
abbrev pub not_fresh : ℕ → State → State
not_fresh b s = record s { frames = record s.frames { fresh = without_member b s.frames.fresh } }

-- the transaction is gone, and its grant with it
abbrev pub closed : ℕ → State → State
closed t s = record s { transactions = without t s.transactions }

-- the first reason is kept
abbrev pub shut_for : Reason → Option Reason → Option Reason
shut_for reason None = Some reason
shut_for reason (Some first) = Some first

-- shut, for this reason if it was live
abbrev pub shut_down : Reason → State → State
shut_down reason s = record s { shut = shut_for reason s.shut }

-- shut where this holds
abbrev pub shut_if : Bool → Reason → State → State
shut_if dirty reason s = if dirty then shut_down reason s else s

-- asks a checkpoint, if there is something to write
abbrev pub asks_ckpt : State → State
asks_ckpt s = record s { jobs = record s.jobs { asked_ckpt = s.jobs.asked_ckpt || not (length s.items.cil == 0) } }

-- asks a flush
abbrev pub asks_flush : State → State
asks_flush s = record s { jobs = record s.jobs { asked_flush = true } }

-- ---- alloc
-- what refuses an alloc before the space does
abbrev pub alloc_refusals : ℕ → ℕ → Bool → State → List (Bool × Errno)
alloc_refusals unit count perm s =
    ((unit == 0) || (count == 0) || nat_lt GRANTED_LEGS count || (nat_lt 1 count && not perm) || nat_lt s.log_bytes (unit * count), Invalid)
    ∷ (is_some s.shut, Io)
    ∷ (s.frozen, Again)
    ∷ (s.last_trans == greatest, NoSpace)
    ∷ (nat_le OPEN_TRANSACTIONS (length s.transactions), Again)
    ∷ []

-- a clean transaction
abbrev pub new_trans : ℕ → ℕ → Bool → Transaction
new_trans unit count perm = record { unit = unit; legs = count; perm = perm; leg = clean_leg }

-- the next number, and its transaction
abbrev pub allocated : ℕ → ℕ → Bool → State → Outcome
allocated unit count perm s =
    gives (Reply.Trans (s.last_trans + 1)) (record s { last_trans = s.last_trans + 1; transactions = put (s.last_trans + 1) (new_trans unit count perm) s.transactions })

-- where no space is left, a checkpoint and a flush are asked
abbrev pub alloc : ℕ → ℕ → Bool → State → Outcome
alloc unit count perm s =
    unless (first_of (alloc_refusals unit count perm s)) s
    (if nat_lt s.log_bytes (used s + unit * count) then gives (Refused Again) (asks_flush (asks_ckpt s)) else allocated unit count perm s)

-- ---- get and read
-- whether a recursion count is at its end
abbrev pub at_end : Option ℕ → Bool
at_end None = false
at_end (Some count) = count == 4294967295

-- what refuses a get
abbrev pub get_refusals : ℕ → ℕ → State → List (Bool × Errno)
get_refusals t b s =
    (nat_le s.blocks b, Invalid)
    ∷ (is_some s.shut, Io)
    ∷ (at_end (own_count t (at b s.owners)), Invalid)
    ∷ (is_elsewhere s t b, Again)
    ∷ (not (is_busy s b) && nat_le BUSY_BLOCKS (busy_count s), NoBufs)
    ∷ []

-- what refuses a read before its device is asked
abbrev pub read_refusals : ℕ → ℕ → Leg → State → List (Bool × Errno)
read_refusals t b leg s =
    (nat_le s.blocks b, Invalid)
    ∷ (is_some s.shut, Io)
    ∷ (at_end (own_count t (at b s.owners)) || (is_own s t b && (is_fresh s b || is_stale b leg)), Invalid)
    ∷ (is_elsewhere s t b, Again)
    ∷ (not (is_busy s b) && nat_le BUSY_BLOCKS (busy_count s), NoBufs)
    ∷ []

-- a block with a content becomes busy, and is idle no more
abbrev pub busied : ℕ → List ℕ → State → State
busied b content s = record s { frames = record s.frames { committed = put b content s.frames.committed; idle = without b s.frames.idle } }

-- a block that is not resident, locked unread
abbrev pub made_fresh : ℕ → State → State
made_fresh b s = record s { frames = record s.frames { fresh = with_member b s.frames.fresh } }

-- an idle block keeps its content, and one that is not resident is fresh
abbrev pub brought : ℕ → Option (List ℕ) → State → State
brought b (Some content) s = busied b content s
brought b None s = made_fresh b s

-- one lock more, or a first one
abbrev pub locked : ℕ → ℕ → Option ℕ → State → State
locked t b (Some count) s = with_owner b (Trans t (count + 1)) s
locked t b None s = with_owner b (Trans t 0) (if is_busy s b then s else brought b (at b s.frames.idle) s)

-- locks a block, unread
abbrev pub get : ℕ → ℕ → State → Outcome
get t b s = unless (first_of (get_refusals t b s)) s (gives Okay (locked t b (own_count t (at b s.owners)) s))

-- whether the device is asked, where nothing refuses the read
abbrev pub is_absent : ℕ → ℕ → State → Bool
is_absent t b s = not (is_own s t b) && not (is_resident s b)

-- what the device's answer makes of a read; a failure under a dirty leg shuts the mount
abbrev pub answered : ℕ → ℕ → Leg → State → Answer → Outcome
answered t b leg s (Answer.Content content) = gives Okay (with_owner b (Trans t 0) (busied b content s))
answered t b leg s other = gives (Refused Io) (shut_if (is_dirty leg) MetaIoError s)

-- locks a block with its content
abbrev pub read : ℕ → ℕ → Answer → State → Transaction → Outcome
read t b answer s trans =
    unless (first_of (read_refusals t b trans.leg s)) s
    (if is_absent t b s then answered t b trans.leg s answer else gives Okay (locked t b (own_count t (at b s.owners)) s))

-- whether a read asks its device
abbrev pub read_asks : ℕ → ℕ → State → Option Transaction → Bool
read_asks t b s None = false
read_asks t b s (Some trans) = is_none (first_of (read_refusals t b trans.leg s)) && is_absent t b s

-- ---- view
-- what the transaction sees of its block
abbrev pub view : ℕ → ℕ → State → Transaction → Outcome
view t b s trans = if is_own s t b then gives (Reply.Data (seen s.form.size b trans.leg s.frames)) s else gives (Refused Invalid) s

-- ---- log
-- bytes written from first on
abbrev pub overwritten : ℕ → List ℕ → List ℕ → List ℕ
overwritten first bytes old = take first old ++ bytes ++ drop (first + length bytes) old

-- a leg with one more edit
abbrev pub edited : ℕ → List ℕ → List ℕ → Leg → Leg
edited b content marked leg = record leg {
  changes = put b (record {
    edit = Some content;
    marks = union (change_of b leg).marks marked;
    charged = union (change_of b leg).charged marked;
  }) leg.changes;
}

-- the leg after a log request
abbrev pub logged_leg : ℕ → ℕ → ℕ → List ℕ → Frames → Leg → Leg
logged_leg size b first bytes frames leg = edited b (overwritten first bytes (seen size b leg frames)) (marks first (length bytes)) leg

-- what refuses a log request
abbrev pub log_refusals : ℕ → ℕ → ℕ → List ℕ → Transaction → State → List (Bool × Errno)
log_refusals t b first bytes trans s =
    (not (is_own s t b), Invalid)
    ∷ ((length bytes == 0) || nat_lt s.form.size (first + length bytes), Invalid)
    ∷ ((is_fresh s b || is_stale b trans.leg) && not ((first == 0) && (length bytes == s.form.size)), Invalid)
    ∷ (nat_lt trans.unit (charge s.form.ends (edited b [] (marks first (length bytes)) trans.leg).changes), NoSpace)
    ∷ []

-- writes bytes in the leg and marks their chunks
abbrev pub log : ℕ → ℕ → ℕ → List ℕ → State → Transaction → Outcome
log t b first bytes s trans =
    unless (first_of (log_refusals t b first bytes trans s)) s
    (gives Okay (not_fresh b (with_leg t trans (logged_leg s.form.size b first bytes s.frames trans.leg) s)))

-- ---- hold, unhold, relse
-- a block that stays locked when the leg ends
abbrev pub hold : ℕ → ℕ → State → Transaction → Outcome
hold t b s trans =
    if not (is_own s t b) || is_stale b trans.leg then gives (Refused Invalid) s
    else gives Okay (with_leg t trans (record trans.leg { holds = with_member b trans.leg.holds }) s)

-- a leg without a hold mark
abbrev pub without_hold : ℕ → Leg → Leg
without_hold b leg = record leg { holds = without_member b leg.holds }

-- takes the hold mark away
abbrev pub unhold : ℕ → ℕ → State → Transaction → Outcome
unhold t b s trans =
    if not (is_own s t b) || not (has trans.leg.holds b) then gives (Refused Invalid) s
    else gives Okay (with_leg t trans (without_hold b trans.leg) s)

-- a block that was locked again loses one lock, a changed or invalidated one stays, another is free
abbrev pub released : Dropped → ℕ → ℕ → Transaction → State → Option ℕ → Outcome
released dropped t b trans s None = gives (Refused Invalid) s
released dropped t b trans s (Some count) =
    if nat_lt 0 count then gives Kept (with_owner b (Trans t (count - 1)) s)
    else (if is_in b trans.leg.changes then gives Kept s
    else gives Free (settled dropped (unowned b (with_leg t trans (without_hold b trans.leg) s))))

-- gives back one lock
abbrev pub relse : Dropped → ℕ → ℕ → State → Transaction → Outcome
relse dropped t b s trans = released dropped t b trans s (own_count t (at b s.owners))

-- ---- join and release of a held block
-- what refuses a join
abbrev pub join_refusals : ℕ → State → List (Bool × Errno)
join_refusals b s = (not (is_held (at b s.owners)), Invalid) ∷ (is_some s.shut, Io) ∷ []

-- takes a held block over
abbrev pub join : ℕ → ℕ → State → Transaction → Outcome
join t b s trans = unless (first_of (join_refusals b s)) s (gives Okay (with_owner b (Trans t 0) s))

-- gives up a held block
abbrev pub release : Dropped → ℕ → State → Outcome
release dropped b s = if is_held (at b s.owners) then gives Okay (settled dropped (unowned b s)) else gives (Refused Invalid) s

-- ---- inval
-- the leg with a block invalidated: its bytes, marks and hold mark go, and what it was charged stays
abbrev pub invalidated : ℕ → Leg → Leg
invalidated b leg = record {
  changes = put b (record { edit = None; marks = []; charged = (change_of b leg).charged }) leg.changes;
  holds = without_member b leg.holds;
}

-- what refuses an invalidation
abbrev pub inval_refusals : ℕ → ℕ → Transaction → State → List (Bool × Errno)
inval_refusals t b trans s =
    (not (is_own s t b), Invalid)
    ∷ (nat_lt trans.unit (charge s.form.ends (invalidated b trans.leg).changes), NoSpace)
    ∷ []

-- gives a block up for good
abbrev pub inval : ℕ → ℕ → State → Transaction → Outcome
inval t b s trans =
    unless (first_of (inval_refusals t b trans s)) s
    (gives Okay (if is_stale b trans.leg then s else not_fresh b (with_leg t trans (invalidated b trans.leg) s)))

-- ---- commit, roll, cancel
-- the blocks that a leg leaves held, if there are some
abbrev pub held_of : List ℕ → Option (List ℕ)
held_of [] = None
held_of (b ∷ bs) = Some (b ∷ bs)

-- ok, with the blocks that stay held
abbrev pub okay_of : Option (List ℕ) → Reply
okay_of None = Okay
okay_of (Some held) = OkayHeld held

-- EIO, with the blocks that stay held
abbrev pub io_of : Option (List ℕ) → Reply
io_of None = Refused Io
io_of (Some held) = Aborted held

-- the checkpoint of a committed leg, with the blocks that stay held
abbrev pub committed_of : ℕ → Option (List ℕ) → Reply
committed_of number None = Committed number
committed_of number (Some held) = CommittedHeld number held

-- the number that a leg's commit answers
abbrev pub commit_number : Leg → State → ℕ
commit_number leg s = if is_dirty leg then s.items.open_number else 0

-- ends the transaction; on a shut mount a dirty leg is given up
abbrev pub commit : Dropped → ℕ → State → Transaction → Outcome
commit dropped t s trans =
    if is_dirty trans.leg && is_some s.shut then gives (io_of (held_of trans.leg.holds)) (settled dropped (closed t (aborted t trans.leg s)))
    else gives (committed_of (commit_number trans.leg s) (held_of trans.leg.holds)) (settled dropped (closed t (ended t trans.leg s)))

-- the state after a roll's commit without the transaction's grant
abbrev pub ungranted : ℕ → Transaction → State → State
ungranted t trans s = closed t (ended t trans.leg s)

-- whether the last leg finds no room for one new unit
abbrev pub is_no_room : ℕ → Transaction → State → Bool
is_no_room t trans s = (trans.legs == 1) && nat_lt s.log_bytes (used (ungranted t trans s) + trans.unit)

-- a clean leg with so many legs left
abbrev pub with_legs : ℕ → ℕ → Transaction → State → State
with_legs t legs trans s = record s { transactions = set_at t (record trans { legs = legs; leg = clean_leg }) s.transactions }

-- one leg less, or one new unit
abbrev pub legs_after : ℕ → ℕ
legs_after legs = if nat_lt 1 legs then legs - 1 else 1

-- commits the leg and goes on
abbrev pub roll : Dropped → ℕ → State → Transaction → Outcome
roll dropped t s trans =
    if not trans.perm then gives (Refused Invalid) s
    else (if is_some s.shut then gives (io_of (held_of trans.leg.holds)) (settled dropped (with_legs t 0 trans (aborted t trans.leg s)))
    else (if is_no_room t trans s then gives (Refused Again) (asks_flush (asks_ckpt s))
    else gives (committed_of (commit_number trans.leg s) (held_of trans.leg.holds)) (settled dropped (with_legs t (legs_after trans.legs) trans (ended t trans.leg s)))))

-- gives the leg up and ends the transaction; a dirty one shuts the mount
abbrev pub cancel : Dropped → ℕ → State → Transaction → Outcome
cancel dropped t s trans =
    gives (okay_of (held_of trans.leg.holds)) (settled dropped (shut_if (is_dirty trans.leg) CorruptIncore (closed t (aborted t trans.leg s))))

-- ---- force, forceto, push, shutdown
-- what a force waits for where nothing is committed
abbrev pub waits_for : Option Flight → Reply
waits_for None = Done
waits_for (Some f) = Wait f.number

-- whether a checkpoint is in flight
abbrev pub is_flight : ℕ → Option Flight → Bool
is_flight number None = false
is_flight number (Some f) = f.number == number

-- waits for what was committed
abbrev pub force : State → Outcome
force s =
    if is_some s.shut then gives (Refused Io) s
    else (if length s.items.cil == 0 then gives (waits_for s.items.flight) s else gives (Wait s.items.open_number) (asks_ckpt s))

-- what refuses a force to a number
abbrev pub force_to_refusals : ℕ → State → List (Bool × Errno)
force_to_refusals number s = ((number == 0) || nat_lt s.items.open_number number, Invalid) ∷ (is_some s.shut, Io) ∷ []

-- waits for one checkpoint
abbrev pub force_to : ℕ → State → Outcome
force_to number s =
    unless (first_of (force_to_refusals number s)) s
    (if (number == s.items.open_number) && not (length s.items.cil == 0) then gives (Wait number) (asks_ckpt s)
    else (if is_flight number s.items.flight then gives (Wait number) s else gives Done s))

-- asks that blocks be written home
abbrev pub push : State → Outcome
push s = if is_some s.shut then gives (Refused Io) s else gives Okay (asks_flush s)

-- shuts a live mount
abbrev pub shutdown : State → Outcome
shutdown s = gives Okay (shut_down ForceUmount s)

-- ---- freeze, thaw
-- with the frozen mark, or without it
abbrev pub marked_frozen : Bool → State → State
marked_frozen frozen s = record s { frozen = frozen }

-- what refuses a freeze
abbrev pub freeze_refusals : State → List (Bool × Errno)
freeze_refusals s = (is_some s.shut, Io) ∷ (s.frozen, Busy) ∷ []

-- no transaction is opened from here on; those that are open go on
abbrev pub freeze : State → Outcome
freeze s = unless (first_of (freeze_refusals s)) s (gives Okay (marked_frozen true s))

-- transactions are opened again, as far as a shut mount opens any
abbrev pub thaw : State → Outcome
thaw s = if s.frozen then gives Okay (marked_frozen false s) else gives (Refused Invalid) s

-- ---- stat
-- what the mount tells, shut or not; it changes nothing
abbrev pub stat : State → Outcome
stat s = gives (Reply.Stat (stat_of s)) s

-- ---- unmount
-- whether something keeps the mount: an open transaction, a held block, an outstanding job, or, if live, a listed block
abbrev pub is_in_use : State → Bool
is_in_use s =
    not (length s.transactions == 0) || list_any (λ e. is_held (Some e.1)) s.owners || is_some s.jobs.ckpt || is_some s.jobs.flush
    || (is_none s.shut && not ((length s.items.cil == 0) && is_none s.items.flight && (length s.items.ail == 0)))

-- the slot is emptied by its owner
abbrev pub unmount : State → Outcome
unmount s = if is_in_use s then gives (Refused Busy) s else gives Okay s

-- ---- a call
-- the blocks in dropped found no memory when they settled
abbrev pub alone_with : Dropped → Request → Answer → State → Outcome
alone_with dropped (Request.Alloc unit count perm) answer s = alloc unit count perm s
alone_with dropped (Request.Get t b) answer s = with_trans (at t s.transactions) s (λ trans. get t b s)
alone_with dropped (Request.Read t b) answer s = with_trans (at t s.transactions) s (read t b answer s)
alone_with dropped (Request.View t b) answer s = with_trans (at t s.transactions) s (view t b s)
alone_with dropped (Request.Log first t b bytes) answer s = with_trans (at t s.transactions) s (log t b first bytes s)
alone_with dropped (Request.Hold t b) answer s = with_trans (at t s.transactions) s (hold t b s)
alone_with dropped (Request.Unhold t b) answer s = with_trans (at t s.transactions) s (unhold t b s)
alone_with dropped (Request.Relse t b) answer s = with_trans (at t s.transactions) s (relse dropped t b s)
alone_with dropped (Request.Join t b) answer s = with_trans (at t s.transactions) s (join t b s)
alone_with dropped (Request.Release b) answer s = release dropped b s
alone_with dropped (Request.Inval t b) answer s = with_trans (at t s.transactions) s (inval t b s)
alone_with dropped (Request.Commit t) answer s = with_trans (at t s.transactions) s (commit dropped t s)
alone_with dropped (Request.Roll t) answer s = with_trans (at t s.transactions) s (roll dropped t s)
alone_with dropped (Request.Cancel t) answer s = with_trans (at t s.transactions) s (cancel dropped t s)
alone_with dropped Request.Force answer s = force s
alone_with dropped (Request.ForceTo number) answer s = force_to number s
alone_with dropped Request.Push answer s = push s
alone_with dropped Request.Shutdown answer s = shutdown s
alone_with dropped Request.Freeze answer s = freeze s
alone_with dropped Request.Thaw answer s = thaw s
alone_with dropped Request.Stat answer s = stat s
alone_with dropped Request.Unmount answer s = unmount s

-- whether a request asks the home device
abbrev pub asks : Request → State → Bool
asks (Request.Read t b) s = read_asks t b s (at t s.transactions)
asks other s = false

-- whether a request empties the slot
abbrev pub is_unmount : Request → Bool
is_unmount Request.Unmount = true
is_unmount other = false
