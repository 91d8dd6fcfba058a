-- What becomes of a mount whose jobs a caller does.
use Rattle.std.specs.List.{list_all}
use Rattle.std.specs.Prelude.{Bool, List, MatchBool, None, Option, Some, [], bit_and, drop, false, flat_map, fold, if◌then◌else◌, length, nat_le, nat_lt, not, pos, slice_get, take, true, unwrap_or, ℕ, ℤ, ◌&&◌, ◌*◌, ◌++◌, ◌+◌, ◌/◌, ◌==◌, ◌∷◌, ◌≡◌, ◌⊎◌}
use Rattle.xt_base.specs.Calls.{Outcome, gives}
use Rattle.xt_base.specs.Jobs.{begin, end, flight_pieces, flush, flush_plan, is_begun, is_waiting, posted}
use Rattle.xt_base.specs.Maps.{at}
use Rattle.xt_base.specs.State.{State}
use Rattle.xt_base.specs.declared.names.JobKind.{JobKind}
use Rattle.xt_base.specs.declared.names.JobKind.TheVariants.{Ckpt, Flush}
use Rattle.xt_base.specs.declared.names.JobName.{JobName}
use Rattle.xt_base.specs.declared.steps.Errno.TheVariants.{Invalid, Io, NoDevice, NoMemory}
use Rattle.xt_base.specs.declared.steps.HomeAnswers.{HomeAnswers}
use Rattle.xt_base.specs.declared.steps.LogAnswers.{LogAnswers}
use Rattle.xt_base.specs.declared.steps.Reply.{Reply}
use Rattle.xt_base.specs.declared.steps.Reply.TheVariants.{Flushed, Refused}
use Rattle.xt_c.specs.Replies.{Shows, StandsIn}
use Rattle.xt_c.specs.Status.{refusal, status_of}
use Rattle.xt_c.specs.declared.words.PlanWords.{PlanWords}
use Rattle.xt_c.specs.declared.words.ReplyWords.{ReplyWords}
use Rattle.xt_mount.specs.Come.{owed_name}

-- ---- jobs
-- the kind of a job: 0 a checkpoint, 1 a flush
abbrev pub kind_of : ℕ → Option JobKind
kind_of word = if word == 0 then Some Ckpt else (if word == 1 then Some Flush else None)

-- the name of a mount's job
abbrev pub name_in : JobKind → ℕ → State → JobName
name_in kind serial m = record { slot = m.slot; life = m.life; kind = kind; serial = serial }

-- what a caller sees of a job step: the reply's words, and the mount that the handle holds
pub record Worked : Type 0 where
  pub reply : ReplyWords
  pub mount : Option State

-- these, side by side
abbrev pub worked : ReplyWords → Option State → Worked
worked reply mount = record { reply = reply; mount = mount }

-- the reply is told, and the mount goes on
pub record Goes (o : Outcome) (returned : ℤ) (new : Worked) : Type 0 where
  pub status : returned ≡ status_of o.reply
  pub reply : Shows o.reply new.reply
  pub mount : new.mount ≡ Some o.state

-- no job but a begin wants memory
abbrev pub wants_none : Reply → Bool
wants_none r = false

-- a step that may come: what the definitions give; or ENOMEM, where its reply may want memory, and the mount is as it was
abbrev pub IsStep : (Reply → Bool) → State → Option Outcome → ℤ → Worked → Worked → Type 0
IsStep wants m None status new old = (status ≡ refusal Invalid) × (new ≡ old)
IsStep wants m (Some o) status new old = Goes o status new ⊎ ((wants o.reply ≡ true) × Goes (gives (Refused NoMemory) m) status new)

-- the same of a handle; one that holds no mount is refused
abbrev pub IsWorked : (Reply → Bool) → (State → Option Outcome) → Option State → ℤ → Worked → Worked → Type 0
IsWorked wants step None status new old = (status ≡ refusal NoDevice) × (new ≡ old)
IsWorked wants step (Some m) status new old = IsStep wants m (step m) status new old

-- ---- take
-- a job is owed: 1, its serial, and it is posted. None is: 0, and nothing is changed
abbrev pub IsPosted : JobKind → Option JobName → State → ℤ → ℕ → ℕ → Option State → Type 0
IsPosted kind None m status new_serial old_serial new = (status ≡ pos 0) × (new_serial ≡ old_serial) × (new ≡ Some m)
IsPosted kind (Some name) m status new_serial old_serial new = (status ≡ pos 1) × (new_serial ≡ name.serial) × (new ≡ Some (posted kind m))

-- the same of a kind that is one, and of a handle that holds a mount
abbrev pub IsTaken : Option JobKind → ℤ → ℕ → ℕ → Option State → Option State → Type 0
IsTaken kind status new_serial old_serial new None = (status ≡ refusal NoDevice) × (new_serial ≡ old_serial) × (new ≡ None)
IsTaken None status new_serial old_serial new (Some m) = (status ≡ refusal Invalid) × (new_serial ≡ old_serial) × (new ≡ Some m)
IsTaken (Some kind) status new_serial old_serial new (Some m) = IsPosted kind (owed_name kind m) m status new_serial old_serial new

-- ---- checkpoints
-- the begin of a checkpoint that waits
abbrev pub begin_of : ℕ → State → Option Outcome
begin_of serial m = if is_waiting (name_in Ckpt serial m) m then Some (begin m) else None

-- what the log answered: how many pieces it took, and where these are all, whether its sync was good; none where they are more
abbrev pub log_answers : ℕ → ℕ → ℕ → Option LogAnswers
log_answers taken synced pieces =
    if taken == pieces then Some (record { taken = taken; sync = Some (not (synced == 0)) })
    else (if nat_lt taken pieces then Some (record { taken = taken; sync = None }) else None)

-- the end by these answers
abbrev pub end_by : State → Option LogAnswers → Option Outcome
end_by m None = None
end_by m (Some answers) = Some (end [] answers m)

-- the end of a checkpoint that is begun
abbrev pub end_of : ℕ → ℕ → ℕ → State → Option Outcome
end_of serial taken synced m =
    if is_begun (name_in Ckpt serial m) m then end_by m (log_answers taken synced (length (flight_pieces m.items.flight))) else None

-- a piece that is there and fits goes to the front of the room: its length; else nothing is written
abbrev pub IsPiece : Option (List ℕ) → ℤ → List ℕ → List ℕ → Type 0
IsPiece None status new old = (status ≡ refusal Invalid) × (new ≡ old)
IsPiece (Some piece) status new old =
    MatchBool (nat_le (length piece) (length old)) ((status ≡ pos (length piece)) × (new ≡ piece ++ drop (length piece) old)) ((status ≡ refusal Invalid) × (new ≡ old))

-- the piece at a place of the checkpoint in flight
abbrev pub IsPieceOf : ℕ → Option State → ℤ → List ℕ → List ℕ → Type 0
IsPieceOf index None status new old = (status ≡ refusal NoDevice) × (new ≡ old)
IsPieceOf index (Some m) status new old = IsPiece (slice_get (flight_pieces m.items.flight) index) status new old

-- ---- flushes
-- the words say these blocks; the places behind them say nothing
pub record ShowsPlan (plan : List ℕ) (w : PlanWords) : Type 0 where
  pub count : w.count ≡ length plan
  pub blocks : StandsIn plan w.blocks

-- the blocks that a flush writes home now, and how many
abbrev pub IsPlanOf : Option State → ℤ → PlanWords → PlanWords → Type 0
IsPlanOf None status new old = (status ≡ refusal NoDevice) × (new ≡ old)
IsPlanOf (Some m) status new old = (status ≡ pos (length (flush_plan m))) × ShowsPlan (flush_plan m) new

-- the content of a block of the plan fills a room of the mount's size; else nothing is written
abbrev pub IsHome : Option ℕ → State → ℤ → List ℕ → List ℕ → Type 0
IsHome None m status new old = (status ≡ refusal Invalid) × (new ≡ old)
IsHome (Some block) m status new old =
    MatchBool (length old == m.form.size) ((status ≡ pos 0) × (at block m.frames.committed ≡ Some new)) ((status ≡ refusal Invalid) × (new ≡ old))

-- the block at a place of the plan
abbrev pub IsHomeOf : ℕ → Option State → ℤ → List ℕ → List ℕ → Type 0
IsHomeOf index None status new old = (status ≡ refusal NoDevice) × (new ≡ old)
IsHomeOf index (Some m) status new old = IsHome (slice_get (flush_plan m) index) m status new old

-- the committed content of a block; a block of a plan has one
abbrev pub content_in : State → ℕ → List ℕ
content_in m block = unwrap_or (at block m.frames.committed) []

-- a plan and its contents, one after another at the front of a room; where the room is too short nothing is written
abbrev pub AreHomes : List ℕ → State → ℤ → PlanWords → PlanWords → List ℕ → List ℕ → Type 0
AreHomes plan m status new_plan old_plan new old =
    MatchBool (nat_le (length plan * m.form.size) (length old))
    ((status ≡ pos (length plan)) × ShowsPlan plan new_plan × (new ≡ flat_map (content_in m) plan ++ drop (length plan * m.form.size) old))
    ((status ≡ refusal Invalid) × (new_plan ≡ old_plan) × (new ≡ old))

-- the blocks that a flush writes home now, with their contents
abbrev pub AreHomesOf : Option State → ℤ → PlanWords → PlanWords → List ℕ → List ℕ → Type 0
AreHomesOf None status new_plan old_plan new old = (status ≡ refusal NoDevice) × (new_plan ≡ old_plan) × (new ≡ old)
AreHomesOf (Some m) status new_plan old_plan new old = AreHomes (flush_plan m) m status new_plan old_plan new old

-- whether blocks all have numbers below a count
abbrev pub lie_below : ℕ → List ℕ → Bool
lie_below count blocks = list_all (λ b. nat_lt b count) blocks

-- a device with these bytes from `first` on
abbrev pub laid : ℕ → List ℕ → List ℕ → List ℕ
laid first bytes device = take first device ++ bytes ++ drop (first + length bytes) device

-- a device with the committed content of a block at the block's own place
abbrev pub with_home : State → List ℕ → ℕ → List ℕ
with_home m device block = laid (block * m.form.size) (content_in m block) device

-- a device with those of some blocks, each at its own place
abbrev pub with_homes : State → List ℕ → List ℕ → List ℕ
with_homes m blocks device = fold (with_home m) device blocks

-- a plan, and its contents in a device that lies in memory; where the device has not all of its blocks nothing is written
abbrev pub AreMappedHomes : List ℕ → State → ℤ → PlanWords → PlanWords → List ℕ → List ℕ → Type 0
AreMappedHomes plan m status new_plan old_plan new old =
    MatchBool (lie_below (length old / m.form.size) plan)
    ((status ≡ pos (length plan)) × ShowsPlan plan new_plan × (new ≡ with_homes m plan old))
    ((status ≡ refusal Invalid) × (new_plan ≡ old_plan) × (new ≡ old))

-- the blocks that a flush writes home now, with their contents at their own places
abbrev pub AreMappedHomesOf : Option State → ℤ → PlanWords → PlanWords → List ℕ → List ℕ → Type 0
AreMappedHomesOf None status new_plan old_plan new old = (status ≡ refusal NoDevice) × (new_plan ≡ old_plan) × (new ≡ old)
AreMappedHomesOf (Some m) status new_plan old_plan new old = AreMappedHomes (flush_plan m) m status new_plan old_plan new old

-- whether the bit of a number is set
abbrev pub has_bit : ℕ → ℕ → Bool
has_bit bits bit = not (bit_and bits bit == 0)

-- what the home device answered: to the write at a place k of the plan by the bit 2 to the k, and to the sync
abbrev pub home_answers : ℕ → ℕ → ℕ → HomeAnswers
home_answers count written synced = record {
  count = count;
  writes = has_bit written 1 ∷ has_bit written 2 ∷ has_bit written 4 ∷ has_bit written 8 ∷ has_bit written 16 ∷ has_bit written 32 ∷ has_bit written 64 ∷ has_bit written 128 ∷ [];
  sync = not (synced == 0);
}

-- the flush of a plan of so many blocks, where it has as many
abbrev pub flush_by : ℕ → ℕ → ℕ → List ℕ → State → Option Outcome
flush_by count written synced plan m = if count == length plan then Some (flush [] (home_answers (length plan) written synced) m) else None

-- the flush of a job that waits
abbrev pub flush_of : ℕ → ℕ → ℕ → ℕ → State → Option Outcome
flush_of serial count written synced m = if is_waiting (name_in Flush serial m) m then flush_by count written synced (flush_plan m) m else None

-- what a flush of so many blocks returns: EIO where its reply says that it did not bring all of them home, as where a write or the sync failed
abbrev pub flush_status : ℕ → Reply → ℤ
flush_status count (Flushed home) = if home == count then pos 0 else refusal Io
flush_status count other = status_of other

-- the flush took place: its reply is told, the mount goes on, and this is returned
pub record Flushes (count : ℕ) (o : Outcome) (returned : ℤ) (new : Worked) : Type 0 where
  pub status : returned ≡ flush_status count o.reply
  pub reply : Shows o.reply new.reply
  pub mount : new.mount ≡ Some o.state

-- a flush that may come
abbrev pub IsFlush : ℕ → Option Outcome → ℤ → Worked → Worked → Type 0
IsFlush count None status new old = (status ≡ refusal Invalid) × (new ≡ old)
IsFlush count (Some o) status new old = Flushes count o status new

-- the same of a handle
abbrev pub IsFlushed : ℕ → ℕ → ℕ → ℕ → Option State → ℤ → Worked → Worked → Type 0
IsFlushed serial count written synced None status new old = (status ≡ refusal NoDevice) × (new ≡ old)
IsFlushed serial count written synced (Some m) status new old = IsFlush count (flush_of serial count written synced m) status new old

-- ---- a flush straight into memory
-- the flush of a job that waits, where its blocks are all whole within a home device of so many: each write was good, and the sync
abbrev pub flush_within : ℕ → ℕ → State → Option Outcome
flush_within serial blocks m =
    if is_waiting (name_in Flush serial m) m && lie_below blocks (flush_plan m) then Some (flush [] (home_answers (length (flush_plan m)) 255 1) m) else None

-- the same of a device of so many bytes
abbrev pub flush_into : ℕ → ℕ → State → Option Outcome
flush_into serial bytes m = flush_within serial (bytes / m.form.size) m

-- a device after a flush, if there was one: with the contents of its blocks, each at its own place
abbrev pub written_by : Option Outcome → State → List ℕ → List ℕ
written_by None m device = device
written_by (Some o) m device = with_homes m (flush_plan m) device

-- the same of a handle, which may hold no mount
abbrev pub written_into : ℕ → Option State → List ℕ → List ℕ
written_into serial None device = device
written_into serial (Some m) device = written_by (flush_into serial (length device) m) m device
