-- What becomes of a mount that a caller opens, calls and closes.
use Rattle.std.specs.Prelude.{List, [], None, Option, Some, if◌then◌else◌, is_some, not, pos, true, unwrap_or, Bool, ℕ, ℤ, ◌&&◌, ◌+◌, ◌==◌, ◌||◌, ◌∷◌, ◌≡◌, ◌⊎◌}
use Rattle.xt_base.specs.Alone.{mount_after, may_want_memory}
use Rattle.xt_base.specs.Calls.{Outcome, alone_with, asks, first_of, gives}
use Rattle.xt_base.specs.Form.{form_of}
use Rattle.xt_base.specs.Order.{has_size, is_answer, is_there}
use Rattle.xt_base.specs.State.{State, mount_of}
use Rattle.xt_base.specs.declared.steps.Answer.{Answer}
use Rattle.xt_base.specs.declared.steps.Errno.{Errno}
use Rattle.xt_base.specs.declared.steps.Errno.TheVariants.{Busy, Invalid, NoDevice, NoMemory}
use Rattle.xt_base.specs.declared.steps.Reason.{Reason}
use Rattle.xt_base.specs.declared.steps.Reason.TheVariants.{CorruptIncore, ForceUmount, LogIoError, MetaIoError}
use Rattle.xt_base.specs.declared.steps.Reply.TheVariants.{Refused}
use Rattle.xt_base.specs.declared.steps.Request.{Request}
use Rattle.xt_base.specs.declared.steps.Request.TheVariants.{View}
use Rattle.xt_c.specs.Replies.{Shows, room_after}
use Rattle.xt_c.specs.Status.{refusal, status_of}
use Rattle.xt_c.specs.declared.words.ReplyWords.{ReplyWords}
use Rattle.xt_c.specs.declared.words.RequestWords.{RequestWords}
use Rattle.xt_mount.specs.Come.{new_refusals, read_block, spent_log}

-- ---- open
-- what refuses an open: the handle holds a mount already, a size out of its range, a last life that is the greatest
abbrev pub open_refusal : ℕ → ℕ → ℕ → Option ℕ → Option State → Option Errno
open_refusal last log_bytes blocks size old = first_of ((is_some old, Busy) ∷ new_refusals last log_bytes blocks size)

-- refused, and nothing is changed; else 0, and the handle holds this mount
abbrev pub IsMade : Option Errno → State → ℤ → Option State → Option State → Type 0
IsMade (Some e) made status new old = (status ≡ refusal e) × (new ≡ old)
IsMade None made status new old = (status ≡ pos 0) × (new ≡ Some made)

-- an open: a new mount of the life after the last, with blocks of a size where one is said; or, where nothing refuses it, ENOMEM, and nothing is changed
abbrev pub IsOpened : ℕ → ℕ → ℕ → Option ℕ → ℤ → Option State → Option State → Type 0
IsOpened last log_bytes blocks size status new old =
    IsMade (open_refusal last log_bytes blocks size old) (mount_of 0 (last + 1) log_bytes blocks (form_of size)) status new old
    ⊎ ((open_refusal last log_bytes blocks size old ≡ None) × (status ≡ refusal NoMemory) × (new ≡ old))

-- ---- a call
-- what a call comes to before it is served: it is barred, the home device is to be asked for a block, or it is served with this answer
pub data Verdict : Type 0 where
  Barred : Errno → Verdict
  Asks : ℕ → Verdict
  Serves : Request → Answer → Verdict

-- whether the caller's room is as long as the content that a view gives of a block of this size
abbrev pub has_room : ℕ → ℕ → Request → Bool
has_room size room (View trans block) = room == size
has_room size room other = true

-- served where an answer is there exactly if the device is asked, a content of the mount's size; another answer is barred
abbrev pub judged : ℕ → State → Request → Answer → Verdict
judged room m request answer =
    if not (has_room m.form.size room request) then Barred Invalid
    else (if is_there (asks request m) answer && has_size answer (Some m) then Serves request answer
    else (if is_answer answer then Barred Invalid else Asks (unwrap_or (read_block request) 0)))

-- what a request and an answer come to, as far as the words spell them
abbrev pub spelled : ℕ → State → Option Request → Option Answer → Verdict
spelled room m None answer = Barred Invalid
spelled room m (Some request) None = Barred Invalid
spelled room m (Some request) (Some answer) = judged room m request answer

-- the same of a handle, which may hold no mount
abbrev pub verdict : ℕ → Option State → Option Request → Option Answer → Verdict
verdict room None request answer = Barred NoDevice
verdict room (Some m) request answer = spelled room m request answer

-- what a caller sees: the reply's words, his room, and the mount that the handle holds
pub record Seen : Type 0 where
  pub reply : ReplyWords
  pub room : List ℕ
  pub mount : Option State

-- these, side by side
abbrev pub seen : ReplyWords → List ℕ → Option State → Seen
seen reply room mount = record { reply = reply; room = room; mount = mount }

-- the same with a mount that may be gone
abbrev pub seen_after : ReplyWords → List ℕ → Bool → State → Seen
seen_after reply room gone m = seen reply room (if gone then None else Some m)

-- the reply is told, and the mount is what the request left of it: after an unmount that was answered ok, none
pub record Leaves (request : Request) (o : Outcome) (returned : ℤ) (new old : Seen) : Type 0 where
  pub status : returned ≡ status_of o.reply
  pub reply : Shows o.reply new.reply
  pub room : new.room ≡ room_after o.reply old.room
  pub mount : new.mount ≡ mount_after request o

-- the step that the definitions give; or ENOMEM, where its reply may want memory, and the mount is as it was. Where there is no mount nothing is served
abbrev pub IsServed : Request → Answer → ℤ → Seen → Seen → Option State → Type 0
IsServed request answer status new old None = ⊥
IsServed request answer status new old (Some m) =
    Leaves request (alone_with [] request answer m) status new old
    ⊎ ((may_want_memory request (alone_with [] request answer m).reply ≡ true) × Leaves request (gives (Refused NoMemory) m) status new old)

-- barred: nothing is changed. Asked: 1, and the block is the reply's number
abbrev pub IsAsJudged : Verdict → ℤ → Seen → Seen → Type 0
IsAsJudged (Barred e) status new old = (status ≡ refusal e) × (new ≡ old)
IsAsJudged (Asks block) status new old = (status ≡ pos 1) × (new ≡ record old { reply = record old.reply { number = block } })
IsAsJudged (Serves request answer) status new old = IsServed request answer status new old old.mount

-- whether words carry bytes or a content, which are copied before the call is judged
abbrev pub carries : RequestWords → ℕ → Bool
carries words answered = (words.word == 4) || (answered == 1)

-- a call: as judged; or ENOMEM before it was, where its words carry bytes, and nothing is changed
abbrev pub IsCalled : Bool → Verdict → ℤ → Seen → Seen → Type 0
IsCalled carried v status new old = IsAsJudged v status new old ⊎ ((carried ≡ true) × (status ≡ refusal NoMemory) × (new ≡ old))

-- ---- shut
-- the number of a reason, from 1
abbrev pub reason_number : Reason → ℕ
reason_number MetaIoError = 1
reason_number LogIoError = 2
reason_number ForceUmount = 3
reason_number CorruptIncore = 4

-- 0 of a live mount, else why it is shut
abbrev pub reason_status : Option Reason → ℤ
reason_status None = pos 0
reason_status (Some reason) = pos (reason_number reason)

-- the same of a handle
abbrev pub shut_status : Option State → ℤ
shut_status None = refusal NoDevice
shut_status (Some m) = reason_status m.shut

-- ---- log needed
-- 0 where no text on the log is of use any more, else 1
abbrev pub spent_status : Option ℕ → ℤ
spent_status (Some log_bytes) = pos 0
spent_status None = pos 1

-- the same of a handle: by `spent_log` 0 is just that of a live mount with no checkpoint in flight and with no block that waits to be written home
abbrev pub needed_status : Option State → ℤ
needed_status None = refusal NoDevice
needed_status (Some m) = spent_status (spent_log m)
