-- Lines read: the line of each step gives that step. Where answers are spelled, or a verb stands alone, other lines may give it too.
use Rattle.std.specs.List.{after_first, before_first}
use Rattle.std.specs.Prelude.{Bool, List, None, Option, Some, [], codes, false, if◌then◌else◌, length, nat_le, true, ℕ, ◌++◌, ◌==◌, ◌≡◌, ◌∷◌}
use Rattle.std.specs.Str.{bytes_eq}
use Rattle.xt_base.specs.declared.names.JobKind.{JobKind}
use Rattle.xt_base.specs.declared.names.JobKind.TheVariants.{Ckpt}
use Rattle.xt_base.specs.declared.names.JobName.{JobName}
use Rattle.xt_base.specs.declared.sizes.TheConstants.{SLOTS, WORKERS}
use Rattle.xt_base.specs.declared.steps.Answer.{Answer}
use Rattle.xt_base.specs.declared.steps.Request.{Request}
use Rattle.xt_base.specs.declared.steps.Request.TheVariants.{Alloc, Cancel, Commit, Force, ForceTo, Freeze, Get, Hold, Inval, Join, Log, Push, Read, Release, Relse, Roll, Shutdown, Stat, Thaw, Unhold, Unmount, View}
use Rattle.xt_base.specs.declared.steps.Step.{Step}
use Rattle.xt_base.specs.declared.steps.Step.TheVariants.{Begin, Call, End, Flush, Mount, Peek, Post, Show, Take}
use Rattle.xt_text.specs.declared.parse.TheConstants.{LINE_BYTES}
use Rattle.xt_text.specs.declared.words.TheConstants.{BLANK}
use Rattle.xt_text.specs.DataReading.{read_content, spelled_data}
use Rattle.xt_text.specs.HomeReading.{home_of}
use Rattle.xt_text.specs.Lines.{IsStep, line_of}
use Rattle.xt_text.specs.Reading.{below, number_of, ◌>>=◌}

-- what stands before the first separator of a text, all of it where there is none
abbrev pub before : ℕ → List ℕ → List ℕ
before separator text = before_first (λ c. c == separator) text

-- what stands behind the first separator of a text, nothing where there is none
abbrev pub behind : ℕ → List ℕ → List ℕ
behind separator text = after_first (λ c. c == separator) text

-- ---- words
-- a u32
abbrev pub u32_of : List ℕ → Option ℕ
u32_of word = below 4294967296 word

-- a number behind a letter
abbrev pub lettered : ℕ → List ℕ → Option ℕ
lettered letter [] = None
lettered letter (c ∷ cs) = if c == letter then number_of cs else None

-- what a job does
unfoldable pub kind_of : List ℕ → Option JobKind
kind_of word = if bytes_eq word (codes "ckpt") then Some Ckpt else if bytes_eq word (codes "flush") then Some JobKind.Flush else None

-- the name of a job
unfoldable pub name_of : List ℕ → Option JobName
name_of word =
    let a = behind 46 word in
    let b = behind 46 a in
    below SLOTS (before 46 word) >>= λ slot.
    u32_of (before 46 a) >>= λ life.
    kind_of (before 46 b) >>= λ kind.
    number_of (behind 46 b) >>= λ serial.
    Some (record { slot = slot; life = life; kind = kind; serial = serial })

-- whether a transaction may roll
unfoldable pub perm_of : List ℕ → Option Bool
perm_of word = if bytes_eq word (codes "plain") then Some false else if bytes_eq word (codes "perm") then Some true else None

-- the answer to a sync, if there was one
unfoldable pub sync_of : List ℕ → Option (Option Bool)
sync_of word =
    if bytes_eq word (codes "ok") then Some (Some true)
    else if bytes_eq word (codes "fail") then Some (Some false)
    else if bytes_eq word (codes "none") then Some None
    else None

-- ---- requests, by what stands behind their verb
-- a call by a request that no device answers, if there is one
abbrev pub asks : ℕ → ℕ → Option Request → Option Step
asks slot life request = request >>= λ r. Some (Call slot life r Answer.None)

-- UNIT COUNT plain, or perm
unfoldable pub alloc_of : List ℕ → Option Request
alloc_of words =
    let a = behind BLANK words in
    u32_of (before BLANK words) >>= λ unit.
    u32_of (before BLANK a) >>= λ count.
    perm_of (behind BLANK a) >>= λ perm.
    Some (Alloc unit count perm)

-- TRANS BLOCK
unfoldable pub own_of : List ℕ → Option (ℕ × ℕ)
own_of words =
    lettered 116 (before BLANK words) >>= λ trans.
    number_of (behind BLANK words) >>= λ block.
    Some (trans, block)

-- TRANS BLOCK FIRST DATA
unfoldable pub log_of : List ℕ → Option Request
log_of words =
    let a = behind BLANK words in
    let b = behind BLANK a in
    lettered 116 (before BLANK words) >>= λ trans.
    number_of (before BLANK a) >>= λ block.
    u32_of (before BLANK b) >>= λ first.
    spelled_data (behind BLANK b) >>= λ bytes.
    Some (Log first trans block bytes)

-- BLOCK
unfoldable pub drop_of : List ℕ → Option Request
drop_of words = number_of words >>= λ block. Some (Release block)

-- a request of the mount as a whole: its verb, and what stands behind it
unfoldable pub mount_request : List ℕ → List ℕ → Option Request
mount_request verb words =
    if bytes_eq verb (codes "force") then Some Force
    else if bytes_eq verb (codes "forceto") then (lettered 99 words >>= λ number. Some (ForceTo number))
    else if bytes_eq verb (codes "push") then Some Push
    else if bytes_eq verb (codes "shutdown") then Some Shutdown
    else if bytes_eq verb (codes "freeze") then Some Freeze
    else if bytes_eq verb (codes "thaw") then Some Thaw
    else if bytes_eq verb (codes "stat") then Some Stat
    else if bytes_eq verb (codes "unmount") then Some Unmount
    else None

-- a request of a transaction, or of the mount as a whole: its verb, and what stands behind it
unfoldable pub trans_request : List ℕ → List ℕ → Option Request
trans_request verb words =
    if bytes_eq verb (codes "commit") then (lettered 116 words >>= λ trans. Some (Commit trans))
    else if bytes_eq verb (codes "roll") then (lettered 116 words >>= λ trans. Some (Roll trans))
    else if bytes_eq verb (codes "cancel") then (lettered 116 words >>= λ trans. Some (Cancel trans))
    else mount_request verb words

-- a request of a transaction's block: its verb, and what stands behind it
unfoldable pub own_request : List ℕ → List ℕ → Option Request
own_request verb words =
    if bytes_eq verb (codes "get") then (own_of words >>= λ p. Some (Get p.0 p.1))
    else if bytes_eq verb (codes "view") then (own_of words >>= λ p. Some (View p.0 p.1))
    else if bytes_eq verb (codes "hold") then (own_of words >>= λ p. Some (Hold p.0 p.1))
    else if bytes_eq verb (codes "unhold") then (own_of words >>= λ p. Some (Unhold p.0 p.1))
    else if bytes_eq verb (codes "relse") then (own_of words >>= λ p. Some (Relse p.0 p.1))
    else if bytes_eq verb (codes "join") then (own_of words >>= λ p. Some (Join p.0 p.1))
    else if bytes_eq verb (codes "inval") then (own_of words >>= λ p. Some (Inval p.0 p.1))
    else trans_request verb words

-- a request other than a read: its verb, and what stands behind it
unfoldable pub request_of : List ℕ → List ℕ → Option Request
request_of verb words =
    if bytes_eq verb (codes "alloc") then alloc_of words
    else if bytes_eq verb (codes "log") then log_of words
    else if bytes_eq verb (codes "drop") then drop_of words
    else own_request verb words

-- what stands behind a read: nothing, = DATA, or = fail
unfoldable pub answer_of : List ℕ → Option Answer
answer_of words =
    if length words == 0 then Some Answer.None
    else if bytes_eq (behind BLANK words) (codes "fail") then Some Answer.Failed
    else (read_content (behind BLANK words) >>= λ bytes. Some (Answer.Content bytes))

-- ---- steps, by what stands behind their first word
-- SLOT
unfoldable pub show_of : List ℕ → Option Step
show_of words = below SLOTS words >>= λ slot. Some (Show slot)

-- SLOT
unfoldable pub peek_of : List ℕ → Option Step
peek_of words = below SLOTS words >>= λ slot. Some (Peek slot)

-- the size of a block: nothing, or SIZE
unfoldable pub size_of : List ℕ → Option (Option ℕ)
size_of words =
    if length words == 0 then Some None
    else (u32_of words >>= λ size. Some (Some size))

-- SLOT LOG BLOCKS, and the size of a block
unfoldable pub mount_of : List ℕ → Option Step
mount_of words =
    let a = behind BLANK words in
    let b = behind BLANK a in
    below SLOTS (before BLANK words) >>= λ slot.
    u32_of (before BLANK a) >>= λ log_bytes.
    number_of (before BLANK b) >>= λ blocks.
    size_of (behind BLANK b) >>= λ size.
    Some (Mount slot log_bytes blocks size)

-- a read, by what stands behind its verb: TRANS BLOCK, and the answer
unfoldable pub read_of : ℕ → ℕ → List ℕ → Option Step
read_of slot life words =
    let a = behind BLANK words in
    lettered 116 (before BLANK words) >>= λ trans.
    number_of (before BLANK a) >>= λ block.
    answer_of (behind BLANK a) >>= λ answer.
    Some (Call slot life (Read trans block) answer)

-- a call, by its verb and what stands behind that
unfoldable pub asked_of : ℕ → ℕ → List ℕ → List ℕ → Option Step
asked_of slot life verb words =
    if bytes_eq verb (codes "read") then read_of slot life words
    else asks slot life (request_of verb words)

-- a call: SLOT.LIFE, and the request
unfoldable pub call_of : List ℕ → List ℕ → Option Step
call_of mount words =
    below SLOTS (before 46 mount) >>= λ slot.
    u32_of (behind 46 mount) >>= λ life.
    asked_of slot life (before BLANK words) (behind BLANK words)

-- NAME
unfoldable pub post_of : List ℕ → Option Step
post_of words = name_of words >>= λ name. Some (Post name)

-- WORKER NAME
unfoldable pub take_of : List ℕ → Option Step
take_of words =
    below WORKERS (before BLANK words) >>= λ worker.
    name_of (behind BLANK words) >>= λ name.
    Some (Take worker name)

-- WORKER NAME
unfoldable pub begin_of : List ℕ → Option Step
begin_of words =
    below WORKERS (before BLANK words) >>= λ worker.
    name_of (behind BLANK words) >>= λ name.
    Some (Begin worker name)

-- WORKER NAME TAKEN SYNC
unfoldable pub end_of : List ℕ → Option Step
end_of words =
    let a = behind BLANK words in
    let b = behind BLANK a in
    below WORKERS (before BLANK words) >>= λ worker.
    name_of (before BLANK a) >>= λ name.
    u32_of (before BLANK b) >>= λ taken.
    sync_of (behind BLANK b) >>= λ sync.
    Some (End worker name (record { taken = taken; sync = sync }))

-- WORKER NAME, and the answers
unfoldable pub flush_of : List ℕ → Option Step
flush_of words =
    let a = behind BLANK words in
    below WORKERS (before BLANK words) >>= λ worker.
    name_of (before BLANK a) >>= λ name.
    home_of (behind BLANK a) >>= λ answers.
    Some (Flush worker name answers)

-- a step: its first word, and what stands behind it
unfoldable pub words_step : List ℕ → List ℕ → Option Step
words_step word words =
    if bytes_eq word (codes "mount") then mount_of words
    else if bytes_eq word (codes "post") then post_of words
    else if bytes_eq word (codes "take") then take_of words
    else if bytes_eq word (codes "begin") then begin_of words
    else if bytes_eq word (codes "end") then end_of words
    else if bytes_eq word (codes "flush") then flush_of words
    else if bytes_eq word (codes "show") then show_of words
    else if bytes_eq word (codes "peek") then peek_of words
    else call_of word words

-- what a line gives
unfoldable pub step_of : List ℕ → Option Step
step_of line = words_step (before BLANK line) (behind BLANK line)

-- ---- parsing
-- whether no line but its own gives a request: not a read, behind which an answer stands, nor a verb that stands alone
abbrev pub is_strict_request : Request → Bool
is_strict_request (Read trans block) = false
is_strict_request Force = false
is_strict_request Push = false
is_strict_request Shutdown = false
is_strict_request Freeze = false
is_strict_request Thaw = false
is_strict_request Stat = false
is_strict_request Unmount = false
is_strict_request other = true

-- whether no line but its own gives a step: not where answers are spelled, nor where a size may stand
abbrev pub is_strict : Step → Bool
is_strict (Mount slot log_bytes blocks size) = false
is_strict (Call slot life request answer) = is_strict_request request
is_strict (Flush worker name answers) = false
is_strict other = true

-- the step that a line is parsed as: the one that it gives, if this is that step's own line, and not too long
unfoldable pub parsed : List ℕ → Option Step
parsed line = if nat_le (length line) LINE_BYTES then (step_of line >>= λ step. if bytes_eq line (line_of step) then Some step else None) else None

-- a line was read, and the step that it is parsed as was put behind others
pub record IsReadBehind (line : List ℕ) (new old : List Step) : Type 0 where
  pub step : Step
  pub read : parsed line ≡ Some step
  pub valid : IsStep step
  pub own : line ≡ line_of step
  pub behind : new ≡ old ++ step ∷ []
