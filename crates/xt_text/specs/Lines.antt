-- The lines of steps: the text of each step, and which steps have one.
use Rattle.std.specs.Fmt.{decimal}
use Rattle.std.specs.List.{flat_map}
use Rattle.std.specs.Prelude.{Bool, IfSome, List, None, Option, Some, [], codes, drop, false, if◌then◌else◌, length, replicate, true, ℕ, ◌++◌, ◌-◌, ◌<◌, ◌==◌, ◌^◌, ◌≡◌, ◌≤◌, ◌∷◌}
use Rattle.xt_base.specs.Form.{is_size}
use Rattle.xt_base.specs.Jobs.{write_answers}
use Rattle.xt_base.specs.declared.names.JobKind.{JobKind}
use Rattle.xt_base.specs.declared.names.JobKind.TheVariants.{Ckpt}
use Rattle.xt_base.specs.declared.names.JobName.{JobName}
use Rattle.xt_base.specs.declared.sizes.TheConstants.{FLUSH_BLOCKS, SLOTS, WORKERS}
use Rattle.xt_base.specs.declared.steps.Answer.{Answer}
use Rattle.xt_base.specs.declared.steps.HomeAnswers.{HomeAnswers}
use Rattle.xt_base.specs.declared.steps.Request.{Request}
use Rattle.xt_base.specs.declared.steps.Request.TheVariants.{Alloc, Cancel, Commit, Force, ForceTo, Freeze, Get, Hold, Inval, Join, Log, Push, Read, Release, Relse, Roll, Shutdown, Stat, Thaw, Unhold, Unmount, View}
use Rattle.xt_base.specs.declared.steps.Step.{Step}
use Rattle.xt_base.specs.declared.steps.Step.TheVariants.{Begin, Call, End, Flush, Mount, Peek, Post, Show, Take}
use Rattle.xt_text.specs.DataText.{IsData, spelling}
use Rattle.xt_text.specs.declared.words.TheConstants.{BLANK}

-- two words with a space between them
infixr 66 ◌␣◌
abbrev pub ◌␣◌ : List ℕ → List ℕ → List ℕ
a ␣ b = a ++ BLANK ∷ b

-- two parts of a word with a dot between them
infixr 67 ◌·◌
abbrev pub ◌·◌ : List ℕ → List ℕ → List ℕ
a · b = a ++ 46 ∷ b

-- ---- words
-- the number of a transaction
abbrev pub trans_text : ℕ → List ℕ
trans_text trans = 116 ∷ decimal trans

-- the number of a checkpoint
abbrev pub ckpt_text : ℕ → List ℕ
ckpt_text number = 99 ∷ decimal number

-- what a job does
abbrev pub kind_text : JobKind → List ℕ
kind_text Ckpt = codes "ckpt"
kind_text JobKind.Flush = codes "flush"

-- the name of a job
abbrev pub name_text : JobName → List ℕ
name_text name = decimal name.slot · decimal name.life · kind_text name.kind · decimal name.serial

-- whether a transaction may roll
abbrev pub perm_text : Bool → List ℕ
perm_text false = codes "plain"
perm_text true = codes "perm"

-- an answer of a device
abbrev pub ok_text : Bool → List ℕ
ok_text true = codes "ok"
ok_text false = codes "fail"

-- the answer to a sync, if there was one
abbrev pub sync_text : Option Bool → List ℕ
sync_text None = codes "none"
sync_text (Some ok) = ok_text ok

-- answers of a device, each with a space in front
abbrev pub oks_text : List Bool → List ℕ
oks_text oks = flat_map (λ ok. BLANK ∷ ok_text ok) oks

-- what the home device answered to a flush, behind its name: to each write, and then to the sync; nothing where it was not asked
abbrev pub home_text : HomeAnswers → List ℕ
home_text answers = if answers.count == 0 then [] else oks_text (write_answers answers) ++ BLANK ∷ ok_text answers.sync

-- ---- lines
-- the text of a request
abbrev pub request_text : Request → List ℕ
request_text (Alloc unit count perm) = codes "alloc" ␣ decimal unit ␣ decimal count ␣ perm_text perm
request_text (Get trans block) = codes "get" ␣ trans_text trans ␣ decimal block
request_text (Read trans block) = codes "read" ␣ trans_text trans ␣ decimal block
request_text (View trans block) = codes "view" ␣ trans_text trans ␣ decimal block
request_text (Log first trans block bytes) = codes "log" ␣ trans_text trans ␣ decimal block ␣ decimal first ␣ spelling bytes
request_text (Hold trans block) = codes "hold" ␣ trans_text trans ␣ decimal block
request_text (Unhold trans block) = codes "unhold" ␣ trans_text trans ␣ decimal block
request_text (Relse trans block) = codes "relse" ␣ trans_text trans ␣ decimal block
request_text (Join trans block) = codes "join" ␣ trans_text trans ␣ decimal block
request_text (Release block) = codes "drop" ␣ decimal block
request_text (Inval trans block) = codes "inval" ␣ trans_text trans ␣ decimal block
request_text (Commit trans) = codes "commit" ␣ trans_text trans
request_text (Roll trans) = codes "roll" ␣ trans_text trans
request_text (Cancel trans) = codes "cancel" ␣ trans_text trans
request_text Force = codes "force"
request_text (ForceTo number) = codes "forceto" ␣ ckpt_text number
request_text Push = codes "push"
request_text Shutdown = codes "shutdown"
request_text Freeze = codes "freeze"
request_text Thaw = codes "thaw"
request_text Stat = codes "stat"
request_text Unmount = codes "unmount"

-- what the home device answered, behind a read's text; nothing where it was not asked
abbrev pub answer_text : Answer → List ℕ
answer_text Answer.None = []
answer_text (Answer.Content bytes) = codes " = " ++ spelling bytes
answer_text Answer.Failed = codes " = fail"

-- the size of a block, behind the blocks of a mount; nothing where none is said
abbrev pub size_text : Option ℕ → List ℕ
size_text None = []
size_text (Some size) = BLANK ∷ decimal size

-- the line of a step, without its newline
abbrev pub line_of : Step → List ℕ
line_of (Mount slot log_bytes blocks size) = codes "mount" ␣ decimal slot ␣ decimal log_bytes ␣ (decimal blocks ++ size_text size)
line_of (Call slot life request answer) = (decimal slot · decimal life) ␣ (request_text request ++ answer_text answer)
line_of (Post name) = codes "post" ␣ name_text name
line_of (Take worker name) = codes "take" ␣ decimal worker ␣ name_text name
line_of (Begin worker name) = codes "begin" ␣ decimal worker ␣ name_text name
line_of (End worker name answers) = codes "end" ␣ decimal worker ␣ name_text name ␣ decimal answers.taken ␣ sync_text answers.sync
line_of (Flush worker name answers) = codes "flush" ␣ decimal worker ␣ (name_text name ++ home_text answers)
line_of (Show slot) = codes "show" ␣ decimal slot
line_of (Peek slot) = codes "peek" ␣ decimal slot

-- ---- which steps have a line of their own
-- the values of a name
abbrev pub IsName : JobName → Type 0
IsName name = (name.slot < SLOTS) × (name.life < 2 ^ 32) × (name.serial < 2 ^ 64)

-- a request with the values that its types have
abbrev pub IsRequest : Request → Type 0
IsRequest (Alloc unit count perm) = (unit < 2 ^ 32) × (count < 2 ^ 32)
IsRequest (Get trans block) = (trans < 2 ^ 64) × (block < 2 ^ 64)
IsRequest (Read trans block) = (trans < 2 ^ 64) × (block < 2 ^ 64)
IsRequest (View trans block) = (trans < 2 ^ 64) × (block < 2 ^ 64)
IsRequest (Log first trans block bytes) = (trans < 2 ^ 64) × (block < 2 ^ 64) × (first < 2 ^ 32) × IsData bytes
IsRequest (Hold trans block) = (trans < 2 ^ 64) × (block < 2 ^ 64)
IsRequest (Unhold trans block) = (trans < 2 ^ 64) × (block < 2 ^ 64)
IsRequest (Relse trans block) = (trans < 2 ^ 64) × (block < 2 ^ 64)
IsRequest (Join trans block) = (trans < 2 ^ 64) × (block < 2 ^ 64)
IsRequest (Release block) = block < 2 ^ 64
IsRequest (Inval trans block) = (trans < 2 ^ 64) × (block < 2 ^ 64)
IsRequest (Commit trans) = trans < 2 ^ 64
IsRequest (Roll trans) = trans < 2 ^ 64
IsRequest (Cancel trans) = trans < 2 ^ 64
IsRequest Force = Unit {0}
IsRequest (ForceTo number) = number < 2 ^ 64
IsRequest Push = Unit {0}
IsRequest Shutdown = Unit {0}
IsRequest Freeze = Unit {0}
IsRequest Thaw = Unit {0}
IsRequest Stat = Unit {0}
IsRequest Unmount = Unit {0}

-- the content of a block
abbrev pub IsContent : List ℕ → Type 0
IsContent bytes = IsData bytes × (is_size (Some (length bytes)) ≡ true)

-- an answer with the values that its types have
abbrev pub IsAnswer : Answer → Type 0
IsAnswer Answer.None = Unit {0}
IsAnswer (Answer.Content bytes) = IsContent bytes
IsAnswer Answer.Failed = Unit {0}

-- no device was asked
abbrev pub IsUnasked : Answer → Type 0
IsUnasked Answer.None = Unit {0}
IsUnasked other = ⊥

-- an answer that a request may have: a read any, another request none
abbrev pub IsAnswerTo : Request → Answer → Type 0
IsAnswerTo (Read trans block) answer = IsAnswer answer
IsAnswerTo other answer = IsUnasked answer

-- the answers to a flush: to at most 8 writes; what stands for no answer is false
pub record IsHomeAnswers (answers : HomeAnswers) : Type 0 where
  pub eight : length answers.writes ≡ FLUSH_BLOCKS
  pub few : answers.count ≤ FLUSH_BLOCKS
  pub unused : drop answers.count answers.writes ≡ replicate (FLUSH_BLOCKS - answers.count) false
  pub unasked : answers.count ≡ 0 → answers.sync ≡ false

-- a step that has a line of its own: an answer stands only where something was asked
abbrev pub IsStep : Step → Type 0
IsStep (Mount slot log_bytes blocks size) = (slot < SLOTS) × (log_bytes < 2 ^ 32) × (blocks < 2 ^ 64) × IfSome size (λ bytes. bytes < 2 ^ 32)
IsStep (Call slot life request answer) = (slot < SLOTS) × (life < 2 ^ 32) × IsRequest request × IsAnswerTo request answer
IsStep (Post name) = IsName name
IsStep (Take worker name) = (worker < WORKERS) × IsName name
IsStep (Begin worker name) = (worker < WORKERS) × IsName name
IsStep (End worker name answers) = (worker < WORKERS) × IsName name × (answers.taken < 2 ^ 32)
IsStep (Flush worker name answers) = (worker < WORKERS) × IsName name × IsHomeAnswers answers
IsStep (Show slot) = slot < SLOTS
IsStep (Peek slot) = slot < SLOTS
