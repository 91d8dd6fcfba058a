-- What the steps of a slot make of its disks.
use Rattle.std.specs.Prelude.{Bool, List, None, Option, Some, [], if◌then◌else◌, is_none, is_some, length, true, ℕ, ◌||◌, ◌∷◌, ◌≡◌, ◌≤◌, ◌⊎◌}
use Rattle.xt_base.specs.Alone.{alone, mount_refusals}
use Rattle.xt_base.specs.Calls.{first_of, read_asks}
use Rattle.xt_base.specs.Form.{Form, form_of}
use Rattle.xt_base.specs.Maps.{at}
use Rattle.xt_base.specs.Order.{suits}
use Rattle.xt_base.specs.State.{Flight, Items, Lone, State}
use Rattle.xt_base.specs.Text.{chunk}
use Rattle.xt_base.specs.declared.steps.Answer.{Answer}
use Rattle.xt_base.specs.declared.steps.Request.{Request}
use Rattle.xt_base.specs.declared.steps.Step.{Step}
use Rattle.xt_base.specs.declared.steps.Step.TheVariants.{Begin, Call, End, Flush, Mount}
use Rattle.xt_recovery.specs.Disks.{Disks, disks_at_begin, disks_at_end, flight_of, flight_text, new_disks}
use Rattle.xt_recovery.specs.Flush.{IsHomeAfter}
use Rattle.xt_recovery.specs.Log.{CheckpointText, HasChunk, Image, recovered_image, texts_from}

-- two images of blocks of so many bytes have the same chunks
abbrev pub Agree : ℕ → Image → Image → Type 0
Agree size one other = (b k : ℕ) → HasChunk size k → one b k ≡ other b k

-- ---- reads
-- a content is what an image has of a block
pub record IsContentOf (image : Image) (b size : ℕ) (content : List ℕ) : Type 0 where
  pub whole : length content ≡ size
  pub same : (k : ℕ) → HasChunk size k → chunk content k ≡ image b k

-- a read that asks the home device is answered with what stands there
abbrev pub ReadsHome : Image → State → Request → Answer → Type 0
ReadsHome home s (Request.Read t b) (Answer.Content content) = read_asks t b s (at t s.transactions) ≡ true → IsContentOf home b s.form.size content
ReadsHome home s request answer = Unit {0}

-- the same, of a step
abbrev pub StepReadsHome : Step → Lone → Image → Type 0
StepReadsHome (Call slot life request answer) s home = (m : State) → s.mounted ≡ Some m → ReadsHome home m request answer
StepReadsHome other s home = Unit {0}

-- ---- writes
-- the texts that a crash may leave whole: those that landed, and before them the one in flight, or one that failed
abbrev pub IsLogAfterCrash : Option State → Disks → List CheckpointText → Type 0
IsLogAfterCrash o d log =
    (log ≡ d.log) ⊎ (((f : Flight) × (flight_of o ≡ Some f) × (log ≡ flight_text f d ∷ d.log)) ⊎ ((w : CheckpointText) × (d.failed ≡ Some w) × (log ≡ w ∷ d.log)))

-- what a step may leave at home: a mount finds what recovery made of the life before, and a flush leaves what its writes may
abbrev pub IsHomeAfterStep : Step → Lone → Disks → Image → Type 0
IsHomeAfterStep (Mount slot log_bytes blocks size) s d new = first_of (mount_refusals log_bytes blocks size s) ≡ None → (log : List CheckpointText) × IsLogAfterCrash s.mounted d log × Agree d.form.size new (recovered_image log d.home)
IsHomeAfterStep (Flush worker name answers) s d new = IsHomeAfter (alone (Flush worker name answers) s).home d.home new
IsHomeAfterStep other s d new = Unit {0}

-- a mount makes the form of the disks: a volume has one for its life
abbrev pub MakesForm : Step → Lone → Form → Type 0
MakesForm (Mount slot log_bytes blocks size) s form = first_of (mount_refusals log_bytes blocks size s) ≡ None → form_of size ≡ form
MakesForm other s form = Unit {0}

-- the disks after a step that left this home image; a mount begins with an empty log
abbrev pub disks_after : Step → Lone → Image → Disks → Disks
disks_after (Mount slot log_bytes blocks size) s home d = if is_none (first_of (mount_refusals log_bytes blocks size s)) then new_disks d.form home else d
disks_after (Begin worker name) s home d = disks_at_begin s.mounted d
disks_after (End worker name answers) s home d = disks_at_end answers (flight_of s.mounted) d
disks_after (Flush worker name answers) s home d = record d { home = home }
disks_after other s home d = d

-- a number that no block of the active list is below
abbrev pub IsTail : ℕ → Items → Type 0
IsTail n l = (b m : ℕ) → at b l.ail ≡ Some m → n ≤ m

-- whether the log of a mount may lose texts: the mount is live, or a checkpoint of it is on its way to the log, though it was shut meanwhile
abbrev pub may_cut : State → Bool
may_cut m = is_none m.shut || is_some m.items.flight

-- the log stays as it is, or, of such a mount, loses the texts that are older than its active list
abbrev pub IsLogCut : Option State → Disks → Disks → Type 0
IsLogCut None d e = e ≡ d
IsLogCut (Some m) d e = (e ≡ d) ⊎ ((n : ℕ) × (may_cut m ≡ true) × IsTail n m.items × (e ≡ record d { log = texts_from n d.log }))

-- ---- steps
-- one step takes the disks from d to e
pub record IsDiskStep (x : Step) (s : Lone) (d e : Disks) : Type 0 where
  pub form : MakesForm x s d.form
  pub told : StepReadsHome x s d.home
  pub home : IsHomeAfterStep x s d e.home
  pub after : e ≡ disks_after x s e.home d

-- steps one after another take the disks from d to e, where the log may be cut after each
abbrev pub AreDiskSteps : List Step → Lone → Disks → Disks → Type 0
AreDiskSteps [] s d e = e ≡ d
AreDiskSteps (x ∷ xs) s d e = (mid cut : Disks) × IsDiskStep x s d mid × IsLogCut (alone x s).slot.mounted mid cut × AreDiskSteps xs (alone x s).slot cut e

-- each step suits what the ones before it left
abbrev pub AllSuit : List Step → Lone → Type 0
AllSuit [] s = Unit {0}
AllSuit (x ∷ xs) s = (suits x s ≡ true) × AllSuit xs (alone x s).slot
