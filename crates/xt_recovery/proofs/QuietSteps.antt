-- Steps that ask nothing of the home device and write nothing there, and whether steps suit a slot.
use Rattle.std.proofs.Common.{◌≡◌, Bool, List, None, Option, Some, [], inl, refl, true, ◌∷◌, ℕ}
use Rattle.std.proofs.lemmas.Bool.{and_parts}
use Rattle.std.specs.Prelude.{◌&&◌}
use Rattle.xt_base.specs.Alone.{alone}
use Rattle.xt_base.specs.Form.{Form}
use Rattle.xt_base.specs.Order.{suits}
use Rattle.xt_base.specs.Sound.{Each}
use Rattle.xt_base.specs.State.{Lone, State}
use Rattle.xt_base.specs.declared.names.JobName.{JobName}
use Rattle.xt_base.specs.declared.steps.Answer.{Answer}
use Rattle.xt_base.specs.declared.steps.LogAnswers.{LogAnswers}
use Rattle.xt_base.specs.declared.steps.Request.{Request}
use Rattle.xt_base.specs.declared.steps.Step.{Step}
use Rattle.xt_base.specs.declared.steps.Step.TheVariants.{Begin, Call, End, Post, Take}
use Rattle.xt_recovery.specs.DiskSteps.{AllSuit, AreDiskSteps, IsHomeAfterStep, IsLogCut, MakesForm, ReadsHome, StepReadsHome, disks_after}
use Rattle.xt_recovery.specs.Disks.{Disks}
use Rattle.xt_recovery.specs.Log.{Image}

-- a log may stay as it is
pub uncut : (o : Option State) (d : Disks) → IsLogCut o d d
uncut None d = refl
uncut (Some m) d = inl refl

-- ---- steps that do not touch the home device
-- such a step, whatever the slot and its disks
pub record IsQuiet (x : Step) : Type 0 where
  pub form : (s : Lone) (f : Form) → MakesForm x s f
  pub told : (s : Lone) (home : Image) → StepReadsHome x s home
  pub home : (s : Lone) (d : Disks) (new : Image) → IsHomeAfterStep x s d new
  pub same : (s : Lone) (d : Disks) (home new : Image) → disks_after x s new d ≡ disks_after x s home d

-- a call that reads no content
pub quiet_call : (slot life : ℕ) (request : Request) (answer : Answer) → ((home : Image) (m : State) → ReadsHome home m request answer) → IsQuiet (Call slot life request answer)
quiet_call slot life request answer reads = record { form = λ s f. tt; told = λ s home m is. reads home m; home = λ s d new. tt; same = λ s d home new. refl }

-- a checkpoint's way
pub quiet_post : (name : JobName) → IsQuiet (Post name)
quiet_post name = record { form = λ s f. tt; told = λ s home. tt; home = λ s d new. tt; same = λ s d home new. refl }

pub quiet_take : (worker : ℕ) (name : JobName) → IsQuiet (Take worker name)
quiet_take worker name = record { form = λ s f. tt; told = λ s home. tt; home = λ s d new. tt; same = λ s d home new. refl }

pub quiet_begin : (worker : ℕ) (name : JobName) → IsQuiet (Begin worker name)
quiet_begin worker name = record { form = λ s f. tt; told = λ s home. tt; home = λ s d new. tt; same = λ s d home new. refl }

pub quiet_end : (worker : ℕ) (name : JobName) (answers : LogAnswers) → IsQuiet (End worker name answers)
quiet_end worker name answers = record { form = λ s f. tt; told = λ s home. tt; home = λ s d new. tt; same = λ s d home new. refl }

-- the disks after such steps
unfoldable pub quiet_disks : List Step → Lone → Disks → Disks
quiet_disks [] s d = d
quiet_disks (x ∷ xs) s d = quiet_disks xs (alone x s).slot (disks_after x s d.home d)

-- are what they take the disks to
pub quiet_steps : (xs : List Step) (s : Lone) (d : Disks) → Each IsQuiet xs → AreDiskSteps xs s d (quiet_disks xs s d)
unfolding quiet_disks
quiet_steps [] s d quiet = refl
quiet_steps (x ∷ xs) s d quiet =
    let q : IsQuiet x = quiet.0 in
    let e : Disks = disks_after x s d.home d in
    (e, e, record { form = q.form s d.form; told = q.told s d.home; home = q.home s d e.home; after = q.same s d e.home d.home }, uncut (alone x s).slot.mounted e, quiet_steps xs (alone x s).slot e quiet.1)

-- ---- order
-- whether each step suits what the ones before it left
unfoldable pub all_suit : List Step → Lone → Bool
all_suit [] s = true
all_suit (x ∷ xs) s = suits x s && all_suit xs (alone x s).slot

pub suit_by : (xs : List Step) (s : Lone) → all_suit xs s ≡ true → AllSuit xs s
unfolding all_suit
suit_by [] s is = tt
suit_by (x ∷ xs) s is = let both = and_parts (suits x s) (all_suit xs (alone x s).slot) is in (both.0, suit_by xs (alone x s).slot both.1)
