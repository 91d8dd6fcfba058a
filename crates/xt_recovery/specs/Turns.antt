-- A log that is written by turns, as one in two files: it drops its older texts once the newer ones have more bytes than the log of its mount.
use Rattle.std.specs.Prelude.{List, None, Option, Some, [], length, sum_by, true, ℕ, ◌++◌, ◌+◌, ◌<◌, ◌∷◌, ◌≡◌, ◌≤◌, ◌⊎◌}
use Rattle.xt_base.specs.Alone.{after, alone}
use Rattle.xt_base.specs.Form.{Form, form_one}
use Rattle.xt_base.specs.State.{Flight, Lone, State, empty}
use Rattle.xt_base.specs.declared.steps.Step.{Step}
use Rattle.xt_recovery.specs.Crash.{IsCommittedImage, IsCrash}
use Rattle.xt_recovery.specs.DiskSteps.{AllSuit, AreDiskSteps, IsDiskStep, IsLogCut, may_cut}
use Rattle.xt_recovery.specs.Disks.{Disks, flight_text, new_disks}
use Rattle.xt_recovery.specs.Log.{CheckpointText, Image, recovered_image, text_bytes}

-- how many bytes these texts have
abbrev pub log_length : Form → List CheckpointText → ℕ
log_length form log = sum_by (λ w. length (text_bytes form w)) log

-- how many bytes the text in flight has, if there is one
abbrev pub flight_length : Option Flight → Disks → ℕ
flight_length None d = 0
flight_length (Some f) d = length (text_bytes d.form (flight_text f d))

-- the log drops its older texts where the newer ones, the one in flight among them, have more bytes than the log of the mount; nothing is asked of the active list
pub record IsTurn (m : State) (d e : Disks) : Type 0 where
  pub newer : List CheckpointText
  pub older : List CheckpointText
  pub allowed : may_cut m ≡ true
  pub parts : d.log ≡ newer ++ older
  pub enough : m.log_bytes < log_length d.form newer + flight_length m.items.flight d
  pub left : e ≡ record d { log = newer }

-- the log stays as it is, is cut, or turns
abbrev pub IsCutOrTurn : Option State → Disks → Disks → Type 0
IsCutOrTurn None d e = IsLogCut None d e
IsCutOrTurn (Some m) d e = IsLogCut (Some m) d e ⊎ IsTurn m d e

-- steps one after another take the disks from d to e, where the log may be cut or turn after each
abbrev pub AreStepsByTurns : List Step → Lone → Disks → Disks → Type 0
AreStepsByTurns [] s d e = e ≡ d
AreStepsByTurns (x ∷ xs) s d e = (mid turned : Disks) × IsDiskStep x s d mid × IsCutOrTurn (alone x s).slot.mounted mid turned × AreStepsByTurns xs (alone x s).slot turned e

-- each turn is a cut: no block of the active list needs what the log drops
abbrev pub TurnsAreCuts : Type 0
TurnsAreCuts = (steps : List Step) → AllSuit steps empty → (form : Form) (start : Image) (d : Disks) → AreStepsByTurns steps empty (new_disks form start) d → AreDiskSteps steps empty (new_disks form start) d

-- so at every crash the log that is left gives what was committed
abbrev pub RecoversByTurns : Type 0
RecoversByTurns = (steps : List Step) → AllSuit steps empty → (form : Form) (start : Image) (d : Disks) → AreStepsByTurns steps empty (new_disks form start) d
    → (home : Image) (log : List CheckpointText) → IsCrash (after steps empty) d home log → IsCommittedImage (after steps empty) d home (recovered_image log home)

-- over any home image there are steps, which suit, after which a log may drop a text by a turn
abbrev pub LogTurns : Type 0
LogTurns = (start : Image) → (steps : List Step) × (d e : Disks) × (m : State) × AllSuit steps empty × AreDiskSteps steps empty (new_disks form_one start) d × ((after steps empty).mounted ≡ Some m) × (turn : IsTurn m d e) × (1 ≤ length turn.older)
