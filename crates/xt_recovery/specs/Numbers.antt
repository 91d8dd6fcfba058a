-- The numbers of the texts on a log.
use Rattle.std.specs.Prelude.{List, [], ℕ, ◌+◌, ◌<◌, ◌∷◌, ◌≡◌}
use Rattle.xt_base.specs.Alone.{after}
use Rattle.xt_base.specs.Form.{Form}
use Rattle.xt_base.specs.Sound.{Each}
use Rattle.xt_base.specs.State.{empty}
use Rattle.xt_base.specs.declared.steps.Step.{Step}
use Rattle.xt_recovery.specs.DiskSteps.{AllSuit, AreDiskSteps, IsLogAfterCrash}
use Rattle.xt_recovery.specs.Disks.{Disks, new_disks}
use Rattle.xt_recovery.specs.Log.{CheckpointText, Image}

-- each text has a number below n
abbrev pub AreBelow : ℕ → List CheckpointText → Type 0
AreBelow n log = Each (λ w. w.number < n) log

-- the newest first, each text has a greater number than all that are older
abbrev pub AreFalling : List CheckpointText → Type 0
AreFalling [] = Unit {0}
AreFalling (w ∷ ws) = AreBelow w.number ws × AreFalling ws

-- the number n comes next behind the newest of some texts, if there is one
abbrev pub IsNext : ℕ → List CheckpointText → Type 0
IsNext n [] = Unit {0}
IsNext n (w ∷ ws) = w.number + 1 ≡ n

-- the newest first, each text has the number next to that of the one before it
abbrev pub AreConsecutive : List CheckpointText → Type 0
AreConsecutive [] = Unit {0}
AreConsecutive (w ∷ ws) = IsNext w.number ws × AreConsecutive ws

-- at every crash the numbers of the texts fall from the newest on
abbrev pub NumbersFall : Type 0
NumbersFall = (steps : List Step) → AllSuit steps empty → (form : Form) (start : Image) (d : Disks) → AreDiskSteps steps empty (new_disks form start) d
    → (log : List CheckpointText) → IsLogAfterCrash (after steps empty).mounted d log → AreFalling log

-- and they have no gap: no text between two others is missing
abbrev pub NumbersFollow : Type 0
NumbersFollow = (steps : List Step) → AllSuit steps empty → (form : Form) (start : Image) (d : Disks) → AreDiskSteps steps empty (new_disks form start) d
    → (log : List CheckpointText) → IsLogAfterCrash (after steps empty).mounted d log → AreConsecutive log
