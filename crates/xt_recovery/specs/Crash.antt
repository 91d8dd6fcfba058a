-- What a crash may leave of the disks of a slot, and what recovery is to make of it.
use Rattle.std.specs.Prelude.{List, None, Option, Some, [], length, true, ℕ, ◌≡◌, ◌⊎◌}
use Rattle.xt_base.specs.Alone.{after}
use Rattle.xt_base.specs.Form.{Form, form_of, is_size}
use Rattle.xt_base.specs.Jobs.{flush_plan}
use Rattle.xt_base.specs.Maps.{has}
use Rattle.xt_base.specs.State.{Flight, Lone, State, empty}
use Rattle.xt_base.specs.Text.{chunk}
use Rattle.xt_base.specs.declared.steps.Step.{Step}
use Rattle.xt_recovery.specs.DiskSteps.{Agree, AllSuit, AreDiskSteps, IsLogAfterCrash, IsLogCut, may_cut}
use Rattle.xt_recovery.specs.Disks.{Disks, content_of, flight_of, flight_text, landed_image, new_disks}
use Rattle.xt_recovery.specs.Log.{CheckpointText, Image, recovered_image}

-- a chunk of a block that a flush would write now, as it would write it
abbrev pub IsFlushing : Option State → ℕ → ℕ → List ℕ → Type 0
IsFlushing None b k v = ⊥
IsFlushing (Some m) b k v = (has (flush_plan m) b ≡ true) × (v ≡ chunk (content_of m b) k)

-- what a crash may leave between two steps or within the next: at home each chunk as it is or as a flush under way writes it, and on the log these whole texts
pub record IsCrash (s : Lone) (d : Disks) (home : Image) (log : List CheckpointText) : Type 0 where
  pub chunks : (b k : ℕ) → (home b k ≡ d.home b k) ⊎ IsFlushing s.mounted b k (home b k)
  pub texts : IsLogAfterCrash s.mounted d log

-- an image is what was committed at the begin of the last landed checkpoint, or of the one in flight, or of the one that failed: all of it
abbrev pub IsCommittedImage : Lone → Disks → Image → Image → Type 0
IsCommittedImage s d home image =
    Agree d.form.size image d.landed
    ⊎ (((f : Flight) × (flight_of s.mounted ≡ Some f) × Agree d.form.size image (landed_image (flight_text f d) home d.landed))
    ⊎ ((w : CheckpointText) × (d.failed ≡ Some w) × Agree d.form.size image (landed_image w home d.landed)))

-- after any steps of a slot that suit it, on disks of any form, at every crash, recovery gives what was committed
abbrev pub Recovers : Type 0
Recovers = (steps : List Step) → AllSuit steps empty → (form : Form) (start : Image) (d : Disks) → AreDiskSteps steps empty (new_disks form start) d
    → (home : Image) (log : List CheckpointText) → IsCrash (after steps empty) d home log → IsCommittedImage (after steps empty) d home (recovered_image log home)

-- where no block of a mount waits to be written home, the home device has all that landed: the log is not needed
abbrev pub HomeHasLanded : Type 0
HomeHasLanded = (steps : List Step) → AllSuit steps empty → (form : Form) (start : Image) (d : Disks) → AreDiskSteps steps empty (new_disks form start) d
    → (m : State) → (after steps empty).mounted ≡ Some m → m.items.ail ≡ [] → Agree d.form.size d.home d.landed

-- between two steps the log of a mount that is live, or has a checkpoint in flight, may lose all its texts where no block waits to be written home
abbrev pub LogMayGo : Type 0
LogMayGo = (m : State) (d : Disks) → may_cut m ≡ true → m.items.ail ≡ [] → IsLogCut (Some m) d (record d { log = [] })

-- over any home image of a form that a mount may have there are steps, which suit, after which one checkpoint has landed
abbrev pub Lands : Type 0
Lands = (size : Option ℕ) → is_size size ≡ true → (start : Image) → (steps : List Step) × (d : Disks) × AllSuit steps empty × AreDiskSteps steps empty (new_disks (form_of size) start) d × (length d.log ≡ 1)
