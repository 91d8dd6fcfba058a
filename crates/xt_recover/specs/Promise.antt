-- The promise, in bytes: what a crash may leave of a log file and a home device, and what recovery makes of it.
use Rattle.std.specs.Prelude.{List, None, Option, Some, [], false, length, reverse, ℕ, ◌++◌, ◌∷◌, ◌≡◌, ◌≤◌, ◌⊎◌}
use Rattle.xt_base.specs.Alone.{after}
use Rattle.xt_base.specs.Form.{Form}
use Rattle.xt_base.specs.Isolation.{Tells, Told, is_refused}
use Rattle.xt_base.specs.State.{Flight, Lone, empty}
use Rattle.xt_base.specs.Steps.{strike}
use Rattle.xt_base.specs.declared.steps.Step.{Step}
use Rattle.xt_ckpt.specs.Grammar.{Entry}
use Rattle.xt_recover.specs.Reading.{ReadsAs}
use Rattle.xt_recover.specs.Sizes.{said_size}
use Rattle.xt_recover.specs.Replay.{chunk_in_texts, replayed_image}
use Rattle.xt_recovery.specs.Crash.{IsCommittedImage, IsFlushing}
use Rattle.xt_recovery.specs.DiskSteps.{AllSuit, AreDiskSteps}
use Rattle.xt_recovery.specs.Disks.{Disks, flight_of, flight_text, new_disks}
use Rattle.xt_recovery.specs.Log.{CheckpointText, Image, text_bytes}

-- the bytes of texts of a form one behind another, the oldest first in the file
abbrev pub bytes_of_log : Form → List CheckpointText → List ℕ
bytes_of_log form [] = []
bytes_of_log form (w ∷ ws) = bytes_of_log form ws ++ text_bytes form w

-- a text that stands behind those that landed: the one in flight, or one that failed
abbrev pub IsLastText : Lone → Disks → CheckpointText → Type 0
IsLastText s d w = ((f : Flight) × (flight_of s.mounted ≡ Some f) × (w ≡ flight_text f d)) ⊎ (d.failed ≡ Some w)

-- what a crash may leave of a log file: the texts that landed, and a beginning, from none to all, of one more
pub record IsLogLeft (s : Lone) (d : Disks) (bytes : List ℕ) : Type 0 where
  pub tail : List ℕ
  pub parts : bytes ≡ bytes_of_log d.form d.log ++ tail
  pub begins : (tail ≡ []) ⊎ ((w : CheckpointText) × (more : List ℕ) × IsLastText s d w × (text_bytes d.form w ≡ tail ++ more))

-- what a crash may leave at home: each chunk as it is, or as a flush under way writes it
abbrev pub IsHomeLeft : Lone → Disks → Image → Type 0
IsHomeLeft s d home = (b k : ℕ) → (home b k ≡ d.home b k) ⊎ IsFlushing s.mounted b k (home b k)

-- what a crash may leave: that at home; on the log the landed texts and a beginning of the next
pub record IsCrashBytes (s : Lone) (d : Disks) (home : Image) (bytes : List ℕ) : Type 0 where
  pub chunks : IsHomeLeft s d home
  pub log : IsLogLeft s d bytes

-- the bytes of the log are texts that say what the form says, and an unfinished end, read in one way; laid over the home image, the newest first, they give what was committed
pub record IsRecovered (s : Lone) (d : Disks) (home : Image) (bytes : List ℕ) : Type 0 where
  pub texts : List (List Entry)
  pub read : ReadsAs (said_size d.form) bytes texts
  pub only : (size : Option ℕ) (others : List (List Entry)) → ReadsAs size bytes others → others ≡ texts
  pub said : (size : Option ℕ) (others : List (List Entry)) → ReadsAs size bytes others → 1 ≤ length others → size ≡ said_size d.form
  pub kept : IsCommittedImage s d home (replayed_image (reverse texts) home)

-- after any steps of a slot that suit it, at every crash
abbrev pub RecoversBytes : Type 0
RecoversBytes = (steps : List Step) → AllSuit steps empty → (form : Form) (start : Image) (d : Disks) → AreDiskSteps steps empty (new_disks form start) d
    → (home : Image) (bytes : List ℕ) → IsCrashBytes (after steps empty) d home bytes → IsRecovered (after steps empty) d home bytes

-- after any run of a host, each slot that was not refused memory, by its own steps and its own disks alone
abbrev pub RecoversEach : Type 0
RecoversEach = (steps : List Step) (o : Told) → Tells steps o → (m : ℕ) → is_refused m o ≡ false → (form : Form) (start : Image) (d : Disks) → AreDiskSteps (strike steps m) empty (new_disks form start) d
    → (home : Image) (bytes : List ℕ) → IsCrashBytes (after (strike steps m) empty) d home bytes → IsRecovered (after (strike steps m) empty) d home bytes

-- recovery that was broken off, and is run again over what it left, gives the same, if it changed no chunk but those that the texts give
abbrev pub RecoversAgain : Type 0
RecoversAgain = (texts : List (List Entry)) (home left : Image) (b k : ℕ) → (chunk_in_texts texts b k ≡ None → left b k ≡ home b k) → replayed_image texts left b k ≡ replayed_image texts home b k

-- over an image that older and newer texts gave, the newer ones alone give the same
abbrev pub RecoversByNewer : Type 0
RecoversByNewer = (newer older : List (List Entry)) (home left : Image) (b k : ℕ) → left b k ≡ replayed_image (newer ++ older) home b k → replayed_image newer left b k ≡ left b k
