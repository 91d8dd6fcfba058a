-- The promise over a sealed log: behind the texts that were synced stand any bytes.
use Rattle.std.specs.Prelude.{List, Option, [], false, length, map, reverse, ℕ, ◌++◌, ◌∷◌, ◌≡◌, ◌≢◌, ◌≤◌, ◌⊎◌}
use Rattle.xt_base.specs.Alone.{after}
use Rattle.xt_base.specs.Form.{Form}
use Rattle.xt_base.specs.Isolation.{Tells, Told, is_refused}
use Rattle.xt_base.specs.State.{Lone, empty}
use Rattle.xt_base.specs.Steps.{strike}
use Rattle.xt_base.specs.declared.steps.Step.{Step}
use Rattle.xt_ckpt.specs.Grammar.{Entry}
use Rattle.xt_recover.specs.Promise.{IsHomeLeft, IsLastText, bytes_of_log}
use Rattle.xt_recover.specs.Reading.{AreTexts}
use Rattle.xt_recover.specs.Replay.{replayed_image}
use Rattle.xt_recover.specs.Sizes.{said_size}
use Rattle.xt_recovery.specs.Crash.{IsCommittedImage}
use Rattle.xt_recovery.specs.DiskSteps.{AllSuit, IsLogAfterCrash}
use Rattle.xt_recovery.specs.Disks.{Disks, new_disks}
use Rattle.xt_recovery.specs.Log.{CheckpointText, Image, text_bytes}
use Rattle.xt_recovery.specs.Turns.{AreStepsByTurns}
use Rattle.xt_seal.specs.Seal.{BeginsNoSealed, BeginsSealed, ReadsSealed, last_seal, seal_of, sealed_texts, text_seal}

-- ---- a sealed log
-- the bytes of its texts, the oldest first
abbrev pub texts_of_log : Form → List CheckpointText → List (List ℕ)
texts_of_log form log = map (text_bytes form) (reverse log)

-- they stand behind a header, each with its seal
abbrev pub sealed_log : Form → List ℕ → List CheckpointText → List ℕ
sealed_log form head log = sealed_texts head (seal_of head) (texts_of_log form log)

-- the seal behind them: that of the newest, or the header's own where there is none
abbrev pub seal_behind : Form → List ℕ → List CheckpointText → List ℕ
seal_behind form head log = last_seal head (seal_of head) (texts_of_log form log)

-- bytes behind a seal are read as these texts, the last of which has this seal; where there is none, it is the one before
abbrev pub ReadsUpTo : Option ℕ → List ℕ → List ℕ → List ℕ → List (List Entry) → List ℕ → Type 0
ReadsUpTo size head before bytes [] last = (last ≡ before) × BeginsNoSealed head before bytes
ReadsUpTo size head before bytes (t ∷ ts) last =
    (text more : List ℕ) × (number : ℕ) × BeginsSealed head before size bytes text number t more × ReadsUpTo size head (text_seal head before text) more ts last

-- ---- forged texts
-- bytes behind a seal begin with a text that has the seal which is due there
pub record HasSealed (head before bytes : List ℕ) : Type 0 where
  pub size : Option ℕ
  pub text : List ℕ
  pub number : ℕ
  pub items : List Entry
  pub more : List ℕ
  pub begins : BeginsSealed head before size bytes text number items more

-- a text that nobody wrote has the seal which is due: the first one behind the synced texts is not the last text, which was being written, or a second one stands behind it
pub record IsForged (s : Lone) (d : Disks) (head before tail : List ℕ) : Type 0 where
  pub first : HasSealed head before tail
  pub forged : ((w : CheckpointText) → IsLastText s d w → first.text ≢ text_bytes d.form w) ⊎ HasSealed head (text_seal head before first.text) first.more

-- what was appended of the last text and of its seal, from no byte to all
abbrev pub IsAppended : Lone → Disks → List ℕ → List ℕ → List ℕ → Type 0
IsAppended s d head before tail = (tail ≡ []) ⊎ ((w : CheckpointText) × (more : List ℕ) × IsLastText s d w × (text_bytes d.form w ++ text_seal head before (text_bytes d.form w) ≡ tail ++ more))

-- ---- what is read
-- all texts that landed are read, before any other
pub record ReadsLanded (d : Disks) (texts : List (List Entry)) : Type 0 where
  pub front : List (List Entry)
  pub behind : List (List Entry)
  pub parts : texts ≡ front ++ behind
  pub landed : AreTexts (said_size d.form) (bytes_of_log d.form d.log) front

-- what is read is the texts that landed, or those and the last text; it says what the form says, and laid over the home image, the newest first, it gives what was committed
pub record IsReadBack (s : Lone) (d : Disks) (home : Image) (size : Option ℕ) (texts : List (List Entry)) : Type 0 where
  pub log : List CheckpointText
  pub left : IsLogAfterCrash s.mounted d log
  pub whole : AreTexts (said_size d.form) (bytes_of_log d.form log) texts
  pub said : 1 ≤ length texts → size ≡ said_size d.form
  pub kept : IsCommittedImage s d home (replayed_image (reverse texts) home)

-- bytes behind a header are read in one way, and that reads back what was committed
pub record IsRecoveredSealed (s : Lone) (d : Disks) (home : Image) (head bytes : List ℕ) : Type 0 where
  pub texts : List (List Entry)
  pub read : ReadsSealed (said_size d.form) head (seal_of head) bytes texts
  pub only : (size : Option ℕ) (others : List (List Entry)) → ReadsSealed size head (seal_of head) bytes others → (others ≡ texts) × IsReadBack s d home size others

-- ---- at every crash
-- after any steps of a slot that suit it, on disks of any form, whose log may be cut or turn after each, over anything that a crash may leave at home
abbrev pub AtEveryCrash : (Lone → Disks → Image → Type 0) → Type 0
AtEveryCrash P = (steps : List Step) → AllSuit steps empty → (form : Form) (start : Image) (d : Disks) → AreStepsByTurns steps empty (new_disks form start) d
    → (home : Image) → IsHomeLeft (after steps empty) d home → P (after steps empty) d home

-- the same of each slot of a host that was not refused memory, by its own steps and its own disks alone
abbrev pub AtEveryCrashOfEach : (Lone → Disks → Image → Type 0) → Type 0
AtEveryCrashOfEach P = (steps : List Step) (o : Told) → Tells steps o → (m : ℕ) → is_refused m o ≡ false → (form : Form) (start : Image) (d : Disks) → AreStepsByTurns (strike steps m) empty (new_disks form start) d
    → (home : Image) → IsHomeLeft (after (strike steps m) empty) d home → P (after (strike steps m) empty) d home

-- ---- the laws
-- any bytes behind the synced texts, however they are read: what landed is read, and what is read gives what was committed, or a text is forged
abbrev pub ReadsBackOrForged : Lone → Disks → Image → Type 0
ReadsBackOrForged s d home = (head tail : List ℕ) (size : Option ℕ) (texts : List (List Entry)) → ReadsSealed size head (seal_of head) (sealed_log d.form head d.log ++ tail) texts
    → ReadsLanded d texts × (IsReadBack s d home size texts ⊎ IsForged s d head (seal_behind d.form head d.log) tail)

-- any bytes behind them in which no text is forged
abbrev pub RecoversUnlessForged : Lone → Disks → Image → Type 0
RecoversUnlessForged s d home = (head tail : List ℕ) → (IsForged s d head (seal_behind d.form head d.log) tail → ⊥) → IsRecoveredSealed s d home head (sealed_log d.form head d.log ++ tail)

-- in what was appended no text is forged
abbrev pub AppendsForgeNothing : Lone → Disks → Image → Type 0
AppendsForgeNothing s d home = (head before tail : List ℕ) → IsAppended s d head before tail → IsForged s d head before tail → ⊥

-- a sealed log is read in one way, whatever its texts are said to say
abbrev pub ReadsOneWay : Type 0
ReadsOneWay = (f g : Option ℕ) (head before bytes : List ℕ) (texts others : List (List Entry)) → ReadsSealed f head before bytes texts → ReadsSealed g head before bytes others → others ≡ texts
