-- The two disks of a mount, and what its jobs make of them.
use Rattle.std.specs.Prelude.{List, None, Option, Some, [], if◌then◌else◌, is_some, ℕ, ◌∷◌}
use Rattle.xt_base.specs.Form.{Form}
use Rattle.xt_base.specs.Jobs.{is_ok}
use Rattle.xt_base.specs.Maps.{is_in}
use Rattle.xt_base.specs.State.{Flight, State}
use Rattle.xt_base.specs.Text.{chunk, content_at}
use Rattle.xt_base.specs.declared.steps.LogAnswers.{LogAnswers}
use Rattle.xt_recovery.specs.Log.{CheckpointText, Image, is_cancel}

-- what stands on the disks of a mount, and what it is to mean
pub record Disks : Type 0 where
  -- the size of a block, and what the texts on the log say of it: for the life of the volume
  pub form : Form
  -- what the home device has
  pub home : Image
  -- the texts on the log whose sync was answered Ok, the newest first
  pub log : List CheckpointText
  -- what the checkpoints committed that landed
  pub landed : Image
  -- the committed contents at the begin of the checkpoint in flight
  pub snapshot : ℕ → List ℕ
  -- the text of a checkpoint whose end failed, of which a part or all may stand behind the others
  pub failed : Option CheckpointText

-- the disks of a new mount of this form: a home image, and an empty log
abbrev pub new_disks : Form → Image → Disks
new_disks form home = record { form = form; home = home; log = []; landed = home; snapshot = λ b. []; failed = None }

-- the committed content of a block; zeros where it has none
abbrev pub content_of : State → ℕ → List ℕ
content_of s b = content_at s.form.size b s.frames.committed

-- the text of the checkpoint in flight
abbrev pub flight_text : Flight → Disks → CheckpointText
flight_text f d = record { number = f.number; items = f.items; contents = d.snapshot }

-- what is committed once a checkpoint has landed: its blocks are whole as at its begin, a cancelled block is as it is at home, and any other as before
abbrev pub landed_image : CheckpointText → Image → Image → Image
landed_image w home old b k = if is_cancel b w.items then home b k else (if is_in b w.items then chunk (w.contents b) k else old b k)

-- a checkpoint landed: its text stands on the log
abbrev pub disks_landed : Flight → Disks → Disks
disks_landed f d = record d { log = flight_text f d ∷ d.log; landed = landed_image (flight_text f d) d.home d.landed }

-- a checkpoint failed
abbrev pub disks_failed : Flight → Disks → Disks
disks_failed f d = record d { failed = Some (flight_text f d) }

-- a checkpoint began
abbrev pub disks_begun : State → Disks → Disks
disks_begun s d = record d { snapshot = content_of s }

-- the checkpoint in flight, if there is a mount that has one
abbrev pub flight_of : Option State → Option Flight
flight_of None = None
flight_of (Some m) = m.items.flight

-- after a begin: a checkpoint began, if there is a live mount
abbrev pub disks_at_begin : Option State → Disks → Disks
disks_at_begin None d = d
disks_at_begin (Some m) d = if is_some m.shut then d else disks_begun m d

-- after an end: the flight has landed if its sync was answered Ok, and failed if not
abbrev pub disks_at_end : LogAnswers → Option Flight → Disks → Disks
disks_at_end answers None d = d
disks_at_end answers (Some f) d = if is_ok answers.sync then disks_landed f d else disks_failed f d
