-- A journal: the form of the mount, its item lists, its frames, and why it is shut, if it is.
use Rattle.std.specs.Prelude.{Bool, List, None, Option, [], is_none, true, ℕ, ◌||◌, ◌≡◌}
use Rattle.xt_base.specs.Form.{Form}
use Rattle.xt_base.specs.Maps.{is_in}
use Rattle.xt_base.specs.Space.{is_listed}
use Rattle.xt_base.specs.State.{Frames}
use Rattle.xt_base.specs.declared.steps.Owner.{Owner}
use Rattle.xt_base.specs.declared.steps.Reason.{Reason}
use Rattle.xt_frames.specs.Contents.{Bufs, no_bufs}
use Rattle.xt_frames.specs.Kept.{Framed}
use Rattle.xt_items.specs.Lists.{Lists, no_items, with_landed}
use Rattle.xt_vectors.specs.Vectors.{vectors_of}

-- what clauses see of it
pub record JournalState : Type 0 where
  pub form : Form
  pub lists : Lists
  pub frames : Bufs
  pub shut : Option Reason

-- the log vectors of the commit list are the committed bytes of its chunks, on a live mount; on a shut one nothing is written any more
abbrev pub AreVectors : ℕ → Lists → Frames → Option Reason → Type 0
AreVectors size l f shut = is_none shut ≡ true → l.vectors ≡ vectors_of size f.committed l.cil

-- the journal with other frames
abbrev pub with_frames : List (ℕ × Framed) → JournalState → JournalState
with_frames frames j = record j { frames = record j.frames { frames = frames } }

-- the journal of a new mount
abbrev pub no_journal : Form → JournalState
no_journal form = record { form = form; lists = no_items; frames = no_bufs; shut = None }

-- whether a block has an owner or is on a list
abbrev pub is_busy_beside : List (ℕ × Owner) → Lists → ℕ → Bool
is_busy_beside owners l b = is_in b owners || is_listed (with_landed [] l) b
