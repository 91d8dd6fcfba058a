-- Open transactions beside the frames: which blocks they change in place, and what holds of both.
use Rattle.std.specs.Prelude.{Bool, IfSome, List, Some, false, is_none, not, true, ℕ, ◌&&◌, ◌||◌, ◌≡◌, ◌≢◌}
use Rattle.xt_base.specs.Calls.{logged_leg}
use Rattle.xt_base.specs.Legs.{change_of, is_stale}
use Rattle.xt_base.specs.Maps.{at, has, is_in}
use Rattle.xt_base.specs.Sound.{Each}
use Rattle.xt_base.specs.State.{Change, Leg, Transaction}
use Rattle.xt_frames.specs.Contents.{Bufs, contents_of}
use Rattle.xt_frames.specs.Kept.{Framed, IsClean}
use Rattle.xt_journal.specs.Journals.{JournalState}
use Rattle.xt_journal.specs.Over.{edit_over, leg_over}
use Rattle.xt_trans.specs.declared.trans.ChangeMarks.{ChangeMarks}
use Rattle.xt_vectors.specs.Edits.{is_in_place}

-- whether a leg changes a block in place
abbrev pub has_in_place : ℕ → Leg → Bool
has_in_place b leg = is_in_place (change_of b leg).edit

-- each block that a leg changes in place has a frame
abbrev pub HasFrames : List (ℕ × Framed) → Leg → Type 0
HasFrames frames leg = (b : ℕ) → has_in_place b leg ≡ true → is_in b frames ≡ true

-- no open transaction changes a block in place
abbrev pub IsNowhereInPlace : ℕ → List (ℕ × Transaction) → Type 0
IsNowhereInPlace b ts = (t : ℕ) → (u : Transaction) → at t ts ≡ Some u → has_in_place b u.leg ≡ false

-- what open transactions change in place has frames, and nobody changed the other frames
pub record AreInFrames (frames : List (ℕ × Framed)) (ts : List (ℕ × Transaction)) : Type 0 where
  pub framed : Each (λ e. HasFrames frames e.1.leg) ts
  pub clean : (b : ℕ) → IsNowhereInPlace b ts → IfSome (at b frames) IsClean

-- a leg, and the frames with it, changed at one block: no other frame changed, and where the leg does not change it in place its frame is clean
pub record IsStepAt (b : ℕ) (new old : List (ℕ × Framed)) (after before : Leg) : Type 0 where
  pub others : (k : ℕ) → k ≢ b → at k new ≡ at k old
  pub stays : is_in b old ≡ true → is_in b new ≡ true
  pub rest : (k : ℕ) → k ≢ b → has_in_place k after ≡ has_in_place k before
  pub framed : has_in_place b after ≡ true → is_in b new ≡ true
  pub clean : has_in_place b after ≡ false → IfSome (at b new) IsClean

-- an open transaction shows this leg, over a journal of which nothing but frames changed; the contents are the same, and so is its grant
pub record IsStep (b : ℕ) (leg : Leg) (new old : JournalState) (after before : Transaction) : Type 0 where
  pub shown : leg_over new.frames.frames after.leg ≡ leg
  pub contents : contents_of new.frames ≡ contents_of old.frames
  pub rest : new ≡ record old { frames = new.frames }
  pub grant : after ≡ record before { leg = after.leg }
  pub step : IsStepAt b new.frames.frames old.frames.frames after.leg before.leg

-- whether bytes that a leg writes of a block, of which it has none of its own, go into the block's frame
abbrev pub goes_in_place : ℕ → Leg → Bufs → Bool
goes_in_place b leg frames = is_in b frames.frames && (has_in_place b leg || not (has frames.fresh b || is_stale b leg))

-- the leg of an open transaction with bytes written, as it shows it
abbrev pub shown_logged : ℕ → ℕ → List ℕ → JournalState → Leg → Leg
shown_logged b first bytes j leg = logged_leg j.form.size b first bytes (contents_of j.frames) (leg_over j.frames.frames leg)

-- ---- copies of changes
-- the stale mark of a change is that of the leg
abbrev pub IsMarked : Leg → ℕ × ChangeMarks → Type 0
IsMarked leg e = e.1.is_stale ≡ is_none (change_of e.0 leg).edit

-- a change of a leg with these marks, as it shows it
abbrev pub change_shown : List (ℕ × Framed) → Leg → ℕ × ChangeMarks → ℕ × Change
change_shown frames leg e = (e.0, record { edit = edit_over frames e.0 (change_of e.0 leg).edit; marks = e.1.marks; charged = e.1.charged })
