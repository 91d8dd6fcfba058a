-- The end of a leg, as far as it touches the frames and the commit list.
use Rattle.std.specs.Prelude.{Bool, IfSome, List, None, Option, Some, [], filter, if◌then◌else◌, length, not, true, unwrap_or, ℕ, ◌∷◌, ◌≡◌}
use Rattle.xt_base.specs.Legs.{is_lost, joined_marks, with_edits, with_lost, with_marks}
use Rattle.xt_base.specs.Maps.{at, has, is_in, put, with_member, without}
use Rattle.xt_base.specs.Sized.{IsWithin}
use Rattle.xt_base.specs.Sound.{Each}
use Rattle.xt_base.specs.State.{Change, Frames, Leg}
use Rattle.xt_frames.specs.Busy.{changed_in}
use Rattle.xt_frames.specs.Contents.{Bufs}
use Rattle.xt_frames.specs.Kept.{Framed, clean_of, committed_now, undone}
use Rattle.xt_items.specs.Lists.{Lists}
use Rattle.xt_journal.specs.Journals.{JournalState}
use Rattle.xt_journal.specs.Over.{shown_over}
use Rattle.xt_vectors.specs.Edits.{is_in_place}
use Rattle.xt_vectors.specs.Vectors.{Vector, vector}

-- ---- committed
-- each block that is changed in place has a frame
abbrev pub AreFramed : List (ℕ × Framed) → List (ℕ × Change) → Type 0
AreFramed frames cs = Each (λ e. is_in_place e.1.edit ≡ true → is_in e.0 frames ≡ true) cs

-- the content that a change leaves has the chunks of which its block's item is, once the change's marks are joined to those that stand there
abbrev pub HasChunks : Option (List ℕ) → Change → Type 0
HasChunks stands change = IfSome change.edit (λ content. IsWithin (length content) (joined_marks stands change))

-- each content that a leg wrote has the chunks of which its item is, once the leg's marks are joined to a commit list
abbrev pub HaveChunks : List (ℕ × List ℕ) → List (ℕ × Change) → Type 0
HaveChunks cil changes = Each (λ c. HasChunks (at c.0 cil) c.1) changes

-- the contents with the edits of a leg
abbrev pub edits_kept : List (ℕ × Change) → Frames → Frames
edits_kept cs f = record f { committed = with_edits cs f.committed }

-- the log vector of a change with the marks that its block's item has then; that of a cancelled block has none
abbrev pub change_vector : Change → List ℕ → Vector
change_vector change marks = vector (unwrap_or change.edit []) marks

-- the log vectors of a commit list, with those of the changes of a leg
abbrev pub with_vectors : List (ℕ × Change) → List (ℕ × List ℕ) → List (ℕ × Vector) → List (ℕ × Vector)
with_vectors [] cil vs = vs
with_vectors (e ∷ es) cil vs = with_vectors es (put e.0 (joined_marks (at e.0 cil) e.1) cil) (put e.0 (change_vector e.1 (joined_marks (at e.0 cil) e.1)) vs)

-- the commit list with the marks of a leg, and its log vectors
abbrev pub marks_kept : List (ℕ × Change) → Lists → Lists
marks_kept cs l = record l { cil = with_marks cs l.cil; vectors = with_vectors cs l.cil l.vectors }

-- the frames where the edit of a block is committed: an invalidated block has none; what was changed in place, or bytes of a leg's own
abbrev pub frames_with_edit : ℕ → Option (List ℕ) → List (ℕ × Framed) → List (ℕ × Framed)
frames_with_edit b None frames = without b frames
frames_with_edit b (Some []) frames = changed_in committed_now b frames
frames_with_edit b (Some (x ∷ xs)) frames = put b (clean_of (x ∷ xs)) frames

-- one change is committed
abbrev pub change_kept : ℕ → Change → JournalState → JournalState
change_kept b change j = record j {
  lists = marks_kept ((b, shown_over j.frames.frames b change) ∷ []) j.lists;
  frames = record j.frames { frames = frames_with_edit b change.edit j.frames.frames };
}

-- the changes of a leg are committed, one after another
abbrev pub changes_kept : List (ℕ × Change) → JournalState → JournalState
changes_kept [] j = j
changes_kept (e ∷ es) j = changes_kept es (change_kept e.0 e.1 j)

-- ---- given up
-- whether a block keeps its content where a leg is given up
abbrev pub is_saved : Leg → ℕ → Bool
is_saved leg b = not (is_lost leg b)

-- the contents without those that a leg lost
abbrev pub contents_lost : Leg → Frames → Frames
contents_lost leg f = record f { committed = filter (λ e. is_saved leg e.0) f.committed }

-- the fresh blocks with one more, where it is held
abbrev pub lost_with : List ℕ → ℕ → List ℕ → List ℕ
lost_with holds b fresh = if has holds b then with_member b fresh else fresh

-- the contents with the blocks fresh that a leg lost
abbrev pub fresh_lost : List (ℕ × Change) → Leg → Frames → Frames
fresh_lost cs leg f = record f { fresh = with_lost cs leg f.fresh }

-- the contents after a leg was given up
abbrev pub leg_lost : Leg → Frames → Frames
leg_lost leg f = fresh_lost leg.changes leg (contents_lost leg f)

-- one change is given up: what was changed in place is as it was, and a held block is fresh
abbrev pub change_lost : List ℕ → ℕ → Bufs → Bufs
change_lost holds b f = record f { frames = changed_in undone b f.frames; fresh = lost_with holds b f.fresh }

-- the changes of a leg are given up, one after another
abbrev pub changes_lost : List (ℕ × Change) → List ℕ → Bufs → Bufs
changes_lost [] holds f = f
changes_lost (e ∷ es) holds f = changes_lost es holds (change_lost holds e.0 f)

-- a leg with one more change before the others
abbrev pub with_first : ℕ × Change → Leg → Leg
with_first e leg = record leg { changes = e ∷ leg.changes }
