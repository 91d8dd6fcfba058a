-- What a leg shows over the frames: bytes of its own, or those of the frame that it changes in place.
use Rattle.std.specs.Prelude.{List, None, Option, Some, [], map, ℕ, ◌∷◌}
use Rattle.xt_base.specs.Maps.{at}
use Rattle.xt_base.specs.State.{Change, Leg, Transaction}
use Rattle.xt_frames.specs.Kept.{Framed}

-- the bytes of a frame; none where there is none
abbrev pub frame_bytes : Option Framed → List ℕ
frame_bytes None = []
frame_bytes (Some frame) = frame.edit

-- bytes of its own, or where there are none those of a frame
abbrev pub bytes_over : List ℕ → Option Framed → List ℕ
bytes_over [] frame = frame_bytes frame
bytes_over (x ∷ xs) frame = x ∷ xs

-- the edit of a block, if there is one
abbrev pub edit_over : List (ℕ × Framed) → ℕ → Option (List ℕ) → Option (List ℕ)
edit_over frames b None = None
edit_over frames b (Some bytes) = Some (bytes_over bytes (at b frames))

-- a change, and those of a leg
abbrev pub shown_over : List (ℕ × Framed) → ℕ → Change → Change
shown_over frames b change = record change { edit = edit_over frames b change.edit }

abbrev pub changes_over : List (ℕ × Framed) → List (ℕ × Change) → List (ℕ × Change)
changes_over frames cs = map (λ e. (e.0, shown_over frames e.0 e.1)) cs

-- a leg, a transaction, and all that are open
abbrev pub leg_over : List (ℕ × Framed) → Leg → Leg
leg_over frames leg = record leg { changes = changes_over frames leg.changes }

abbrev pub trans_over : List (ℕ × Framed) → Transaction → Transaction
trans_over frames trans = record trans { leg = leg_over frames trans.leg }

abbrev pub transactions_over : List (ℕ × Framed) → List (ℕ × Transaction) → List (ℕ × Transaction)
transactions_over frames ts = map (λ e. (e.0, trans_over frames e.1)) ts
