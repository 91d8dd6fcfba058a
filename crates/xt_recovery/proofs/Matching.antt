-- What the contents of a live mount have to do with its disks.
use Rattle.std.proofs.Common.{List, None, Option, Some, false, true, ◌≡◌, ℕ}
use Rattle.xt_base.specs.Maps.{at, has, is_in}
use Rattle.xt_base.specs.Sound.{Each}
use Rattle.xt_base.specs.Space.{flight_items, is_busy}
use Rattle.xt_base.specs.State.{Flight, State}
use Rattle.xt_base.specs.Text.{chunk}
use Rattle.xt_base.specs.declared.steps.Owner.TheVariants.{Stale}
use Rattle.xt_recovery.specs.Disks.{Disks, content_of, flight_text, landed_image}
use Rattle.xt_recovery.specs.Log.{HasChunk, Image, chunks_of, is_cancel}

-- what is committed once the flight has landed
abbrev pub next_image : Option Flight → Disks → Image
next_image None d = d.landed
next_image (Some f) d = landed_image (flight_text f d) d.home d.landed

-- an idle content is the landed one, and its block is not busy
abbrev pub IsIdleLanded : Disks → State → ℕ × List ℕ → Type 0
IsIdleLanded d s e = (is_busy s e.0 ≡ false) × ((k : ℕ) → HasChunk d.form.size k → chunk e.1 k ≡ d.landed e.0 k)

-- a block that the open checkpoint cancels waits for it, and has no content
pub record IsCancelledOpen (s : State) (b : ℕ) : Type 0 where
  pub waits : at b s.owners ≡ Some (Stale s.items.open_number)
  pub bare : is_in b s.frames.committed ≡ false

-- a block that the flight cancels is locked, has no content, and is not committed again
pub record IsCancelledInFlight (s : State) (b : ℕ) : Type 0 where
  pub waits : (n : ℕ) × (at b s.owners ≡ Some (Stale n))
  pub bare : is_in b s.frames.committed ≡ false
  pub once : is_in b s.items.cil ≡ false

-- the contents of a live mount match its disks
pub record MatchesDisks (d : Disks) (s : State) : Type 0 where
  -- a committed content differs from what is to land only in chunks that are marked
  pub marked : (b k : ℕ) → HasChunk d.form.size k → is_in b s.frames.committed ≡ true → has (chunks_of b s.items.cil) k ≡ false → chunk (content_of s b) k ≡ next_image s.items.flight d b k
  pub given_up : (b : ℕ) → is_cancel b s.items.cil ≡ true → IsCancelledOpen s b
  pub going : (b : ℕ) → is_cancel b (flight_items s.items.flight) ≡ true → IsCancelledInFlight s b
  pub idle : Each (IsIdleLanded d s) s.frames.idle
