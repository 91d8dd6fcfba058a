-- What recovery stands on.
use Rattle.std.proofs.Common.{List, Some, false, true, ◌≡◌, ◌≤◌, ◌⊎◌, ℕ}
use Rattle.std.specs.Prelude.{is_some}
use Rattle.xt_base.specs.Jobs.{gone}
use Rattle.xt_base.specs.Maps.{at, has, is_in}
use Rattle.xt_base.specs.State.{Flight, Items}
use Rattle.xt_base.specs.Text.{chunk}
use Rattle.xt_base.specs.declared.steps.HomeAnswers.{HomeAnswers}
use Rattle.xt_recovery.specs.Disks.{Disks}
use Rattle.xt_recovery.specs.Log.{HasChunk, Image, chunks_of, is_cancel, logged_chunk, texts_from}

-- a flush of these blocks: each chunk of them is as it was or as it was offered, and as it was offered where write and sync were answered Ok; no other changed
pub record IsFlushedHome (plan : List ℕ) (answers : HomeAnswers) (contents : ℕ → List ℕ) (old new : Image) : Type 0 where
  pub either : (b k : ℕ) → (new b k ≡ old b k) ⊎ ((has plan b ≡ true) × (new b k ≡ chunk (contents b) k))
  pub stands : (b k : ℕ) → has (gone plan answers) b ≡ true → new b k ≡ chunk (contents b) k

-- the texts from the number of a block on the active list on have the chunk
abbrev pub IsInLog : Disks → Items → ℕ → ℕ → Type 0
IsInLog d l b k = (n : ℕ) × (at b l.ail ≡ Some n) × (is_some (logged_chunk (texts_from n d.log) b k) ≡ true)

-- a chunk that the flight does not log of one of its blocks is the landed one
abbrev pub AgreesUnlogged : Flight → Disks → Type 0
AgreesUnlogged f d = (b k : ℕ) → HasChunk d.form.size k → is_cancel b f.items ≡ false → is_in b f.items ≡ true → has (chunks_of b f.items) k ≡ false → chunk (d.snapshot b) k ≡ d.landed b k

-- what recovery stands on
pub record IsRecoverable (d : Disks) (l : Items) : Type 0 where
  -- what the texts say of a chunk is the landed one
  pub told : (b k : ℕ) (v : List ℕ) → HasChunk d.form.size k → logged_chunk d.log b k ≡ Some v → v ≡ d.landed b k
  -- a chunk at home is the landed one, or it is in a text that still counts
  pub home : (b k : ℕ) → HasChunk d.form.size k → (d.home b k ≡ d.landed b k) ⊎ IsInLog d l b k
  pub beside : (f : Flight) → l.flight ≡ Some f → AgreesUnlogged f d
  -- no number of the active list is above the flight's, nor above the open one
  pub aged : (f : Flight) (b n : ℕ) → l.flight ≡ Some f → at b l.ail ≡ Some n → n ≤ f.number
  pub below : (b n : ℕ) → at b l.ail ≡ Some n → n ≤ l.open_number
