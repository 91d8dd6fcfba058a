-- What is written of what was gathered over a home device.
use Rattle.std.specs.Prelude.{Bool, List, None, Option, Some, [], length, true, unwrap_or, ℕ, ◌++◌, ◌∷◌, ◌≡◌}
use Rattle.xt_base.specs.Maps.{at}
use Rattle.xt_base.specs.declared.steps.HomeOffer.{HomeOffer}
use Rattle.xt_dev.specs.Devices.{Tells}
use Rattle.xt_dev.specs.declared.call.HomeCall.{HomeCall}
use Rattle.xt_recover.specs.Overlaid.{Overlaid}
use Rattle.xt_recover.specs.Chunks.{merged}
use Rattle.xt_recover.specs.Sizes.{block_size}

-- the chunks that were gathered of a block
abbrev pub chunks_at : Overlaid → ℕ → List ℕ
chunks_at l b = unwrap_or (at b l.chunks) []

-- the bytes of a block with what was gathered of it in the place of its own
abbrev pub laid_with : Option (List ℕ) → List ℕ → List ℕ → List ℕ
laid_with None set home = home
laid_with (Some content) set home = merged set content home

-- the same, of any block
abbrev pub laid_over : Overlaid → ℕ → List ℕ → List ℕ
laid_over l b home = laid_with (at b l.contents) (chunks_at l b) home

-- a block is read, and written with what was gathered of it in the place of its own
abbrev pub block_calls : Overlaid → ℕ × List ℕ → List ℕ → List HomeCall
block_calls l e old = HomeCall.Read e.0 (Some old) ∷ HomeCall.Offer (HomeOffer.Write e.0 (merged (chunks_at l e.0) e.1 old) true) ∷ []

-- so is each block that was gathered
abbrev pub AreWritten : Overlaid → List (ℕ × List ℕ) → List HomeCall → Type 0
AreWritten l [] calls = calls ≡ []
AreWritten l (e ∷ es) calls = (old : List ℕ) × (rest : List HomeCall) × (length old ≡ block_size l.size) × (length e.1 ≡ block_size l.size) × (calls ≡ block_calls l e old ++ rest) × AreWritten l es rest

-- one block was, as the device tells
pub record TellsBlock (l : Overlaid) (e : ℕ × List ℕ) (told : Bool) (before : List HomeCall) (tell : Bool) (after : List HomeCall) : Type 0 where
  pub old : List ℕ
  pub whole : length old ≡ block_size l.size
  pub own : length e.1 ≡ block_size l.size
  pub tells : Tells told before (block_calls l e old) tell after

-- all were, and then the device was asked to make them safe
pub record TellsWritten (l : Overlaid) (told : Bool) (before : List HomeCall) (tell : Bool) (after : List HomeCall) : Type 0 where
  pub calls : List HomeCall
  pub written : AreWritten l l.contents calls
  pub tells : Tells told before (calls ++ HomeCall.Offer (HomeOffer.Sync true) ∷ []) tell after

-- calls as they go on block by block, up to one that fails or a sync: a block is read, and written with what was gathered of it in the place of its own
pub data GoOn (l : Overlaid) : List HomeCall → Type 0 where
  nothing : GoOn l []
  unread : (b : ℕ) → GoOn l (HomeCall.Read b None ∷ [])
  read : (b : ℕ) (old : List ℕ) → length old ≡ block_size l.size → GoOn l (HomeCall.Read b (Some old) ∷ [])
  block : (b : ℕ) (content old : List ℕ) (ok : Bool) (rest : List HomeCall) → length content ≡ block_size l.size → length old ≡ block_size l.size → GoOn l rest
      → GoOn l (HomeCall.Read b (Some old) ∷ HomeCall.Offer (HomeOffer.Write b (merged (chunks_at l b) content old) ok) ∷ rest)
  sync : (ok : Bool) → GoOn l (HomeCall.Offer (HomeOffer.Sync ok) ∷ [])

-- a call failed, and those up to it went on so
pub record TellsStopped (l : Overlaid) (told : Bool) (before : List HomeCall) (tell : Bool) (after : List HomeCall) : Type 0 where
  pub calls : List HomeCall
  pub goes : GoOn l calls
  pub tells : Tells told before calls tell after
