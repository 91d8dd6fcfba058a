-- What the writes of a flush may leave of a home image.
use Rattle.std.specs.Prelude.{Bool, List, [], false, true, ℕ, ◌||◌, ◌≡◌, ◌⊎◌, ◌∷◌}
use Rattle.xt_base.specs.Text.{chunk}
use Rattle.xt_base.specs.declared.steps.HomeOffer.{HomeOffer}
use Rattle.xt_recovery.specs.Log.{Image}

-- a chunk is as it was, or as some write of its block offered it
abbrev pub MayHold : List HomeOffer → ℕ → ℕ → List ℕ → List ℕ → Type 0
MayHold [] b k old new = new ≡ old
MayHold (HomeOffer.Write c content ok ∷ os) b k old new = ((b ≡ c) × (new ≡ chunk content k)) ⊎ MayHold os b k old new
MayHold (HomeOffer.Sync ok ∷ os) b k old new = MayHold os b k old new

-- a chunk is as each write of its block offered it that was answered Ok
abbrev pub MustHold : List HomeOffer → ℕ → ℕ → List ℕ → Type 0
MustHold [] b k new = Unit {0}
MustHold (HomeOffer.Write c content ok ∷ os) b k new = (b ≡ c → ok ≡ true → new ≡ chunk content k) × MustHold os b k new
MustHold (HomeOffer.Sync ok ∷ os) b k new = MustHold os b k new

-- whether a sync was answered Ok
abbrev pub is_synced : List HomeOffer → Bool
is_synced [] = false
is_synced (HomeOffer.Write c content ok ∷ os) = is_synced os
is_synced (HomeOffer.Sync ok ∷ os) = ok || is_synced os

-- a home image after these offers: each chunk is as it was or as it was offered, and as it was offered where its write and the sync were answered Ok
pub record IsHomeAfter (offers : List HomeOffer) (old new : Image) : Type 0 where
  pub either : (b k : ℕ) → MayHold offers b k (old b k) (new b k)
  pub stands : is_synced offers ≡ true → (b k : ℕ) → MustHold offers b k (new b k)
