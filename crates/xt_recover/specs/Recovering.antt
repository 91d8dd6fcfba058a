-- What recovery does to a home device, and to the image that it stands for.
use Rattle.std.specs.Prelude.{Bool, false, List, None, Option, Some, [], if◌then◌else◌, length, reverse, take, true, ℕ, ◌++◌, ◌==◌, ◌∷◌, ◌≡◌, ◌⊎◌}
use Rattle.xt_base.specs.Text.{chunk}
use Rattle.xt_base.specs.declared.steps.HomeOffer.{HomeOffer}
use Rattle.xt_ckpt.specs.Grammar.{Entry}
use Rattle.xt_dev.specs.Devices.{Tells}
use Rattle.xt_dev.specs.declared.call.HomeCall.{HomeCall}
use Rattle.xt_recover.specs.FilesRead.{IsRead, ReadsLog}
use Rattle.xt_recover.specs.FilesGathering.{IsWhyLogFiles}
use Rattle.xt_recover.specs.Gathering.{IsWhyLog}
use Rattle.xt_recover.specs.Overlaid.{Overlaid, nothing, with_texts}
use Rattle.xt_recover.specs.Reading.{HasTexts, ReadsAs}
use Rattle.xt_recover.specs.Replay.{replayed_image}
use Rattle.xt_recover.specs.Sizes.{block_size}
use Rattle.xt_recover.specs.declared.gather.LogCounts.{LogCounts}
use Rattle.xt_recover.specs.declared.recovering.FilesRecovered.{FilesRecovered}
use Rattle.xt_recover.specs.declared.recovering.RecoverFault.{RecoverFault}
use Rattle.xt_recover.specs.declared.recovering.Recovered.{Recovered}
use Rattle.xt_recover.specs.declared.writing.WriteFault.{WriteFault}
use Rattle.xt_recovery.specs.DiskSteps.{Agree}
use Rattle.xt_recovery.specs.Log.{HasChunk, Image}

-- the image after a block was written
abbrev pub with_block : ℕ → List ℕ → Image → Image
with_block b content image q k = if q == b then chunk content k else image q k

-- each content that calls read or wrote has so many bytes
abbrev pub HaveBytes : ℕ → List HomeCall → Type 0
HaveBytes bytes [] = Unit {0}
HaveBytes bytes (HomeCall.Read b None ∷ cs) = HaveBytes bytes cs
HaveBytes bytes (HomeCall.Read b (Some content) ∷ cs) = (length content ≡ bytes) × HaveBytes bytes cs
HaveBytes bytes (HomeCall.Offer (HomeOffer.Write b content ok) ∷ cs) = (length content ≡ bytes) × HaveBytes bytes cs
HaveBytes bytes (HomeCall.Offer (HomeOffer.Sync ok) ∷ cs) = HaveBytes bytes cs

-- none of these calls asks the device to make safe what was written
abbrev pub HaveNoSync : List HomeCall → Type 0
HaveNoSync [] = Unit {0}
HaveNoSync (HomeCall.Read b content ∷ cs) = HaveNoSync cs
HaveNoSync (HomeCall.Offer (HomeOffer.Write b content ok) ∷ cs) = HaveNoSync cs
HaveNoSync (HomeCall.Offer (HomeOffer.Sync ok) ∷ cs) = ⊥

-- calls that succeeded, answered as an image of blocks of so many bytes answers them: a read gives what it has, a write makes it have that
abbrev pub AreAnswered : ℕ → List HomeCall → Image → Image → Type 0
AreAnswered bytes [] old new = Agree bytes new old
AreAnswered bytes (HomeCall.Read b None ∷ cs) old new = AreAnswered bytes cs old new
AreAnswered bytes (HomeCall.Read b (Some content) ∷ cs) old new = ((k : ℕ) → HasChunk bytes k → chunk content k ≡ old b k) × AreAnswered bytes cs old new
AreAnswered bytes (HomeCall.Offer (HomeOffer.Write b content ok) ∷ cs) old new = AreAnswered bytes cs (with_block b content old) new
AreAnswered bytes (HomeCall.Offer (HomeOffer.Sync ok) ∷ cs) old new = AreAnswered bytes cs old new

-- what may be left of an image while a block is written, or where that fails: each of its chunks as it was or as it is written
abbrev pub IsTorn : ℕ → ℕ → List ℕ → Image → Image → Type 0
IsTorn bytes b content old left = (q k : ℕ) → HasChunk bytes k → (left q k ≡ old q k) ⊎ ((q ≡ b) × (left q k ≡ chunk content k))

-- what calls may leave of such an image, whether they succeeded or not
abbrev pub MayLeave : ℕ → List HomeCall → Image → Image → Type 0
MayLeave bytes [] old left = Agree bytes left old
MayLeave bytes (HomeCall.Read b None ∷ cs) old left = MayLeave bytes cs old left
MayLeave bytes (HomeCall.Read b (Some content) ∷ cs) old left = ((k : ℕ) → HasChunk bytes k → chunk content k ≡ old b k) × MayLeave bytes cs old left
MayLeave bytes (HomeCall.Offer (HomeOffer.Write b content ok) ∷ cs) old left = (mid : Image) × IsTorn bytes b content old mid × MayLeave bytes cs mid left
MayLeave bytes (HomeCall.Offer (HomeOffer.Sync ok) ∷ cs) old left = MayLeave bytes cs old left

-- broken off behind any of these calls, recovery that is run again over what they may have left gives what it gives over the image that was there
abbrev pub CanBreakOff : ℕ → List (List Entry) → List HomeCall → Type 0
CanBreakOff bytes texts calls = (n : ℕ) (old left : Image) → MayLeave bytes (take n calls) old left → Agree bytes (replayed_image (reverse texts) left) (replayed_image (reverse texts) old)

-- the device was told calls that end with their one sync, of blocks of the size that the texts say which are read so, and if it answered them as an image
-- does, its image is the one that these texts, laid over it the newest first, give
pub record TellsRecoveredBy (Reads : Option ℕ → List (List Entry) → Type 0) (told : Bool) (before : List HomeCall) (tell : Bool) (after : List HomeCall) : Type 0 where
  pub size : Option ℕ
  pub texts : List (List Entry)
  pub read : Reads size texts
  pub calls : List HomeCall
  pub bytes : HaveBytes (block_size size) calls
  pub unsynced : HaveNoSync calls
  pub tells : Tells told before (calls ++ HomeCall.Offer (HomeOffer.Sync true) ∷ []) tell after
  pub image : (old new : Image) → AreAnswered (block_size size) calls old new → Agree (block_size size) new (replayed_image (reverse texts) old)
  pub again : CanBreakOff (block_size size) texts calls

-- the device was told such calls up to one that failed, and recovery can be run again over what they left
pub record TellsBrokenOffBy (Reads : Option ℕ → List (List Entry) → Type 0) (told : Bool) (before : List HomeCall) (tell : Bool) (after : List HomeCall) : Type 0 where
  pub size : Option ℕ
  pub texts : List (List Entry)
  pub read : Reads size texts
  pub calls : List HomeCall
  pub bytes : HaveBytes (block_size size) calls
  pub tells : Tells told before calls tell after
  pub again : CanBreakOff (block_size size) texts calls

-- the same of the texts of a log without seals
abbrev pub TellsRecovered : List ℕ → Bool → List HomeCall → Bool → List HomeCall → Type 0
TellsRecovered log = TellsRecoveredBy (λ size texts. ReadsAs size log texts)

abbrev pub TellsBrokenOff : List ℕ → Bool → List HomeCall → Bool → List HomeCall → Type 0
TellsBrokenOff log = TellsBrokenOffBy (λ size texts. ReadsAs size log texts)

-- the same of those of a log in two files
abbrev pub TellsRecoveredFiles : List ℕ → List ℕ → Bool → List HomeCall → Bool → List HomeCall → Type 0
TellsRecoveredFiles one other = TellsRecoveredBy (λ size texts. ReadsLog size one other texts)

abbrev pub TellsBrokenOffFiles : List ℕ → List ℕ → Bool → List HomeCall → Bool → List HomeCall → Type 0
TellsBrokenOffFiles one other = TellsBrokenOffBy (λ size texts. ReadsLog size one other texts)

-- whether the home device failed; before memory was refused it was not asked anything
abbrev pub has_failed : WriteFault → Bool
has_failed WriteFault.Home = true
has_failed WriteFault.Memory = false

-- whether it was the home device that failed; before any other fault it was not asked anything
abbrev pub is_home_fault : RecoverFault → Bool
is_home_fault (RecoverFault.Log fault) = false
is_home_fault (RecoverFault.Home fault) = has_failed fault

-- how much was recovered of a log: its texts; the blocks that stand there once they are laid one over another; and the bytes behind them
pub record IsCounted (log : List ℕ) (found : Recovered) : Type 0 where
  pub size : Option ℕ
  pub texts : List (List Entry)
  pub parts : HasTexts size log texts found.rest
  pub count : found.texts ≡ length texts
  pub blocks : found.blocks ≡ length (with_texts texts (nothing size)).contents

-- how much was recovered, by what was gathered
abbrev pub IsCountOf : LogCounts → Overlaid → Recovered → Type 0
IsCountOf counts l found = (found.texts ≡ counts.texts) × (found.blocks ≡ length l.contents) × (found.rest ≡ counts.rest)

-- how much was recovered of a log in two files, of which this one is older
pub record IsCountedFiles (one other : List ℕ) (found : FilesRecovered) : Type 0 where
  pub size : Option ℕ
  pub texts : List (List Entry)
  pub read : IsRead found.older size one other texts found.recovered.rest
  pub count : found.recovered.texts ≡ length texts
  pub blocks : found.recovered.blocks ≡ length (with_texts texts (nothing size)).contents

-- why it was not recovered
abbrev pub IsWhyFiles : List ℕ → List ℕ → RecoverFault → Type 0
IsWhyFiles one other (RecoverFault.Log fault) = IsWhyLogFiles one other fault
IsWhyFiles one other (RecoverFault.Home fault) = Unit {0}

-- why a log was not recovered: the field at the offset that is told breaks its rule; of other faults nothing is said
abbrev pub IsWhy : List ℕ → RecoverFault → Type 0
IsWhy log (RecoverFault.Log fault) = IsWhyLog log fault
IsWhy log (RecoverFault.Home fault) = Unit {0}
