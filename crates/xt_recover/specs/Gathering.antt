-- What was gathered of a log.
use Rattle.std.specs.Prelude.{Bool, List, Option, false, if◌then◌else◌, length, true, ℕ, ◌<◌, ◌==◌, ◌≡◌, ◌≢◌, ◌⊎◌}
use Rattle.xt_base.specs.Sized.{IsWithin}
use Rattle.xt_ckpt.specs.Grammar.{Entry}
use Rattle.xt_ckpt.specs.declared.item.Item.{Item}
use Rattle.xt_recover.specs.Reading.{HasTexts, IsBrokenAt, IsMixedAt, ReadsAs}
use Rattle.xt_recover.specs.Overlaid.{Overlaid, nothing, with_texts}
use Rattle.xt_recover.specs.Sizes.{block_size}
use Rattle.xt_recover.specs.declared.gather.LogCounts.{LogCounts}
use Rattle.xt_recover.specs.declared.gather.LogFault.{LogFault}

-- an item logs chunks that a block has, where texts say this of its size
abbrev pub IsItemWithin : Option ℕ → Item → Type 0
IsItemWithin size item = IsWithin (block_size size) item.chunks

-- the overlay for a text that says this of the size of a block and stands behind so many: the first one says it for all
abbrev pub for_text : ℕ → Option ℕ → Overlaid → Overlaid
for_text count size l = if count == 0 then nothing size else l

-- a text that says this of the size of a block and stands behind so many says what they say
abbrev pub SaysAlike : ℕ → Option ℕ → Overlaid → Type 0
SaysAlike count size l = (count ≡ 0) ⊎ (size ≡ l.size)

-- it does not
abbrev pub SaysOther : ℕ → Option ℕ → Overlaid → Type 0
SaysOther count size l = (0 < count) × (size ≢ l.size)

-- why such a text, which begins at an offset, was not laid: it says something else, or memory was refused
abbrev pub IsWhyNotLaid : ℕ → Option ℕ → Overlaid → ℕ → LogFault → Type 0
IsWhyNotLaid count size l offset fault = (fault ≡ LogFault.Memory) ⊎ ((fault ≡ LogFault.Mixed offset) × SaysOther count size l)

-- the log is read as these texts, which were laid one after another, and counted
pub record IsGathered (log : List ℕ) (counts : LogCounts) (l : Overlaid) : Type 0 where
  pub texts : List (List Entry)
  pub read : ReadsAs l.size log texts
  pub parts : HasTexts l.size log texts counts.rest
  pub count : counts.texts ≡ length texts
  pub laid : l ≡ with_texts texts (nothing l.size)

-- why a log was not gathered: the field at the offset that is told breaks its rule, or the text that begins there says something else of the size
-- of a block than those before it; of want of memory, and of a reader, nothing is said; any other fault is one of a log in two files
abbrev pub IsWhyLog : List ℕ → LogFault → Type 0
IsWhyLog log (LogFault.Broken offset) = IsBrokenAt offset log
IsWhyLog log (LogFault.Mixed offset) = IsMixedAt offset log
IsWhyLog log (LogFault.Rotten which offset) = ⊥
IsWhyLog log LogFault.Strange = ⊥
IsWhyLog log (LogFault.Foreign whose) = ⊥
IsWhyLog log other = Unit {0}

-- whether a fault is one of the log, and not of memory or its reader
abbrev pub is_of_log : LogFault → Bool
is_of_log LogFault.Memory = false
is_of_log LogFault.Read = false
is_of_log other = true
