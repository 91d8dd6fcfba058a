-- A log that is read piece by piece: what is held of it, what is ahead, and why it was not read further.
use Rattle.std.specs.Io.KnownBytes.{IsAtEnd, Keeps, prepend_known}
use Rattle.std.specs.Prelude.{Bool, List, None, Option, Some, [], drop, false, length, take, true, ℕ, ◌+◌, ◌++◌, ◌<◌, ◌≡◌, ◌≤◌, ◌⊎◌}
use Rattle.xt_ckpt.specs.Fields.{IsFaultAt, IsUnfinished}
use Rattle.xt_ckpt.specs.Grammar.{IsTextIn, entries}
use Rattle.xt_ckpt.specs.Reading.{Begins}
use Rattle.xt_ckpt.specs.declared.reading.Checkpoint.{Checkpoint}
use Rattle.xt_seal.specs.Reading.{IsFoundSealed}
use Rattle.xt_seal.specs.Seal.{BeginsNoSealed, Seals, text_seal}
use Rattle.xt_seal.specs.Sums.{Sums}
use Rattle.xt_window.specs.declared.fault.LogFault.{LogFault}
use Rattle.xt_window.specs.declared.fault.LogFault.TheVariants.{TooLong}
use Rattle.xt_window.specs.declared.window.Found.{Found}
use Rattle.xt_window.specs.declared.window.SealedText.{SealedText}

-- what is held of a log: bytes that are not taken yet, their offset, whether the log ends with them, and the most bytes that it may have
pub record Held : Type 0 where
  pub bytes : List ℕ
  pub offset : ℕ
  pub is_ended : Bool
  pub limit : ℕ

-- nothing is read of a log that may have so many bytes
abbrev pub unread : ℕ → Held
unread limit = record { bytes = []; offset = 0; is_ended = false; limit = limit }

-- the first bytes are taken
abbrev pub taken : ℕ → Held → Held
taken len h = record h { bytes = drop len h.bytes; offset = h.offset + len }

-- more bytes stand behind what is held
abbrev pub with_more : List ℕ → Held → Held
with_more more h = record h { bytes = h.bytes ++ more }

-- a text that was found is one of the grammar
abbrev pub IsOfGrammar : Found → Type 0
IsOfGrammar (Found.Text c) = (text : List ℕ) × IsTextIn c.size text c.no (entries c.items.items)
IsOfGrammar other = Unit {0}

-- what is held begins with a text, which is taken; or it is the unfinished end of the log; or a field breaks its rule; or more is to be read
abbrev pub IsNext : Held → Option Found → Held → Type 0
IsNext old (Some (Found.Text c)) new = (len : ℕ) × (Begins old.bytes c len × (new ≡ taken len old))
IsNext old (Some (Found.Rest count)) new = (old.is_ended ≡ true) × (IsUnfinished old.bytes × ((count ≡ length old.bytes) × (new ≡ old)))
IsNext old (Some (Found.Fault offset)) new = (at : ℕ) × (IsFaultAt at old.bytes × ((offset ≡ old.offset + at) × (new ≡ old)))
IsNext old None new = (old.is_ended ≡ false) × (new ≡ old)

-- what a log has from the offset on, where that is known: what is held, and then what the reader has left
abbrev pub ahead : Held → Option (List ℕ) → Option (List ℕ)
ahead h left = prepend_known h.bytes left

-- where the log ends with what is held, the reader has nothing left
abbrev pub IsTied : Held → Option (List ℕ) → Type 0
IsTied h left = h.is_ended ≡ true → IsAtEnd left

-- more of the same log is held, or no more
pub record IsRefilled (old new : Held) (had has : Option (List ℕ)) : Type 0 where
  pub place : new.offset ≡ old.offset
  pub limit : new.limit ≡ old.limit
  pub same : Keeps (ahead old had) (ahead new has)
  pub tied : IsTied new has

-- what comes next of a log that has these bytes from the offset on: a text, behind which the others are ahead; no text yet, up to the end of a log
-- that is not too long; or a field that breaks its rule, as far as a log may have bytes
abbrev pub IsAhead : Held → List ℕ → Found → Held → Option (List ℕ) → Type 0
IsAhead old log (Found.Text c) new has = (size : ℕ) × (Begins log c size × ((new.offset ≡ old.offset + size) × (ahead new has ≡ Some (drop size log))))
IsAhead old log (Found.Rest count) new has = IsUnfinished log × ((count ≡ length log) × (old.offset + length log ≤ old.limit))
IsAhead old log (Found.Fault place) new has = (at : ℕ) × (IsFaultAt at log × ((place ≡ old.offset + at) × (place < old.limit)))

-- why a log of so many bytes was not read to its end: it has more than it may have; of another fault nothing is said
abbrev pub IsWhy : ℕ → ℕ → LogFault → Type 0
IsWhy limit size TooLong = limit < size
IsWhy limit size other = Unit {0}

-- whether a fault says that a log has too many bytes
abbrev pub is_too_long : LogFault → Bool
is_too_long TooLong = true
is_too_long other = false

-- ---- a sealed log
-- a text and the seal behind it begin the bytes, and both are summed up
pub record IsTextSealed (head before bytes : List ℕ) (t : SealedText) (len : ℕ) (sums : Sums) : Type 0 where
  pub found : IsFoundSealed head before bytes t.checkpoint len sums
  pub seal : t.seal ≡ text_seal head before (take len bytes)

-- what is held begins with a text and its seal, which are taken; or the log ends here, whatever stands here, and nothing is taken; or more is to be read
abbrev pub IsNextSealed : List ℕ → List ℕ → Held → Option (Option SealedText) → Sums → Held → Type 0
IsNextSealed head before old (Some (Some t)) sums new = (len : ℕ) × (IsTextSealed head before old.bytes t len sums × (new ≡ taken (len + 8) old))
IsNextSealed head before old (Some None) sums new = (((more : List ℕ) → BeginsNoSealed head before (old.bytes ++ more)) ⊎ ((old.is_ended ≡ true) × BeginsNoSealed head before old.bytes)) × (new ≡ old)
IsNextSealed head before old None sums new = (old.is_ended ≡ false) × (new ≡ old)

-- what comes next of a sealed log that has these bytes from the offset on: a text with its seal, behind which the others are ahead; or none, and all of them are still ahead
abbrev pub IsAheadSealed : List ℕ → List ℕ → Held → List ℕ → Option SealedText → Sums → Held → Option (List ℕ) → Type 0
IsAheadSealed head before old log (Some t) sums new has = (len : ℕ) × (IsTextSealed head before log t len sums × ((new.offset ≡ old.offset + (len + 8)) × (ahead new has ≡ Some (drop (len + 8) log))))
IsAheadSealed head before old log None sums new has = BeginsNoSealed head before log × ((new.offset ≡ old.offset) × (ahead new has ≡ Some log))

-- a text of the grammar was taken, and it and its seal are summed up
abbrev pub IsTakenSealed : List ℕ → List ℕ → SealedText → Sums → Type 0
IsTakenSealed head before t new =
    (text : List ℕ) × (IsTextIn t.checkpoint.size text t.checkpoint.no (entries t.checkpoint.items.items) × ((t.seal ≡ text_seal head before text) × Seals new head t.seal []))

-- a text that was taken is one of the grammar, whatever was summed up
abbrev pub IsTextTaken : Option SealedText → Type 0
IsTextTaken (Some t) = (text : List ℕ) × IsTextIn t.checkpoint.size text t.checkpoint.no (entries t.checkpoint.items.items)
IsTextTaken None = Unit {0}

-- where no text is taken, nothing more is summed up
abbrev pub IsSameUnlessTaken : Option (Option SealedText) → Sums → Sums → Type 0
IsSameUnlessTaken (Some (Some t)) old new = Unit {0}
IsSameUnlessTaken other old new = new ≡ old
