-- What is printed of a log.
use Rattle.std.specs.Io.KnownBytes.{Appends}
use Rattle.std.specs.Prelude.{All, List, None, Option, Some, [], codes, drop, flat_map, if◌then◌else◌, length, ℕ, ◌+◌, ◌++◌, ◌<◌, ◌==◌, ◌≡◌, ◌≤◌, ◌⊎◌}
use Rattle.xt_base.specs.declared.sizes.TheConstants.{DATA_BYTES}
use Rattle.xt_ckpt.specs.Fields.{IsFaultAt, IsUnfinished}
use Rattle.xt_ckpt.specs.Reading.{Begins}
use Rattle.xt_ckpt.specs.declared.item.Item.{Item}
use Rattle.xt_ckpt.specs.declared.reading.Checkpoint.{Checkpoint}
use Rattle.xt_offline.specs.Printing.{Begins as BeginsText, ended, numbered}
use Rattle.xt_offline.specs.declared.fault.DumpFault.{DumpFault}
use Rattle.xt_offline.specs.declared.fault.DumpFault.TheVariants.{Log}
use Rattle.xt_text.specs.Items.{head_text, item_text}
use Rattle.xt_window.specs.Window.{ahead, Held, IsWhy}
use Rattle.xt_window.specs.declared.fault.LogFault.TheVariants.{TooLong}
use Rattle.xt_window.specs.declared.window.Found.{Found}

-- the lines of items
abbrev pub item_lines : List Item → List ℕ
item_lines items = flat_map (λ i. ended (item_text i.block i.chunks i.content.items)) items

-- the lines of a checkpoint: its number with the count of its items, and the size of a block where its text says it; and each of the items
abbrev pub checkpoint_lines : Checkpoint → List ℕ
checkpoint_lines c = ended (head_text c.no (length c.items.items) c.size) ++ item_lines c.items.items

-- how many bytes stand behind the last whole text; nothing where there is none
abbrev pub rest_lines : ℕ → List ℕ
rest_lines count = if count == 0 then [] else numbered (codes "rest ") count

-- where a text breaks a rule, counted in the log from 0
abbrev pub fault_line : ℕ → List ℕ
fault_line offset = numbered (codes "fault ") offset

-- what is printed of what was found
abbrev pub found_lines : Found → List ℕ
found_lines (Found.Text c) = checkpoint_lines c
found_lines (Found.Rest count) = rest_lines count
found_lines (Found.Fault offset) = fault_line offset

-- the status after what was found, where nothing comes behind it
abbrev pub status_after : Found → Option ℕ
status_after (Found.Text c) = None
status_after (Found.Rest count) = Some 0
status_after (Found.Fault offset) = Some 3

-- no item has more bytes than a block
abbrev pub HasShortItems : Checkpoint → Type 0
HasShortItems c = All (λ (i : Item). length i.content.items ≤ DATA_BYTES) c.items.items

-- a text that was found has no longer items
abbrev pub AreShort : Found → Type 0
AreShort (Found.Text c) = HasShortItems c
AreShort other = Unit {0}

-- ---- a whole log
-- texts one behind another are the first bytes of a log, so many, and this is printed of them
pub data Texts : List ℕ → ℕ → List ℕ → Type 0 where
  none : (log : List ℕ) → Texts log 0 []
  more : (log out : List ℕ) (len size : ℕ) (c : Checkpoint) → Texts log len out → Begins (drop len log) c size → Texts log (len + size) (out ++ checkpoint_lines c)

-- what is printed of a log that may have so many bytes, and the status: behind its texts, what is left is no text yet, or the first field that breaks its rule is found, as
-- far as a log may have bytes
pub data IsDumped (limit : ℕ) : List ℕ → List ℕ → ℕ → Type 0 where
  rest : (log out : List ℕ) (len : ℕ) → Texts log len out → IsUnfinished (drop len log) → length log ≤ limit → IsDumped limit log (out ++ rest_lines (length (drop len log))) 0
  fault : (log out : List ℕ) (len at : ℕ) → Texts log len out → IsFaultAt at (drop len log) → len + at < limit → IsDumped limit log (out ++ fault_line (len + at)) 3

-- what a log has of which nothing is taken, where that is known
abbrev pub whole_log : Held → Option (List ℕ) → Option (List ℕ)
whole_log h left = if h.offset == 0 then ahead h left else None

-- a log without seals was printed
abbrev pub IsBarePrinted : ℕ → List ℕ → Option (List ℕ) → Option (List ℕ) → ℕ → Type 0
IsBarePrinted limit log old new status = (out : List ℕ) × (IsDumped limit log out status × Appends old new out)

-- a beginning was written of what is printed of texts at the front of such a log, or of all of it
abbrev pub IsBareBegun : ℕ → List ℕ → Option (List ℕ) → Option (List ℕ) → Type 0
IsBareBegun limit log old new = (out : List ℕ) × ((((len : ℕ) × Texts log len out) ⊎ ((status : ℕ) × IsDumped limit log out status)) × BeginsText old new out)

-- that a log has too many bytes
abbrev pub long_log_text : List ℕ
long_log_text = ended (codes "fault: log too long")

-- what is told of a fault, up to a failure of what it is told to: that a log is too long; of another nothing is said
abbrev pub IsTold : DumpFault → Option (List ℕ) → Option (List ℕ) → Type 0
IsTold (Log TooLong) old new = BeginsText old new long_log_text
IsTold other old new = Unit {0}

-- why a log that may have so many bytes was given up: it has more; of another fault nothing is said
abbrev pub IsDumpWhy : ℕ → ℕ → DumpFault → Type 0
IsDumpWhy limit size (Log why) = IsWhy limit size why
IsDumpWhy limit size other = Unit {0}

-- the exit statuses of a dump
abbrev pub IsLogStatus : ℕ → Type 0
IsLogStatus status = (status ≡ 0) ⊎ ((status ≡ 1) ⊎ (status ≡ 3))
