-- What is printed of a sealed log in one file.
use Rattle.std.specs.Io.KnownBytes.{Appends, Keeps}
use Rattle.std.specs.Prelude.{List, None, Option, Some, [], drop, length, take, ℕ, ◌+◌, ◌++◌, ◌≡◌, ◌≤◌, ◌⊎◌}
use Rattle.xt_ckpt.specs.Grammar.{entries}
use Rattle.xt_ckpt.specs.declared.reading.Checkpoint.{Checkpoint}
use Rattle.xt_offline.specs.LogDump.{IsDumpWhy, IsDumped, IsTold, Texts, checkpoint_lines, fault_line, rest_lines}
use Rattle.xt_offline.specs.Printing.{Begins as BeginsText}
use Rattle.xt_offline.specs.declared.fault.DumpFault.{DumpFault}
use Rattle.xt_offline.specs.declared.fault.DumpFault.TheVariants.{Log, Second}
use Rattle.xt_offline.specs.declared.sealed.SealedFile.{SealedFile}
use Rattle.xt_seal.specs.Headers.{head_bytes}
use Rattle.xt_seal.specs.Seal.{BeginsNoSealed, BeginsSealed, Seals, seal_of, text_seal}
use Rattle.xt_seal.specs.declared.header.Header.{Header}
use Rattle.xt_seal.specs.declared.header.TheConstants.{HEADER_BYTES}
use Rattle.xt_window.specs.Rest.{IsRest}
use Rattle.xt_window.specs.Start.{BeginsHeader, BeginsNoHeader}
use Rattle.xt_window.specs.Window.{IsWhy, ahead}
use Rattle.xt_window.specs.declared.rest.Rest.{Rest}
use Rattle.xt_window.specs.declared.way.Which.{Which}
use Rattle.xt_window.specs.declared.window.SealedText.{SealedText}

-- ---- one file
-- bytes behind a seal begin with the text of a checkpoint, which has so many, and its seal
abbrev pub BeginsWith : List ℕ → List ℕ → List ℕ → Checkpoint → ℕ → Type 0
BeginsWith head before bytes c size = (size + 8 ≤ length bytes) × BeginsSealed head before c.size bytes (take size bytes) c.no (entries c.items.items) (drop (size + 8) bytes)

-- texts behind a seal, each with its own behind it, are the first of some bytes, so many; the seal of the last one, and what is printed of them
pub data SealedTexts (head first bytes : List ℕ) : ℕ → List ℕ → List ℕ → Type 0 where
  none : SealedTexts head first bytes 0 first []
  more : (len size : ℕ) (last out : List ℕ) (c : Checkpoint) → SealedTexts head first bytes len last out → BeginsWith head last (drop len bytes) c size
      → SealedTexts head first bytes (len + (size + 8)) (text_seal head last (take size (drop len bytes))) (out ++ checkpoint_lines c)

-- the same of what stands behind a header
abbrev pub Printed : Header → List ℕ → ℕ → List ℕ → List ℕ → Type 0
Printed h bytes len last out = SealedTexts (head_bytes h) (seal_of (head_bytes h)) bytes len last out

-- all texts behind a header were printed: no other with its seal follows them
pub record AllPrinted (h : Header) (bytes : List ℕ) (len : ℕ) (last out : List ℕ) : Type 0 where
  pub texts : Printed h bytes len last out
  pub none : BeginsNoSealed (head_bytes h) last (drop len bytes)

-- what is printed of what stands behind them: how many bytes a loss of power may have left there; else where the texts end, counted in the file
abbrev pub end_lines : ℕ → Rest → List ℕ
end_lines place (Rest.Torn count) = rest_lines count
end_lines place other = fault_line place

-- and the status
abbrev pub end_status : Rest → ℕ
end_status (Rest.Torn count) = 0
end_status other = 3

-- what is printed of a file behind its header, and the status: all texts, and how it ends
pub record IsSealedDumped (h : Header) (bytes out : List ℕ) (status : ℕ) : Type 0 where
  pub len : ℕ
  pub last : List ℕ
  pub lines : List ℕ
  pub rest : Rest
  pub all : AllPrinted h bytes len last lines
  pub behind : IsRest (head_bytes h) (drop len bytes) rest
  pub parts : out ≡ lines ++ end_lines (HEADER_BYTES + len) rest
  pub ended : status ≡ end_status rest

-- what is printed of a log in one file, which may have so many bytes, and the status: with seals, where a header begins it
pub data IsOneDumped (limit : ℕ) (log : List ℕ) : List ℕ → ℕ → Type 0 where
  bare : (out : List ℕ) (status : ℕ) → BeginsNoHeader log → IsDumped limit log out status → IsOneDumped limit log out status
  sealed : (h : Header) (more out : List ℕ) (status : ℕ) → BeginsHeader log h more → IsSealedDumped h more out status → IsOneDumped limit log out status

-- what is printed of texts at its front, or of all of it
pub data IsOneBegun (limit : ℕ) (log : List ℕ) : List ℕ → Type 0 where
  bare : (len : ℕ) (out : List ℕ) → Texts log len out → IsOneBegun limit log out
  sealed : (h : Header) (more : List ℕ) (len : ℕ) (last out : List ℕ) → BeginsHeader log h more → Printed h more len last out → IsOneBegun limit log out
  whole : (out : List ℕ) (status : ℕ) → IsOneDumped limit log out status → IsOneBegun limit log out

-- a log was printed
abbrev pub IsLogPrinted : ℕ → List ℕ → Option (List ℕ) → Option (List ℕ) → ℕ → Type 0
IsLogPrinted limit log old new status = (out : List ℕ) × (IsOneDumped limit log out status × Appends old new out)

-- a beginning was written of what is printed of texts at the front of a log, or of all of it
abbrev pub IsLogBegun : ℕ → List ℕ → Option (List ℕ) → Option (List ℕ) → Type 0
IsLogBegun limit log old new = (out : List ℕ) × (IsOneBegun limit log out × BeginsText old new out)

-- a log was given up: at most a beginning was written, and the fault was told
pub record IsLogGivenUp (limit : ℕ) (log : List ℕ) (old new err_old err_new : Option (List ℕ)) (status : ℕ) (fault : DumpFault) : Type 0 where
  pub written : IsLogBegun limit log old new
  pub why : IsDumpWhy limit (length log) fault
  pub told : IsTold fault err_old err_new
  pub ended : status ≡ 1

-- what a dump of a log wrote, by its status: 0 and 3 after all was printed, and then nothing is told of a fault; 1 after a fault
abbrev pub IsLogRun : ℕ → List ℕ → Option (List ℕ) → Option (List ℕ) → Option (List ℕ) → Option (List ℕ) → ℕ → Type 0
IsLogRun limit log old new err_old err_new status =
    (IsLogPrinted limit log old new status × Keeps err_old err_new) ⊎ ((fault : DumpFault) × IsLogGivenUp limit log old new err_old err_new status fault)

-- ---- a file on the way
-- its sealer has summed up its header and its last seal
abbrev pub IsChained : SealedFile → Type 0
IsChained f = Seals f.sealer (head_bytes f.header) f.last []

-- nothing behind its header was printed
abbrev pub IsUnprinted : SealedFile → Type 0
IsUnprinted f = (f.last ≡ seal_of (head_bytes f.header)) × (f.window.offset ≡ HEADER_BYTES)

-- it is the same one, further on
abbrev pub IsFurther : SealedFile → SealedFile → Type 0
IsFurther old new = (new.header ≡ old.header) × ((new.which ≡ old.which) × (new.window.limit ≡ old.window.limit))

-- what comes next of a file that has these bytes from there on: a text with its seal, which is the last one then, behind which the others are ahead; or none, and all are still ahead
abbrev pub IsNextOf : SealedFile → List ℕ → Option SealedText → SealedFile → Option (List ℕ) → Type 0
IsNextOf old bytes (Some t) new has =
    (size : ℕ) × (BeginsWith (head_bytes old.header) old.last bytes t.checkpoint size
    × ((new.last ≡ text_seal (head_bytes old.header) old.last (take size bytes)) × ((new.window.offset ≡ old.window.offset + (size + 8)) × (ahead new.window has ≡ Some (drop (size + 8) bytes)))))
IsNextOf old bytes None new has = BeginsNoSealed (head_bytes old.header) old.last bytes × ((new.last ≡ old.last) × ((new.window.offset ≡ old.window.offset) × (ahead new.window has ≡ Some bytes)))

-- all texts of a file that has these bytes behind its header were printed
pub record IsTextsPrinted (bytes : List ℕ) (f : SealedFile) (has old new : Option (List ℕ)) : Type 0 where
  pub len : ℕ
  pub out : List ℕ
  pub all : AllPrinted f.header bytes len f.last out
  pub within : len ≤ length bytes
  pub place : f.window.offset ≡ HEADER_BYTES + len
  pub same : ahead f.window has ≡ Some (drop len bytes)
  pub written : Appends old new out

-- a beginning was written of what is printed of texts behind a header
abbrev pub IsTextsBegun : Header → List ℕ → Option (List ℕ) → Option (List ℕ) → Type 0
IsTextsBegun h bytes old new = (len : ℕ) × ((last : List ℕ) × ((out : List ℕ) × (Printed h bytes len last out × BeginsText old new out)))

-- how a file ends was printed, of which the texts end at a place and these bytes stand behind them
abbrev pub IsEndPrinted : Header → ℕ → List ℕ → Option (List ℕ) → Option (List ℕ) → ℕ → Type 0
IsEndPrinted h place bytes old new status = (rest : Rest) × (IsRest (head_bytes h) bytes rest × ((status ≡ end_status rest) × Appends old new (end_lines place rest)))

-- nothing of that was written, or a beginning
abbrev pub IsEndBegun : Header → ℕ → List ℕ → Option (List ℕ) → Option (List ℕ) → Type 0
IsEndBegun h place bytes old new = Keeps old new ⊎ ((rest : Rest) × (IsRest (head_bytes h) bytes rest × BeginsText old new (end_lines place rest)))

-- a file was printed, behind its header
abbrev pub IsSealedPrinted : Header → List ℕ → Option (List ℕ) → Option (List ℕ) → ℕ → Type 0
IsSealedPrinted h bytes old new status = (out : List ℕ) × (IsSealedDumped h bytes out status × Appends old new out)

-- a beginning was written of what is printed of texts behind a header, or of all
abbrev pub IsSealedBegun : Header → List ℕ → Option (List ℕ) → Option (List ℕ) → Type 0
IsSealedBegun h bytes old new = IsTextsBegun h bytes old new ⊎ ((out : List ℕ) × ((status : ℕ) × (IsSealedDumped h bytes out status × BeginsText old new out)))

-- why a file of a log that may have so many bytes was given up: it has more; of another fault nothing is said
abbrev pub IsFileWhy : Which → ℕ → ℕ → DumpFault → Type 0
IsFileWhy Which.One limit size (Log why) = IsWhy limit size why
IsFileWhy Which.Other limit size (Log why) = ⊥
IsFileWhy Which.One limit size (Second why) = ⊥
IsFileWhy Which.Other limit size (Second why) = IsWhy limit size why
IsFileWhy which limit size other = Unit {0}

-- a fault of no file
abbrev pub IsOther : DumpFault → Type 0
IsOther (Log why) = ⊥
IsOther (Second why) = ⊥
IsOther other = Unit {0}
