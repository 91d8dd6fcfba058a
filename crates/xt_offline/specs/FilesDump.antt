-- What is printed of a log in two files.
use Rattle.std.specs.Io.KnownBytes.{Appends, Keeps}
use Rattle.std.specs.Prelude.{List, Option, [], length, ℕ, ◌+◌, ◌++◌, ◌≡◌, ◌≢◌, ◌⊎◌}
use Rattle.xt_offline.specs.LogDump.{IsDumped, IsTold, Texts, fault_line}
use Rattle.xt_offline.specs.Printing.{Begins as BeginsText}
use Rattle.xt_offline.specs.SealedDump.{AllPrinted, IsFileWhy, IsSealedDumped, Printed}
use Rattle.xt_offline.specs.declared.fault.DumpFault.{DumpFault}
use Rattle.xt_offline.specs.declared.fault.DumpFault.TheVariants.{Log, Second}
use Rattle.xt_offline.specs.declared.files.Dumped.{Dumped}
use Rattle.xt_seal.specs.declared.header.Header.{Header}
use Rattle.xt_seal.specs.declared.header.TheConstants.{HEADER_BYTES}
use Rattle.xt_window.specs.Start.{BeginsHeader}
use Rattle.xt_window.specs.Ways.{HasNoBegin, IsBare, IsNextHeader, IsNoLog}
use Rattle.xt_window.specs.Window.{IsWhy}
use Rattle.xt_window.specs.declared.way.Which.{Which}

-- which of two files is taken first, and which is the other
pub data InOrder (one other : List ℕ) : List ℕ → Which → List ℕ → Which → Type 0 where
  straight : InOrder one other one Which.One other Which.Other
  crossed : InOrder one other other Which.Other one Which.One

-- what is printed of two files whose headers are next to each other, and how it ends: the older one's texts, and where they end with the seal that the newer one's header
-- tells, what is printed of that; else where they end
pub data AreDumped (h next : Header) (older newer : List ℕ) (first second : Which) : List ℕ → Dumped → Type 0 where
  linked : (len status : ℕ) (lines behind : List ℕ) → AllPrinted h older len next.link lines → IsSealedDumped next newer behind status
      → AreDumped h next older newer first second (lines ++ behind) (record { status = status; which = second })
  unlinked : (len : ℕ) (last lines : List ℕ) → AllPrinted h older len last lines → last ≢ next.link
      → AreDumped h next older newer first second (lines ++ fault_line (HEADER_BYTES + len)) (record { status = 3; which = first })

-- what is printed of a log in two files, of which each may have so many bytes, and how it ends: of the first, where that is a log without seals; of both, where their headers are next to each
-- other; of the one that a header begins, where the other has no text; nothing where neither has one; and else that they are no log
pub data IsFilesDumped (limit : ℕ) (one other : List ℕ) : List ℕ → Dumped → Type 0 where
  bare : (out : List ℕ) (status : ℕ) → IsBare one other → IsDumped limit one out status → IsFilesDumped limit one other out (record { status = status; which = Which.One })
  both : (older newer : List ℕ) (first second : Which) (h next : Header) (more behind out : List ℕ) (ended : Dumped) → InOrder one other older first newer second → BeginsHeader older h more → BeginsHeader newer next behind
      → IsNextHeader h next → AreDumped h next more behind first second out ended → IsFilesDumped limit one other out ended
  alone : (file none : List ℕ) (which beside : Which) (h : Header) (more out : List ℕ) (status : ℕ) → InOrder one other file which none beside → BeginsHeader file h more → HasNoBegin none → IsSealedDumped h more out status
      → IsFilesDumped limit one other out (record { status = status; which = which })
  nothing : HasNoBegin one → HasNoBegin other → (IsBare one other → ⊥) → IsFilesDumped limit one other [] (record { status = 0; which = Which.One })
  strange : IsNoLog one other → IsFilesDumped limit one other (fault_line 0) (record { status = 3; which = Which.One })

-- what is printed of texts at the front of both, or of all of them
pub data IsFilesBegun (limit : ℕ) (one other : List ℕ) : List ℕ → Type 0 where
  bare : (len : ℕ) (out : List ℕ) → Texts one len out → IsFilesBegun limit one other out
  front : (file none : List ℕ) (which beside : Which) (h : Header) (more : List ℕ) (len : ℕ) (last out : List ℕ) → InOrder one other file which none beside → BeginsHeader file h more → Printed h more len last out
      → IsFilesBegun limit one other out
  behind : (older newer : List ℕ) (first second : Which) (h next : Header) (more rest : List ℕ) (len count : ℕ) (last lines out : List ℕ) → InOrder one other older first newer second → BeginsHeader older h more
      → BeginsHeader newer next rest → IsNextHeader h next → AllPrinted h more len next.link lines → Printed next rest count last out → IsFilesBegun limit one other (lines ++ out)
  whole : (out : List ℕ) (ended : Dumped) → IsFilesDumped limit one other out ended → IsFilesBegun limit one other out

-- ---- what is written
-- a log in two files was printed
abbrev pub IsFilesPrinted : ℕ → List ℕ → List ℕ → Option (List ℕ) → Option (List ℕ) → Dumped → Type 0
IsFilesPrinted limit one other old new ended = (out : List ℕ) × (IsFilesDumped limit one other out ended × Appends old new out)

-- a beginning was written of what is printed of texts at the front of both files, or of all of them
abbrev pub IsFilesCut : ℕ → List ℕ → List ℕ → Option (List ℕ) → Option (List ℕ) → Type 0
IsFilesCut limit one other old new = (out : List ℕ) × (IsFilesBegun limit one other out × BeginsText old new out)

-- why two files of so many bytes, of which each may have so many, were given up: one has more; of another fault nothing is said
abbrev pub IsFilesWhy : ℕ → ℕ → ℕ → DumpFault → Type 0
IsFilesWhy limit one other (Log why) = IsWhy limit one why
IsFilesWhy limit one other (Second why) = IsWhy limit other why
IsFilesWhy limit one other fault = Unit {0}

-- two files were given up: at most a beginning was written, and the fault was told
pub record IsFilesGivenUp (limit : ℕ) (one other : List ℕ) (old new err_old err_new : Option (List ℕ)) (status : ℕ) (fault : DumpFault) : Type 0 where
  pub written : IsFilesCut limit one other old new
  pub why : IsFilesWhy limit (length one) (length other) fault
  pub told : IsTold fault err_old err_new
  pub ended : status ≡ 1

-- what a dump of two files wrote, by its status: 0 and 3 after all was printed, and then nothing is told of a fault; 1 after a fault
abbrev pub IsFilesRun : ℕ → List ℕ → List ℕ → Option (List ℕ) → Option (List ℕ) → Option (List ℕ) → Option (List ℕ) → Dumped → Type 0
IsFilesRun limit one other old new err_old err_new ended =
    (IsFilesPrinted limit one other old new ended × Keeps err_old err_new) ⊎ ((fault : DumpFault) × IsFilesGivenUp limit one other old new err_old err_new ended.status fault)

-- ---- on the way
-- a beginning was written of what is printed of two files whose headers are next to each other
pub data AreBegun (h next : Header) (older newer : List ℕ) (first second : Which) (old new : Option (List ℕ)) : Type 0 where
  front : (len : ℕ) (last out : List ℕ) → Printed h older len last out → BeginsText old new out → AreBegun h next older newer first second old new
  behind : (len count : ℕ) (last lines out : List ℕ) → AllPrinted h older len next.link lines → Printed next newer count last out → BeginsText old new (lines ++ out) → AreBegun h next older newer first second old new
  whole : (out : List ℕ) (ended : Dumped) → AreDumped h next older newer first second out ended → BeginsText old new out → AreBegun h next older newer first second old new

-- they were printed
abbrev pub ArePrinted : Header → Header → List ℕ → List ℕ → Which → Which → Option (List ℕ) → Option (List ℕ) → Dumped → Type 0
ArePrinted h next older newer first second old new ended = (out : List ℕ) × (AreDumped h next older newer first second out ended × Appends old new out)

-- why one of two files was given up, of which each may have so many bytes
abbrev pub IsWhyOfEither : Which → ℕ → ℕ → Which → ℕ → ℕ → DumpFault → Type 0
IsWhyOfEither first limit size second next_limit next_size fault = IsFileWhy first limit size fault ⊎ IsFileWhy second next_limit next_size fault
