-- What was gathered of a log in two files, and why it was not.
use Rattle.std.specs.Prelude.{IfSome, List, None, Option, Some, [], drop, false, length, ℕ, ◌+◌, ◌++◌, ◌<◌, ◌≡◌, ◌≢◌, ◌≤◌, ◌⊎◌}
use Rattle.xt_ckpt.specs.Grammar.{Entry}
use Rattle.xt_recover.specs.FilesRead.{EndsTorn, EndsWith, HasSealedTexts, IsRead}
use Rattle.xt_recover.specs.Gathering.{SaysOther, is_of_log}
use Rattle.xt_recover.specs.Overlaid.{Overlaid, nothing, with_texts}
use Rattle.xt_recover.specs.Reading.{IsBrokenAt, IsMixedAt}
use Rattle.xt_recover.specs.declared.files.Wanted.{Wanted}
use Rattle.xt_recover.specs.declared.files.Whose.{Whose}
use Rattle.xt_recover.specs.declared.gather.LogCounts.{LogCounts}
use Rattle.xt_recover.specs.declared.gather.LogFault.{LogFault}
use Rattle.xt_recover.specs.declared.gather_files.Source.{Source}
use Rattle.xt_seal.specs.Headers.{head_bytes}
use Rattle.xt_seal.specs.Seal.{BeginsNoSealed, BeginsSealed, Seals, seal_of}
use Rattle.xt_seal.specs.declared.header.Header.{Header}
use Rattle.xt_window.specs.Rest.{HasLater}
use Rattle.xt_window.specs.Start.{BeginsHeader, IsStartOf, past}
use Rattle.xt_window.specs.Ways.{HasNoBegin, IsBare, IsNextHeader, IsNoLog, IsWay}
use Rattle.xt_window.specs.Window.{Held, ahead}
use Rattle.xt_window.specs.declared.rest.TheConstants.{REST_BYTES}
use Rattle.xt_window.specs.declared.start.Start.{Start}
use Rattle.xt_window.specs.declared.way.Way.{Way}
use Rattle.xt_window.specs.declared.way.Which.{Which}

-- some texts are read so, with so many bytes behind them; they were laid one after another, and counted
pub record IsGatheredAs (Reads : Option ℕ → List (List Entry) → ℕ → Type 0) (counts : LogCounts) (l : Overlaid) : Type 0 where
  pub texts : List (List Entry)
  pub read : Reads l.size texts counts.rest
  pub count : counts.texts ≡ length texts
  pub laid : l ≡ with_texts texts (nothing l.size)

-- those of a log in two files, of which this one is older
abbrev pub AreGathered : List ℕ → List ℕ → Which → LogCounts → Overlaid → Type 0
AreGathered one other older = IsGatheredAs (λ size texts rest. IsRead older size one other texts rest)

-- what is said of two logs that are known, where they are
abbrev pub IfBoth : Option (List ℕ) → Option (List ℕ) → (List ℕ → List ℕ → Type 0) → Type 0
IfBoth one other P = IfSome one (λ a. IfSome other (λ b. P a b))

-- ---- whose log it is
-- a header says what is wanted
abbrev pub IsSaid : Option ℕ → ℕ → Type 0
IsSaid None said = Unit {0}
IsSaid (Some asked) said = asked ≡ said

pub record IsMet (w : Wanted) (h : Header) : Type 0 where
  pub name : w.name ≡ h.name
  pub block_size : IsSaid w.block_size h.block_size
  pub log_bytes : IsSaid w.log_bytes h.log_bytes

-- of the files' headers the newer one does, where one is wanted
abbrev pub IsOfWanted : Option Wanted → List ℕ → List ℕ → Type 0
IsOfWanted None one other = Unit {0}
IsOfWanted (Some w) one other = (h : Header) (more : List ℕ) → (BeginsHeader one h more ⊎ BeginsHeader other h more) → IsMet w h

-- a header of the files does not
pub record IsForeign (w : Whose) (one other : List ℕ) : Type 0 where
  pub more : List ℕ
  pub begins : BeginsHeader one w.found more ⊎ BeginsHeader other w.found more
  pub unmet : IsMet w.wanted w.found → ⊥

-- the fault tells that a header does not say what is wanted
abbrev pub IsUnmet : Wanted → Header → LogFault → Type 0
IsUnmet w h (LogFault.Foreign whose) = (whose ≡ record { found = h; wanted = w }) × (IsMet w h → ⊥)
IsUnmet w h fault = ⊥

-- ---- where texts end that no loss of power ends there
-- a text with its due seal begins the bytes, and says something else of the size of a block
pub record BeginsOtherSealed (size : Option ℕ) (head before bytes : List ℕ) : Type 0 where
  pub other : Option ℕ
  pub differs : other ≢ size
  pub text : List ℕ
  pub more : List ℕ
  pub number : ℕ
  pub items : List Entry
  pub begins : BeginsSealed head before other bytes text number items more

-- what this file's texts, and those of the older one in front of them, say of the size of a block, the text behind them does not say
pub record IsOtherSize (size : Option ℕ) (at : ℕ) (bytes : List ℕ) (front : List (List Entry)) (h : Header) : Type 0 where
  pub texts : List (List Entry)
  pub last : List ℕ
  pub rest : List ℕ
  pub file : HasSealedTexts size bytes h texts last rest
  pub place : at + length rest ≡ length bytes
  pub some : 1 ≤ length (front ++ texts)
  pub other : BeginsOtherSealed size (head_bytes h) last rest

-- the texts of a file end at this offset
pub record EndsAt (at : ℕ) (bytes : List ℕ) (h : Header) (last rest : List ℕ) : Type 0 where
  pub size : Option ℕ
  pub texts : List (List Entry)
  pub file : HasSealedTexts size bytes h texts last rest
  pub place : at + length rest ≡ length bytes
  pub ends : BeginsNoSealed (head_bytes h) last rest

-- behind them stands more than a loss of power leaves, or a later text
pub record IsRottenEnd (at : ℕ) (bytes : List ℕ) (h : Header) : Type 0 where
  pub last : List ℕ
  pub rest : List ℕ
  pub texts : EndsAt at bytes h last rest
  pub why : (REST_BYTES < length rest) ⊎ HasLater (head_bytes h) rest

-- the newer file does not go on behind their last seal
pub record IsUnlinked (at : ℕ) (bytes : List ℕ) (h next : Header) : Type 0 where
  pub last : List ℕ
  pub rest : List ℕ
  pub texts : EndsAt at bytes h last rest
  pub other : last ≢ next.link

-- the same of a file beside another: of an older one, of the newer one of two, and of the one that has all texts
pub record IsRottenOlder (at : ℕ) (older newer : List ℕ) : Type 0 where
  pub header : Header
  pub next : Header
  pub more : List ℕ
  pub beside : BeginsHeader newer next more
  pub follows : IsNextHeader header next
  pub why : ((size : Option ℕ) × IsOtherSize size at older [] header) ⊎ IsUnlinked at older header next

pub record IsRottenNewer (at : ℕ) (older newer : List ℕ) : Type 0 where
  pub header : Header
  pub next : Header
  pub follows : IsNextHeader header next
  pub size : Option ℕ
  pub front : List (List Entry)
  pub first : EndsWith size older header front next.link
  pub why : IsOtherSize size at newer front next ⊎ IsRottenEnd at newer next

pub record IsRottenAlone (at : ℕ) (bare one : List ℕ) : Type 0 where
  pub none : HasNoBegin bare
  pub header : Header
  pub why : ((size : Option ℕ) × IsOtherSize size at one [] header) ⊎ IsRottenEnd at one header

abbrev pub IsRotten : ℕ → List ℕ → List ℕ → Type 0
IsRotten at bytes beside = IsRottenOlder at bytes beside ⊎ (IsRottenNewer at beside bytes ⊎ IsRottenAlone at beside bytes)

abbrev pub IsRottenAt : Which → ℕ → List ℕ → List ℕ → Type 0
IsRottenAt Which.One at one other = IsRotten at one other
IsRottenAt Which.Other at one other = IsRotten at other one

-- why a log in two files was not gathered; of want of memory, and of a reader, nothing is said
abbrev pub IsWhyLogFiles : List ℕ → List ℕ → LogFault → Type 0
IsWhyLogFiles one other (LogFault.Broken offset) = IsBare one other × IsBrokenAt offset one
IsWhyLogFiles one other (LogFault.Mixed offset) = IsBare one other × IsMixedAt offset one
IsWhyLogFiles one other (LogFault.Rotten which offset) = IsRottenAt which offset one other
IsWhyLogFiles one other LogFault.Strange = IsNoLog one other
IsWhyLogFiles one other (LogFault.Foreign whose) = IsForeign whose one other
IsWhyLogFiles one other fault = Unit {0}

-- ---- files that are looked at
-- so much of a file is taken, and the rest of it is ahead
pub record IsPast (taken : ℕ) (bytes : List ℕ) (w : Held) (left : Option (List ℕ)) : Type 0 where
  pub place : w.offset ≡ taken
  pub same : ahead w left ≡ Some (drop taken bytes)

-- a file is opened: it begins so, and a header is taken
pub record IsOpened (bytes : List ℕ) (start : Start) (w : Held) (left : Option (List ℕ)) : Type 0 where
  pub is : IsStartOf bytes start
  pub past : IsPast (past start) bytes w left

-- of the files that are read on, just the headers are taken
abbrev pub ArePlaced : Way → List ℕ → List ℕ → Held → Held → Option (List ℕ) → Option (List ℕ) → Type 0
ArePlaced Way.Bare one other w v left beside = IsPast 0 one w left
ArePlaced (Way.Linked older h next) one other w v left beside = IsPast 64 one w left × IsPast 64 other v beside
ArePlaced (Way.Alone Which.One h) one other w v left beside = IsPast 64 other v beside
ArePlaced (Way.Alone Which.Other h) one other w v left beside = IsPast 64 one w left
ArePlaced Way.Nothing one other w v left beside = Unit {0}

-- two files are read in this way, and are looked at
pub record AreLookedAt (way : Way) (one other : List ℕ) (w v : Held) (left beside : Option (List ℕ)) : Type 0 where
  pub is : IsWay one other (Some way)
  pub placed : ArePlaced way one other w v left beside

-- ---- a file that is read
-- its header is taken, and nothing else
pub record IsBegun (bytes : List ℕ) (s : Source) (left : Option (List ℕ)) : Type 0 where
  pub more : List ℕ
  pub begins : BeginsHeader bytes s.header more
  pub last : s.last ≡ seal_of (head_bytes s.header)
  pub same : ahead s.window left ≡ Some more
  pub place : s.window.offset + length more ≡ length bytes
  pub seals : Seals s.sealer (head_bytes s.header) s.last []

-- so far it was read, behind these texts of an older one: so many texts in all, which were laid
pub record IsReadSoFar (bytes : List ℕ) (front : List (List Entry)) (s : Source) (left : Option (List ℕ)) (count : ℕ) (l : Overlaid) : Type 0 where
  pub done : List (List Entry)
  pub rest : List ℕ
  pub file : HasSealedTexts l.size bytes s.header done s.last rest
  pub same : ahead s.window left ≡ Some rest
  pub place : s.window.offset + length rest ≡ length bytes
  pub seals : Seals s.sealer (head_bytes s.header) s.last []
  pub counted : count ≡ length (front ++ done)
  pub laid : l ≡ with_texts (front ++ done) (nothing l.size)

-- it was read to its last text, of the same header, and what texts in front of it say of the size of a block is said still
pub record IsReadUp (bytes : List ℕ) (front : List (List Entry)) (old new : Source) (left : Option (List ℕ)) (before count : ℕ) (was l : Overlaid) : Type 0 where
  pub so_far : IsReadSoFar bytes front new left count l
  pub ends : BeginsNoSealed (head_bytes new.header) new.last so_far.rest
  pub header : new.header ≡ old.header
  pub kept : 1 ≤ before → l.size ≡ was.size

-- the older file was read up to this seal
pub record IsOlderRead (bytes : List ℕ) (h : Header) (link : List ℕ) (texts : ℕ) (l : Overlaid) : Type 0 where
  pub front : List (List Entry)
  pub first : EndsWith l.size bytes h front link
  pub count : texts ≡ length front
  pub laid : l ≡ with_texts front (nothing l.size)

-- and the newer one behind it
pub record IsNewerRead (bytes : List ℕ) (front : List (List Entry)) (h : Header) (before : ℕ) (was : Overlaid) (counts : LogCounts) (l : Overlaid) : Type 0 where
  pub behind : List (List Entry)
  pub second : EndsTorn l.size bytes h behind counts.rest
  pub count : counts.texts ≡ length (front ++ behind)
  pub laid : l ≡ with_texts (front ++ behind) (nothing l.size)
  pub kept : 1 ≤ before → l.size ≡ was.size

-- why a text was not laid behind so many: it says something else, which this fault tells, or memory was refused
abbrev pub IsWhyNotBehind : ℕ → Option ℕ → Overlaid → LogFault → LogFault → Type 0
IsWhyNotBehind count size l rotten fault = (fault ≡ LogFault.Memory) ⊎ ((fault ≡ rotten) × SaysOther count size l)

-- why bytes behind the last text are no torn end, which this fault tells; of other faults nothing is said
abbrev pub IsWhyNotTorn : List ℕ → List ℕ → LogFault → LogFault → Type 0
IsWhyNotTorn head rest rotten fault = (is_of_log fault ≡ false) ⊎ ((fault ≡ rotten) × ((REST_BYTES < length rest) ⊎ HasLater head rest))

-- why a file's texts were not laid, behind some that say this of the size of a block
abbrev pub IsWhySealed : List ℕ → List (List Entry) → Option ℕ → Which → Header → LogFault → Type 0
IsWhySealed bytes front was which h (LogFault.Rotten file at) = (file ≡ which) × (size : Option ℕ) × IsOtherSize size at bytes front h × (1 ≤ length front → size ≡ was)
IsWhySealed bytes front was which h LogFault.Memory = Unit {0}
IsWhySealed bytes front was which h LogFault.Read = Unit {0}
IsWhySealed bytes front was which h other = ⊥

-- of the older file
abbrev pub IsWhyOlder : List ℕ → Which → Header → List ℕ → LogFault → Type 0
IsWhyOlder bytes which h link (LogFault.Rotten file at) =
    (file ≡ which) × (((size : Option ℕ) × IsOtherSize size at bytes [] h) ⊎ ((last rest : List ℕ) × EndsAt at bytes h last rest × (last ≢ link)))
IsWhyOlder bytes which h link LogFault.Memory = Unit {0}
IsWhyOlder bytes which h link LogFault.Read = Unit {0}
IsWhyOlder bytes which h link other = ⊥

-- of the newer one
abbrev pub IsWhyNewer : List ℕ → List (List Entry) → Option ℕ → Which → Header → LogFault → Type 0
IsWhyNewer bytes front was which h (LogFault.Rotten file at) =
    (file ≡ which) × (((size : Option ℕ) × IsOtherSize size at bytes front h × (1 ≤ length front → size ≡ was)) ⊎ IsRottenEnd at bytes h)
IsWhyNewer bytes front was which h LogFault.Memory = Unit {0}
IsWhyNewer bytes front was which h LogFault.Read = Unit {0}
IsWhyNewer bytes front was which h other = ⊥

-- why two files that go on one from another were not gathered
abbrev pub IsWhyLinked : List ℕ → List ℕ → Which → Which → LogFault → Type 0
IsWhyLinked older newer which beside (LogFault.Rotten file at) = ((file ≡ which) × IsRottenOlder at older newer) ⊎ ((file ≡ beside) × IsRottenNewer at older newer)
IsWhyLinked older newer which beside LogFault.Memory = Unit {0}
IsWhyLinked older newer which beside LogFault.Read = Unit {0}
IsWhyLinked older newer which beside fault = ⊥
