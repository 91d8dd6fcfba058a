-- In which way two files are read.
use Rattle.std.specs.Prelude.{List, None, Option, Some, [], drop, length, true, ℕ, ◌+◌, ◌≡◌, ◌≤◌, ◌⊎◌}
use Rattle.xt_seal.specs.Headers.{head_bytes}
use Rattle.xt_seal.specs.Seal.{Seals, seal_of}
use Rattle.xt_seal.specs.declared.header.Header.{Header}
use Rattle.xt_seal.specs.declared.header.TheConstants.{HEADER_BYTES}
use Rattle.xt_window.specs.Start.{BeginsHeader, BeginsNoHeader, begins_bare}
use Rattle.xt_window.specs.declared.way.Begun.{Begun}
use Rattle.xt_window.specs.declared.way.Way.{Way}
use Rattle.xt_window.specs.declared.way.Which.{Which}

-- a header is the next one after another, in one life of one volume
pub record IsNextHeader (h next : Header) : Type 0 where
  pub generation : next.generation ≡ h.generation + 1
  pub salt : next.salt ≡ h.salt
  pub name : next.name ≡ h.name
  pub block_size : next.block_size ≡ h.block_size
  pub log_bytes : next.log_bytes ≡ h.log_bytes

-- this header begins the bytes, and of it all is summed up
pub record HasBegun (bytes : List ℕ) (b : Begun) : Type 0 where
  pub begins : BeginsHeader bytes b.header (drop HEADER_BYTES bytes)
  pub seals : Seals b.sealer (head_bytes b.header) (seal_of (head_bytes b.header)) []

-- no header begins the bytes, and they are no more than one has: a file without a text, whatever they are
pub record HasNoBegin (bytes : List ℕ) : Type 0 where
  pub none : BeginsNoHeader bytes
  pub few : length bytes ≤ HEADER_BYTES

-- a log without seals: the first file begins as a text does, and the other has nothing
pub record IsBare (one other : List ℕ) : Type 0 where
  pub word : begins_bare one ≡ true
  pub none : other ≡ []

-- two files that are no log: they are read in none of these ways
pub record IsNoLog (one other : List ℕ) : Type 0 where
  pub bare : IsBare one other → ⊥
  pub linked : (h next : Header) (more behind : List ℕ) → BeginsHeader one h more → BeginsHeader other next behind → (IsNextHeader h next ⊎ IsNextHeader next h) → ⊥
  pub alone : (h : Header) (more : List ℕ) → BeginsHeader one h more → HasNoBegin other → ⊥
  pub alone_too : (h : Header) (more : List ℕ) → BeginsHeader other h more → HasNoBegin one → ⊥
  pub neither : HasNoBegin one → HasNoBegin other → ⊥

-- in which way two files are read; or they are no log
abbrev pub IsWay : List ℕ → List ℕ → Option Way → Type 0
IsWay one other (Some Way.Bare) = IsBare one other
IsWay one other (Some (Way.Linked Which.One h next)) = HasBegun one h × HasBegun other next × IsNextHeader h.header next.header
IsWay one other (Some (Way.Linked Which.Other h next)) = HasBegun other h × HasBegun one next × IsNextHeader h.header next.header
IsWay one other (Some (Way.Alone Which.One h)) = HasNoBegin one × HasBegun other h
IsWay one other (Some (Way.Alone Which.Other h)) = HasBegun one h × HasNoBegin other
IsWay one other (Some Way.Nothing) = (IsBare one other → ⊥) × HasNoBegin one × HasNoBegin other
IsWay one other None = IsNoLog one other

-- the file whose texts are older, or which has none; of two that have none, and beside a log without seals, the second
abbrev pub older_of : Way → Which
older_of (Way.Linked older h next) = older
older_of (Way.Alone older h) = older
older_of other = Which.Other

-- the newer header, or the only one
abbrev pub newest_of : Way → Option Header
newest_of (Way.Linked older h next) = Some next.header
newest_of (Way.Alone older h) = Some h.header
newest_of other = None
