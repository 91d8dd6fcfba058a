-- What is held of a log: its bytes, as far as they came, and then what its texts say.
use Rattle.std.specs.Prelude.{List, None, Option, Some, [], ℕ, ◌++◌}
use Rattle.xt_c_log.specs.Texts.{Texts}
use Rattle.xt_c_log.specs.declared.held_log.State.{State}
use Rattle.xt_c_log.specs.declared.held_log.State.TheVariants as Kept

pub data Log : Type 0 where
  -- of one file, or of the first of two
  Bytes : List ℕ → Log
  -- of both files
  Both : List ℕ → List ℕ → Log
  Says : Texts → Log

-- as the code keeps it
abbrev pub log_of : State → Log
log_of (Kept.Came bytes) = Bytes bytes.items
log_of (Kept.CameBoth one other) = Both one.items other.items
log_of (Kept.Read texts) = Says texts

-- what its texts say, where they were read
abbrev pub texts_of : Option Log → Option Texts
texts_of None = None
texts_of (Some (Bytes bytes)) = None
texts_of (Some (Both one other)) = None
texts_of (Some (Says texts)) = Some texts

-- a log with a piece more, behind the bytes that came of its last file; where its texts were read it takes none
abbrev pub fed : List ℕ → Log → Option Log
fed piece (Bytes bytes) = Some (Bytes (bytes ++ piece))
fed piece (Both one other) = Some (Both one (other ++ piece))
fed piece (Says texts) = None

-- the same of a handle; where nothing is held no bytes came yet
abbrev pub fed_of : List ℕ → Option Log → Option Log
fed_of piece None = Some (Bytes piece)
fed_of piece (Some log) = fed piece log

-- a log of which the other file comes next, where it has not come yet
abbrev pub turned : Log → Option Log
turned (Bytes bytes) = Some (Both bytes [])
turned (Both one other) = None
turned (Says texts) = None

-- the same of a handle
abbrev pub turned_of : Option Log → Option Log
turned_of None = Some (Both [] [])
turned_of (Some log) = turned log
