-- The name by which the log of a volume tells whose it is.
use Rattle.std.specs.Path.{path_file_name}
use Rattle.std.specs.Prelude.{List, [], if◌then◌else◌, length, nat_le, replicate, take, unwrap_or, ℕ, ◌++◌, ◌-◌}
use Rattle.xt_seal.specs.Seal.{seal_of}

-- the last name of a path; nothing where it has none
abbrev pub last_name : List ℕ → List ℕ
last_name path = unwrap_or (path_file_name path) []

-- a name of at most 16 bytes, and zeros behind it
abbrev pub padded : List ℕ → List ℕ
padded name = name ++ replicate (16 - length name) 0

-- a longer name: its first 8 bytes, and the sum of all
abbrev pub shortened : List ℕ → List ℕ
shortened name = take 8 name ++ seal_of name

-- a name as the 16 bytes that the header of a log has of it
abbrev pub header_name : List ℕ → List ℕ
header_name name = if nat_le (length name) 16 then padded name else shortened name
