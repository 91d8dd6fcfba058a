-- A buffer of fixed room.
use Rattle.std.specs.Prelude.{List, None, Option, Some, if◌then◌else◌, length, nat_le, ℕ, ◌++◌, ◌-◌}

-- text put behind what a buffer holds; where it does not fit the buffer is full, and stays so
abbrev pub put : Option (List ℕ) → List ℕ → Option (List ℕ)
put None more = None
put (Some held) more = if nat_le (length more) (8448 - length held) then Some (held ++ more) else None
