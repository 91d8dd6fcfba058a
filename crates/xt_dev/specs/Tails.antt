-- The end of what is handed on to a log.
use Rattle.std.specs.Prelude.{List, length, ℕ, ◌-◌}

-- how many of these bytes are handed on: all but the last 16
abbrev pub passed : List ℕ → ℕ
passed bytes = length bytes - 16
