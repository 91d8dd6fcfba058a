-- What the log of a volume may lose.
use Rattle.std.specs.Prelude.{Bool, None, Option, Some, nat_le, true, ℕ}

-- a device loses nothing, or only what stands before more than so many bytes of texts
abbrev pub loses_only_beyond : ℕ → Option ℕ → Bool
loses_only_beyond size None = true
loses_only_beyond size (Some counted) = nat_le size counted
