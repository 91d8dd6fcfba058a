-- What data are kept as.
use Rattle.std.specs.Prelude.{List, drop, length, replicate, take, ℕ, ◌+◌, ◌++◌, ◌≡◌, ◌≤◌}
use Rattle.xt_base.specs.declared.content.Kept.{Kept}
use Rattle.xt_base.specs.declared.content.Stretch.{Stretch}

-- the bytes themselves: the first so many of those that are kept, one byte so many times, and the others
abbrev pub kept_bytes : Kept → List ℕ
kept_bytes k = take k.first k.bytes.items ++ replicate k.count k.byte ++ drop k.first k.bytes.items

-- at a place among some bytes one of them stands so many times
pub record IsStretch (bytes : List ℕ) (s : Stretch) : Type 0 where
  pub within : s.first + s.count ≤ length bytes
  pub equal : bytes ≡ take s.first bytes ++ replicate s.count s.byte ++ drop (s.first + s.count) bytes
