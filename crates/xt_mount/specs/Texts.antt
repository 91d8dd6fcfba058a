-- What a checkpoint says, by the log vectors of the commit list.
use Rattle.std.specs.Prelude.{List, All, length, map, ℕ, ◌≤◌}
use Rattle.xt_ckpt.specs.Grammar.{Entry}
use Rattle.xt_vectors.specs.Vectors.{Vector}
use Rattle.xt_base.specs.declared.sizes.TheConstants.{PIECE_BYTES, TEXT_PIECES}

-- what a checkpoint says by log vectors, each with its block
abbrev pub entry_of : ℕ × Vector → Entry
entry_of v = record { block = v.0; chunks = v.1.chunks; content = v.1.bytes }

abbrev pub entries_of : List (ℕ × Vector) → List Entry
entries_of vs = map entry_of vs

-- pieces such as a log device takes: not too many, and none is empty or too long
pub record ArePieces (ps : List (List ℕ)) : Type 0 where
  pub few : length ps ≤ TEXT_PIECES
  pub some : All (λ p. 1 ≤ length p) ps
  pub short : All (λ p. length p ≤ PIECE_BYTES) ps
