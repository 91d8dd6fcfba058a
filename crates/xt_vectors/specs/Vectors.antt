-- Log vectors: the chunks of a block that were logged, and their bytes.
use Rattle.std.specs.Prelude.{Box, List, None, Option, Some, [], map, ℕ}
use Rattle.std.specs.declared.alloc.Global.{Global}
use Rattle.xt_base.specs.Text.{chunk_bytes, content_at}
use Rattle.xt_vectors.specs.declared.vector.Parts.{Parts}

-- chunks, and their bytes, one after another
pub record Vector : Type 0 where
  pub chunks : List ℕ
  pub bytes : List ℕ

-- some chunks of a content
abbrev pub vector : List ℕ → List ℕ → Vector
vector content set = record { chunks = set; bytes = chunk_bytes content set }

-- no chunk
abbrev pub no_vector : Vector
no_vector = record { chunks = []; bytes = [] }

-- what stands in a box, or no chunk
abbrev pub vector_in : Option (Box Parts Global) → Vector
vector_in None = no_vector
vector_in (Some b) = record { chunks = b.value.chunks; bytes = b.value.bytes.items }

-- the chunks of each block
abbrev pub chunks_of : List (ℕ × Vector) → List (ℕ × List ℕ)
chunks_of vs = map (λ v. (v.0, v.1.chunks)) vs

-- the log vector of an item of a commit list, with these contents of a size
abbrev pub vector_of : ℕ → List (ℕ × List ℕ) → ℕ × List ℕ → ℕ × Vector
vector_of size contents e = (e.0, vector (content_at size e.0 contents) e.1)

-- those of a commit list
abbrev pub vectors_of : ℕ → List (ℕ × List ℕ) → List (ℕ × List ℕ) → List (ℕ × Vector)
vectors_of size contents cil = map (vector_of size contents) cil
