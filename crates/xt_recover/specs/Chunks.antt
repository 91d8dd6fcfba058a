-- The bytes of chunks at their places in a content.
use Rattle.std.specs.Prelude.{List, [], drop, take, ℕ, ◌*◌, ◌∷◌}
use Rattle.xt_base.specs.Calls.{overwritten}
use Rattle.xt_base.specs.Text.{chunk}
use Rattle.xt_base.specs.declared.sizes.TheConstants.{CHUNK_BYTES}

-- bytes of some chunks, which stand one after another, put at their places
abbrev pub with_chunks : List ℕ → List ℕ → List ℕ → List ℕ
with_chunks [] bytes old = old
with_chunks (c ∷ cs) bytes old = with_chunks cs (drop CHUNK_BYTES bytes) (overwritten (CHUNK_BYTES * c) (take CHUNK_BYTES bytes) old)

-- a content, with some chunks of another one in the place of its own
abbrev pub merged : List ℕ → List ℕ → List ℕ → List ℕ
merged [] new old = old
merged (c ∷ cs) new old = merged cs new (overwritten (CHUNK_BYTES * c) (chunk new c) old)
