-- Recovery over what was read of a log: entries, as the grammar gives them.
use Rattle.std.specs.Prelude.{List, None, Option, Some, [], drop, if◌then◌else◌, length, take, unwrap_or, ℕ, ◌==◌, ◌∷◌}
use Rattle.xt_base.specs.declared.sizes.TheConstants.{CHUNK_BYTES}
use Rattle.xt_ckpt.specs.Grammar.{Entry}
use Rattle.xt_recovery.specs.Log.{Image}

-- the bytes that an item has of a chunk: those of its chunks stand one after another
abbrev pub chunk_in : List ℕ → List ℕ → ℕ → Option (List ℕ)
chunk_in [] content k = None
chunk_in (c ∷ cs) content k = if k == c then Some (take CHUNK_BYTES content) else chunk_in cs (drop CHUNK_BYTES content) k

-- what a text has of a block
abbrev pub entry_of : ℕ → List Entry → Option Entry
entry_of b [] = None
entry_of b (e ∷ es) = if b == e.block then Some e else entry_of b es

-- the first of two that is there
abbrev pub or_older : Option (List ℕ) → Option (List ℕ) → Option (List ℕ)
or_older None older = older
or_older (Some v) older = Some v

-- what an item says of a chunk, over what older texts say: a cancel hides them
abbrev pub chunk_over : Option Entry → ℕ → Option (List ℕ) → Option (List ℕ)
chunk_over None k older = older
chunk_over (Some e) k older = if length e.chunks == 0 then None else or_older (chunk_in e.chunks e.content k) older

-- what the texts say of a chunk, the newest first
abbrev pub chunk_in_texts : List (List Entry) → ℕ → ℕ → Option (List ℕ)
chunk_in_texts [] b k = None
chunk_in_texts (t ∷ ts) b k = chunk_over (entry_of b t) k (chunk_in_texts ts b k)

-- the image after recovery
abbrev pub replayed_image : List (List Entry) → Image → Image
replayed_image texts home b k = unwrap_or (chunk_in_texts texts b k) (home b k)
