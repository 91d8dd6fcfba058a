-- Sets of the chunks that a block has. A set is the rising list of its numbers.
use Rattle.std.specs.Int.{bit_at}
use Rattle.std.specs.Prelude.{Bool, List, [], filter, nat_lt, set, suc, sum_by, zero, ℕ, ◌&&◌, ◌*◌, ◌++◌, ◌+◌, ◌==◌, ◌^◌, ◌||◌, ◌∷◌}
use Rattle.xt_base.specs.Maps.{has}
use Rattle.xt_base.specs.declared.sizes.TheConstants.{CHUNKS, CHUNK_BYTES}

-- the numbers below n
abbrev pub below : ℕ → List ℕ
below zero = []
below (suc n) = below n ++ n ∷ []

-- the chunks that a test holds of
unfoldable pub chunks_where : (ℕ → Bool) → List ℕ
chunks_where p = filter p (below CHUNKS)

-- the chunks of either set
abbrev pub union : List ℕ → List ℕ → List ℕ
union a b = chunks_where (λ k. has a k || has b k)

-- whether a byte of first to first + n - 1 lies in a chunk
abbrev pub touches : ℕ → ℕ → ℕ → Bool
touches first n k = nat_lt 0 n && nat_lt (CHUNK_BYTES * k) (first + n) && nat_lt first (CHUNK_BYTES * k + CHUNK_BYTES)

-- the chunks of which those bytes mark some
abbrev pub marks : ℕ → ℕ → List ℕ
marks first n = chunks_where (touches first n)

-- the set that a word of bits stands for
abbrev pub places_of : ℕ → List ℕ
places_of bits = chunks_where (λ k. bit_at bits k == 1)

-- and the word of bits of a set
abbrev pub word_of : List ℕ → ℕ
word_of set = sum_by (λ k. 2 ^ k) set
