-- Bytes, and a stretch of one byte among them.
use Rattle.std.proofs.Common.{ap, ap₂, drop, length, nat_eq, replicate, sym, take, take-append-drop, true, List, ℕ, ◌+◌, ◌++◌, ◌≡◌, ◌∙◌}
use Rattle.std.proofs.Math.Seq.{drop-append_seam}
use Rattle.std.proofs.lemmas.List.{append_assoc, length-append, length-replicate, replicate-append-replicate}
use Rattle.std.specs.Cmp.Lexicographic.{pointwise, same_text}

-- what starts with a block
pub block_front : (block bytes after : List ℕ) → pointwise nat_eq (take (length block) bytes) block ≡ true → after ≡ drop (length block) bytes → bytes ≡ block ++ after
block_front block bytes after same rest = sym (take-append-drop (length block) bytes) ∙ ap₂ (λ a b. a ++ b) (same_text (take (length block) bytes) block (sym same)) (sym rest)

-- a byte stands so many times, and as many times more as a block is long
pub block_more : (byte n : ℕ) (bytes rest block after : List ℕ) → bytes ≡ replicate n byte ++ rest → rest ≡ block ++ after → block ≡ replicate 128 byte → bytes ≡ replicate (n + 128) byte ++ after
block_more byte n bytes rest block after is front all =
    is
    ∙ ap (λ r. replicate n byte ++ r) (front ∙ ap (λ b. b ++ after) all)
    ∙ sym (append_assoc (replicate n byte) (replicate 128 byte) after)
    ∙ ap (λ b. b ++ after) (replicate-append-replicate n 128 byte)

-- how many there are then
pub counted : (byte n : ℕ) (bytes rest : List ℕ) → bytes ≡ replicate n byte ++ rest → n + length rest ≡ length bytes
counted byte n bytes rest is = sym (ap length is ∙ length-append (replicate n byte) rest ∙ ap (λ k. k + length rest) (length-replicate n byte))

-- what stands behind so many
behind : (byte n : ℕ) (bytes rest : List ℕ) → bytes ≡ replicate n byte ++ rest → drop n bytes ≡ rest
behind byte n bytes rest is =
    ap (λ b. drop n b) is
    ∙ ap (λ k. drop k (replicate n byte ++ rest)) (sym (length-replicate n byte))
    ∙ drop-append_seam (replicate n byte) rest

-- so that nothing else need be named
pub rest_behind : (byte n : ℕ) (bytes rest : List ℕ) → bytes ≡ replicate n byte ++ rest → bytes ≡ replicate n byte ++ drop n bytes
rest_behind byte n bytes rest is = is ∙ ap (λ r. replicate n byte ++ r) (sym (behind byte n bytes rest is))
