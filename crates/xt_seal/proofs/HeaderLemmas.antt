-- The fields of a header.
use Rattle.std.proofs.Common.{◌≡◌, ◌∙◌, ◌+◌, ◌++◌, ◌≤◌, List, ap, append_assoc, append-nil, arith, drop, length, refl, sym, take, ℕ}
use Rattle.std.proofs.lemmas.List.{drop_all, drop_at, length-append, take_at}
use Rattle.std.proofs.lemmas.Nat.{from_be_bytes-to_be_bytes_4, from_be_bytes-to_be_bytes_8}
use Rattle.std.specs.Int.{from_be_bytes, to_be_bytes, w32, w64}
use Rattle.std.specs.Prelude.{codes, replicate}
use Rattle.xt_seal.proofs.SealLemmas.{length_seal}
use Rattle.xt_seal.specs.Headers.{IsHeader, head_bytes, header_bytes}
use Rattle.xt_seal.specs.Seal.{seal_of}
use Rattle.xt_seal.specs.declared.header.Header.{Header}
use borrow.Rule.Slice.PartMut.{put_mid}

-- bytes that are put in place of the last ones
pub put_last : (n k : ℕ) (xs zs ys : List ℕ) → length xs ≡ n → length zs ≡ k → put_mid n k (xs ++ zs) ys ≡ xs ++ ys
put_last n k xs zs ys front back =
    ap (λ t. t ++ (ys ++ drop k (drop n (xs ++ zs)))) (take_at xs zs n front) ∙ ap (λ t. xs ++ (ys ++ drop k t)) (drop_at xs zs n front) ∙ ap (λ t. xs ++ (ys ++ t)) (drop_all k zs (omega (arith, back)))
    ∙ ap (λ t. xs ++ t) (append-nil ys)

-- the numbers of a header
abbrev numbers : Header → List ℕ
numbers h = codes "XCL1" ++ (to_be_bytes w32 h.block_size ++ (to_be_bytes w32 h.log_bytes ++ (to_be_bytes w32 0 ++ (to_be_bytes w64 h.generation ++ to_be_bytes w64 h.salt))))

-- the fields at their places
pub head_is : (h : Header) (magic size log generation salt link name : List ℕ) → magic ≡ codes "XCL1" → size ≡ to_be_bytes w32 h.block_size → log ≡ to_be_bytes w32 h.log_bytes
    → generation ≡ to_be_bytes w64 h.generation → salt ≡ to_be_bytes w64 h.salt → link ≡ h.link → name ≡ h.name → length link ≡ 8
    → put_mid 40 16 (put_mid 32 8 (put_mid 24 8 (put_mid 16 8 (put_mid 8 4 (put_mid 4 4 (magic ++ replicate 52 0) size) log) generation) salt) link) name ≡ head_bytes h
unfolding head_bytes
head_is h magic size log generation salt link name a b c d e f g long =
    rw (a, b, c, d, e, f, g) (put_last 40 16 (numbers h ++ h.link) (replicate 16 0) h.name (length-append (numbers h) h.link ∙ ap (λ n. 32 + n) (ap length (sym f) ∙ long)) refl)

-- how long they are
pub length_head : (h : Header) → IsHeader h → length (head_bytes h) ≡ 56
unfolding head_bytes
length_head h is = omega (arith, length-append h.link h.name, is.link, is.name)

pub length_header : (h : Header) (rest : List ℕ) → IsHeader h → 64 ≤ length (header_bytes h ++ rest)
length_header h rest is = omega (arith, length-append (header_bytes h) rest, length-append (head_bytes h) (seal_of (head_bytes h)), length_head h is, length_seal (head_bytes h))

-- the fields of bytes that a header begins
pub block_size_is : (h : Header) (input rest : List ℕ) → IsHeader h → input ≡ head_bytes h ++ rest → from_be_bytes w32 (take 4 (drop 4 input)) ≡ h.block_size
unfolding head_bytes
block_size_is h input rest fits is = ap (λ t. from_be_bytes w32 (take 4 (drop 4 t))) is ∙ from_be_bytes-to_be_bytes_4 h.block_size fits.block_size

pub log_bytes_is : (h : Header) (input rest : List ℕ) → IsHeader h → input ≡ head_bytes h ++ rest → from_be_bytes w32 (take 4 (drop 8 input)) ≡ h.log_bytes
unfolding head_bytes
log_bytes_is h input rest fits is = ap (λ t. from_be_bytes w32 (take 4 (drop 8 t))) is ∙ from_be_bytes-to_be_bytes_4 h.log_bytes fits.log_bytes

pub generation_is : (h : Header) (input rest : List ℕ) → IsHeader h → input ≡ head_bytes h ++ rest → from_be_bytes w64 (take 8 (drop 16 input)) ≡ h.generation
unfolding head_bytes
generation_is h input rest fits is = ap (λ t. from_be_bytes w64 (take 8 (drop 16 t))) is ∙ from_be_bytes-to_be_bytes_8 h.generation fits.generation

pub salt_is : (h : Header) (input rest : List ℕ) → IsHeader h → input ≡ head_bytes h ++ rest → from_be_bytes w64 (take 8 (drop 24 input)) ≡ h.salt
unfolding head_bytes
salt_is h input rest fits is = ap (λ t. from_be_bytes w64 (take 8 (drop 24 t))) is ∙ from_be_bytes-to_be_bytes_8 h.salt fits.salt

pub link_is : (h : Header) (input rest : List ℕ) → IsHeader h → input ≡ head_bytes h ++ rest → take 8 (drop 32 input) ≡ h.link
unfolding head_bytes
link_is h input rest fits is = ap (λ t. take 8 (drop 32 t)) is ∙ ap (take 8) (append_assoc h.link h.name rest) ∙ take_at h.link (h.name ++ rest) 8 fits.link

pub name_is : (h : Header) (input rest : List ℕ) → IsHeader h → input ≡ head_bytes h ++ rest → take 16 (drop 40 input) ≡ h.name
unfolding head_bytes
name_is h input rest fits is =
    ap (λ t. take 16 (drop 40 t)) is ∙ ap (λ t. take 16 (drop 8 t)) (append_assoc h.link h.name rest) ∙ ap (take 16) (drop_at h.link (h.name ++ rest) 8 fits.link)
    ∙ take_at h.name rest 16 fits.name

-- a header is its fields
pub header_is : (size log generation salt : ℕ) (link name : List ℕ) (h : Header) → size ≡ h.block_size → log ≡ h.log_bytes → generation ≡ h.generation → salt ≡ h.salt → link ≡ h.link → name ≡ h.name
    → ◌≡◌ {A = Header} (record { block_size = size; log_bytes = log; generation = generation; salt = salt; link = link; name = name }) h
header_is size log generation salt link name h a b c d e f = rw (a, b, c, d, e, f) refl
