-- In which way two files are read.
use Rattle.std.proofs.Common.{arith, ◌≡◌, ◌∙◌, ◌+◌, ◌++◌, ◌<◌, ◌≤◌, Bool, List, None, Option, Some, [], ap, append_assoc, drop, false, inl, inr, length, refl, subst, sym, true, true≢false, ◌⊎◌, ℕ}
use Rattle.xt_seal.proofs.HeaderLemmas.{block_size_is, generation_is, header_is, link_is, log_bytes_is, name_is, salt_is}
use Rattle.xt_seal.specs.Headers.{head_bytes, header_bytes}
use Rattle.xt_seal.specs.Seal.{seal_of}
use Rattle.xt_seal.specs.declared.header.Header.{Header}
use Rattle.xt_window.proofs.StartLemmas.{header_room}
use Rattle.xt_window.specs.Start.{BeginsHeader, IsShort, IsStartOf, IsUnsealed, begins_bare}
use Rattle.xt_window.specs.Ways.{HasBegun, HasNoBegin, IsBare, IsNextHeader, IsNoLog}
use Rattle.xt_seal.specs.Sums.{Sums}
use Rattle.std.specs.Prelude.{is_some}
use Rattle.xt_window.specs.declared.start.Start.{Start}
use Rattle.xt_window.specs.declared.start.Unsealed.{Unsealed}
use Rattle.xt_window.specs.declared.way.Begun.{Begun}

-- two headers that begin the same bytes are one
pub one_header : (h g : Header) (bytes more rest : List ℕ) → BeginsHeader bytes h more → BeginsHeader bytes g rest → h ≡ g
one_header h g bytes more rest one two =
    let a : bytes ≡ head_bytes h ++ (seal_of (head_bytes h) ++ more) = one.parts ∙ append_assoc (head_bytes h) (seal_of (head_bytes h)) more in
    let b : bytes ≡ head_bytes g ++ (seal_of (head_bytes g) ++ rest) = two.parts ∙ append_assoc (head_bytes g) (seal_of (head_bytes g)) rest in
    let c : List ℕ = seal_of (head_bytes h) ++ more in
    let d : List ℕ = seal_of (head_bytes g) ++ rest in
    header_is h.block_size h.log_bytes h.generation h.salt h.link h.name g (sym (block_size_is h bytes c one.fits a) ∙ block_size_is g bytes d two.fits b)
    (sym (log_bytes_is h bytes c one.fits a) ∙ log_bytes_is g bytes d two.fits b) (sym (generation_is h bytes c one.fits a) ∙ generation_is g bytes d two.fits b)
    (sym (salt_is h bytes c one.fits a) ∙ salt_is g bytes d two.fits b) (sym (link_is h bytes c one.fits a) ∙ link_is g bytes d two.fits b)
    (sym (name_is h bytes c one.fits a) ∙ name_is g bytes d two.fits b)

-- what is said of a start, by its kind
pub begun_of : (bytes : List ℕ) (start : Start) (h : Header) (sums : Sums) → start ≡ Start.Sealed h sums → IsStartOf bytes start → HasBegun bytes (record { header = h; sealer = sums })
begun_of bytes start h sums is of = let one : IsStartOf bytes (Start.Sealed h sums) = subst (IsStartOf bytes) is of in record { begins = one.0; seals = one.1 }

pub unsealed_of : (bytes : List ℕ) (start : Start) (seen : Unsealed) → start ≡ Start.Other seen → IsStartOf bytes start → IsUnsealed bytes seen
unsealed_of bytes start seen is of = subst (IsStartOf bytes) is of

pub long_of : (bytes : List ℕ) (o : Option ℕ) → is_some o ≡ false → IsShort bytes o → 64 < length bytes
long_of bytes (Some count) some is = absurd (true≢false some)
long_of bytes None some is = is

-- a header begins no text
pub bare_no_header : (bytes more : List ℕ) (h : Header) → begins_bare bytes ≡ true → BeginsHeader bytes h more → ⊥
unfolding head_bytes
bare_no_header bytes more h word is = true≢false (sym word ∙ ap begins_bare is.parts)

-- ---- no log
-- two headers of which none is next to the other
pub no_pair : (one other : Begun) (first second : List ℕ) → HasBegun first one → HasBegun second other → (IsNextHeader one.header other.header → ⊥) → (IsNextHeader other.header one.header → ⊥) → IsNoLog first second
no_pair one other first second a b not_next not_before = record {
  bare = λ bare. absurd (omega (arith, header_room second (drop 64 second) other.header b.begins, ap (λ xs. length xs) bare.none));
  linked = λ h next more behind begins follows. by_order h next (one_header h one.header first more (drop 64 first) begins a.begins) (one_header next other.header second behind (drop 64 second) follows b.begins);
  alone = λ h more begins none. none.none other.header (drop 64 second) b.begins;
  alone_too = λ h more begins none. none.none one.header (drop 64 first) a.begins;
  neither = λ none none_too. none.none one.header (drop 64 first) a.begins;
}
  where
    by_order : (h next : Header) → h ≡ one.header → next ≡ other.header → (IsNextHeader h next ⊎ IsNextHeader next h) → ⊥
    by_order h next x y (inl is) = not_next (subst (λ g. IsNextHeader g other.header) x (subst (λ g. IsNextHeader h g) y is))
    by_order h next x y (inr is) = not_before (subst (λ g. IsNextHeader other.header g) x (subst (λ g. IsNextHeader g h) y is))

-- a header, and beside it more than a header that is none
pub no_one_beside : (one : Begun) (first second : List ℕ) (seen : Unsealed) → HasBegun first one → IsUnsealed second seen → 64 < length second → IsNoLog first second
no_one_beside one first second seen a b long = record {
  bare = λ bare. absurd (omega (arith, long, ap (λ xs. length xs) bare.none));
  linked = λ h next more behind begins follows way. b.none next behind follows;
  alone = λ h more begins none. absurd (omega (arith, long, none.few));
  alone_too = λ h more begins none. b.none h more begins;
  neither = λ none none_too. none.none one.header (drop 64 first) a.begins;
}

pub no_other_beside : (other : Begun) (first second : List ℕ) (seen : Unsealed) → IsUnsealed first seen → HasBegun second other → 64 < length first → IsNoLog first second
no_other_beside other first second seen a b long = record {
  bare = λ bare. absurd (omega (arith, header_room second (drop 64 second) other.header b.begins, ap (λ xs. length xs) bare.none));
  linked = λ h next more behind begins follows way. a.none h more begins;
  alone = λ h more begins none. a.none h more begins;
  alone_too = λ h more begins none. absurd (omega (arith, long, none.few));
  neither = λ none none_too. none_too.none other.header (drop 64 second) b.begins;
}

-- neither has a header, and one of them has more bytes than one
pub no_begin_beside : (first second : List ℕ) (one other : Unsealed) → IsUnsealed first one → IsUnsealed second other → (IsBare first second → ⊥) → (64 < length first) ⊎ (64 < length second) → IsNoLog first second
no_begin_beside first second one other a b bare long = record {
  bare = bare;
  linked = λ h next more behind begins follows way. a.none h more begins;
  alone = λ h more begins none. a.none h more begins;
  alone_too = λ h more begins none. b.none h more begins;
  neither = λ none none_too. by_size long none.few none_too.few;
}
  where
    by_size : (64 < length first) ⊎ (64 < length second) → length first ≤ 64 → length second ≤ 64 → ⊥
    by_size (inl more) few few_too = absurd (omega (arith, more, few))
    by_size (inr more) few few_too = absurd (omega (arith, more, few_too))
