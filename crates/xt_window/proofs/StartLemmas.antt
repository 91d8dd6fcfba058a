-- How a file begins.
use Rattle.std.proofs.Common.{arith, ◌≡◌, ◌∙◌, ◌+◌, ◌++◌, ◌≤◌, List, None, Option, Some, [], ap, append-nil, append_assoc, drop, inl, inr, length, refl, subst, sym, take, ◌⊎◌, ◌||◌, ℕ}
use Rattle.std.proofs.lemmas.List.{drop-append-le, length-append, length-drop, take-append-drop, take-append-le, take_at}
use Rattle.std.specs.List.{starts_with}
use Rattle.std.specs.Cmp.Lexicographic.{pointwise}
use Rattle.std.specs.Prelude.{IfSome, ◌<◌, codes, nat_eq}
use Rattle.xt_seal.proofs.HeaderLemmas.{length_head, length_header}
use Rattle.xt_seal.proofs.SealLemmas.{length_seal}
use Rattle.xt_seal.specs.Headers.{IsHeader, head_bytes, header_bytes}
use Rattle.xt_seal.specs.Seal.{seal_of}
use Rattle.xt_seal.specs.declared.header.Header.{Header}
use Rattle.xt_window.specs.Start.{BeginsHeader, BeginsNoHeader, IsFilled, IsShort, IsStart, IsStartOf, IsStarted, begins_bare, past}
use Rattle.xt_window.specs.Window.{ahead, Held, IsRefilled, IsTied}
use Rattle.xt_window.specs.declared.start.Start.{Start}

-- a header has 64 bytes
pub header_length : (h : Header) → IsHeader h → length (header_bytes h) ≡ 64
header_length h fits = omega (arith, length-append (head_bytes h) (seal_of (head_bytes h)), length_head h fits, length_seal (head_bytes h))

pub header_room : (bytes more : List ℕ) (h : Header) → BeginsHeader bytes h more → 64 ≤ length bytes
header_room bytes more h is = subst (λ xs. 64 ≤ length xs) (sym is.parts) (length_header h more is.fits)

-- a file that a header begins has more bytes than that
pub header_over : (bytes more : List ℕ) (h : Header) → BeginsHeader bytes h more → 65 ≤ length bytes
header_over bytes more h is = subst (λ xs. 65 ≤ length xs) (sym is.parts) (omega (arith, length-append (header_bytes h) more, header_length h is.fits, is.some))

-- one alone begins no file
pub header_alone : (bytes : List ℕ) → length bytes ≤ 64 → BeginsNoHeader bytes
header_alone bytes few h more is = absurd (omega (arith, few, header_over bytes more h is))

-- one with more behind it does
pub header_begins : (bytes : List ℕ) (h : Header) → IsHeader h → bytes ≡ header_bytes h ++ drop 64 bytes → 64 < length bytes → BeginsHeader bytes h (drop 64 bytes)
header_begins bytes h fits parts over = record { fits = fits; parts = parts; some = omega (arith, over, length-drop 64 bytes) }

-- ---- a front, and the whole
header_of_front : (front more : List ℕ) (h : Header) → BeginsHeader front h (drop 64 front) → BeginsHeader (front ++ more) h (drop 64 (front ++ more))
header_of_front front more h is = record {
  fits = is.fits;
  parts = ap (λ xs. xs ++ more) is.parts ∙ append_assoc (header_bytes h) (drop 64 front) more
      ∙ ap (λ xs. header_bytes h ++ xs) (sym (drop-append-le 64 front more (header_room front (drop 64 front) h is)));
  some = subst (λ xs. 1 ≤ length xs) (sym (drop-append-le 64 front more (header_room front (drop 64 front) h is))) (omega (arith, is.some, length-append (drop 64 front) more));
}

-- a header that begins the whole begins a front that has so many bytes
header_in_front : (front more behind : List ℕ) (h : Header) → 65 ≤ length front → BeginsHeader (front ++ more) h behind → BeginsHeader front h (drop 64 front)
header_in_front front more behind h long is =
    let room : 64 ≤ length front = omega (arith, long) in
    let first : take 64 front ≡ header_bytes h = sym (take-append-le 64 front more room) ∙ ap (take 64) is.parts ∙ take_at (header_bytes h) behind 64 (header_length h is.fits) in
    record { fits = is.fits; parts = sym (take-append-drop 64 front) ∙ ap (λ xs. xs ++ drop 64 front) first; some = omega (arith, long, length-drop 64 front) }

-- and so does the word
word_of_front : (front more : List ℕ) → 4 ≤ length front → begins_bare front ≡ begins_bare (front ++ more)
word_of_front front more long = ap (λ t. pointwise nat_eq (codes "XCP1") t || pointwise nat_eq (codes "XCP2") t) (sym (take-append-le 4 front more long))

short_of_front : (front more : List ℕ) (o : Option ℕ) → 65 ≤ length front → IsShort front o → IsShort (front ++ more) o
short_of_front front more (Some count) long is = absurd (omega (arith, long, is.0, is.1))
short_of_front front more None long is = omega (arith, is, length-append front more)

-- how a front begins, so does the whole: it is the front, or that has more bytes than a header
start_of_front : (front more : List ℕ) (start : Start) → (65 ≤ length front) ⊎ (more ≡ []) → IsStartOf front start → IsStartOf (front ++ more) start
start_of_front front more start (inr none) is = subst (λ xs. IsStartOf xs start) (sym (ap (λ xs. front ++ xs) none ∙ append-nil front)) is
start_of_front front more (Start.Sealed h sums) (inl long) is = (header_of_front front more h is.0, is.1)
start_of_front front more (Start.Other seen) (inl long) is = record {
  none = λ h behind begins. is.none h (drop 64 front) (header_in_front front more behind h long begins);
  word = is.word ∙ word_of_front front more (omega (arith, long));
  short = short_of_front front more seen.short long is.short;
}

past_room : (bytes : List ℕ) (start : Start) → IsStartOf bytes start → past start ≤ length bytes
past_room bytes (Start.Sealed h sums) is = header_room bytes (drop 64 bytes) h is.0
past_room bytes (Start.Other seen) is = omega arith

-- ---- how a log begins, where it is known
start_known : (old mid new : Held) (log left : List ℕ) (start : Start) → mid.offset ≡ old.offset → mid.bytes ++ left ≡ log → IsTied mid (Some left) → IsFilled 65 mid → IsStarted mid start new → IsStart old log start new (Some left)
start_known old mid new log left start place joined tied filled is = record {
  is = subst (λ xs. IsStartOf xs start) joined (start_of_front mid.bytes left start (enough filled) is.0);
  place = ap (λ h. h.offset) is.1 ∙ ap (λ n. n + past start) place;
  ahead = ap (λ h. Some (h.bytes ++ left)) is.1 ∙ ap Some (sym (drop-append-le (past start) mid.bytes left (past_room mid.bytes start is.0)) ∙ ap (drop (past start)) joined);
}
  where
    enough : IsFilled 65 mid → (65 ≤ length mid.bytes) ⊎ (left ≡ [])
    enough (inl long) = inl long
    enough (inr over) = inr (tied over)

pub is_start : (old mid new : Held) (had left : Option (List ℕ)) (start : Start) → IsRefilled old mid had left → IsFilled 65 mid → IsStarted mid start new → IfSome (ahead old had) (λ log. IsStart old log start new left)
is_start old mid new None left start read filled is = tt
is_start old mid new (Some xs) None start read filled is = absurd read.same
is_start old mid new (Some xs) (Some ys) start read filled is = start_known old mid new (old.bytes ++ xs) ys start read.place read.same read.tied filled is
