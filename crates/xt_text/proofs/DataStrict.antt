-- Data read from their one spelling.
use Rattle.std.proofs.Common.{Err, List, None, Ok, Option, Result, Some, [], ap, arith, cond, drop, get_or, leb, le-leb, length, refl, replicate, sym, take, ℕ, ◌&&◌, ◌*◌, ◌+◌, ◌-◌, ◌/◌, ◌<◌, ◌%◌, ◌++◌, ◌∙◌, ◌≡◌, ◌≤◌, ◌∷◌}
use Rattle.std.specs.Result.{result_ok}
use Rattle.std.proofs.lemmas.Bool.{and_parts, le-ltb, leb-true, lt-ltb, ne_eqb}
use Rattle.std.proofs.lemmas.List.Elements.{All-replicate}
use Rattle.std.proofs.lemmas.List.{length-replicate, take_all}
use Rattle.std.proofs.lemmas.Option.{none-some, same_Some}
use Rattle.std.proofs.lemmas.Slice.Eq.{bytes_eq-Decides}
use Rattle.xt_text.proofs.Lengths.{spelling_fits}
use Rattle.xt_text.proofs.ReadAgain.{data_again}
use Rattle.xt_text.proofs.RunLemmas.{spelling_of_run}
use Rattle.xt_text.proofs.StrictLemmas.{bound, either, number_strict}
use Rattle.xt_text.specs.Buffer.{put}
use Rattle.xt_text.specs.DataReading.{byte_value, hex_value, spelled_data}
use Rattle.xt_text.specs.DataText.{IsData, hex, hex_digit, spelling}
use Rattle.xt_text.specs.Reading.{Gives, number_of, ◌>>=◌}
use Rattle.xt_text.specs.declared.bad_line.BadLine.{BadLine}

-- a hexadecimal digit is that of its value
hex_strict : (c h : ℕ) → hex_value c ≡ Some h → (hex_digit h ≡ c) × (h < 16)
hex_strict c h e =
    either (leb 48 c && leb c 57) (Some (c - 48)) (cond (leb 97 c && leb c 102) (Some (c - 87)) None) (Some h) e
    (λ tens is.
    let low = leb-true 48 c (and_parts (leb 48 c) (leb c 57) tens).0 in
    let high = leb-true c 57 (and_parts (leb 48 c) (leb c 57) tens).1 in
    let value : c - 48 ≡ h = same_Some (c - 48) h is in
    let small : h < 10 = omega (arith, low, high, value) in
    (rw (lt-ltb h 10 small) (omega (arith, low, high, value)), omega (arith, small)))
    (λ other more.
    either (leb 97 c && leb c 102) (Some (c - 87)) None (Some h) more
    (λ letter is.
    let low = leb-true 97 c (and_parts (leb 97 c) (leb c 102) letter).0 in
    let high = leb-true c 102 (and_parts (leb 97 c) (leb c 102) letter).1 in
    let value : c - 87 ≡ h = same_Some (c - 87) h is in
    let big : 10 ≤ h = omega (arith, low, high, value) in
    (rw (le-ltb h 10 big) (omega (arith, low, high, value)), omega (arith, low, high, value)))
    (λ none gone. absurd (none-some h gone)))

-- two hexadecimal digits are those of their byte
byte_strict : (high low b : ℕ) → byte_value high low ≡ Some b → (high ∷ low ∷ [] ≡ hex b) × (b < 256)
byte_strict high low b e =
    bound (hex_value high) (λ h. hex_value low >>= λ l. Some (16 * h + l)) b e (λ h is_high more.
    bound (hex_value low) (λ l. Some (16 * h + l)) b more (λ l is_low is.
    let first = hex_strict high h is_high in
    let second = hex_strict low l is_low in
    let value : 16 * h + l ≡ b = same_Some (16 * h + l) b is in
    let tens : h ≡ b / 16 = omega (arith, first.1, second.1, value) in
    let ones : l ≡ b % 16 = omega (arith, first.1, second.1, value) in (
      ap (λ c. c ∷ low ∷ []) (sym first.0 ∙ ap hex_digit tens) ∙ ap (λ c. hex_digit (b / 16) ∷ c ∷ []) (sym second.0 ∙ ap hex_digit ones),
      omega (arith, first.1, second.1, value),
    )))

-- a byte, a star and a count of four or more are the one spelling of that run
counted_text : (high low b n : ℕ) (digits : List ℕ) → byte_value high low ≡ Some b → number_of digits ≡ Some n → 4 ≤ n → high ∷ low ∷ 42 ∷ digits ≡ spelling (replicate n b)
counted_text high low b n digits is_byte is_count many =
    ap (λ front. front ++ 42 ∷ digits) (byte_strict high low b is_byte).0
    ∙ ap (λ ds. hex b ++ 42 ∷ ds) (number_strict digits n is_count)
    ∙ sym (spelling_of_run b n (ne_eqb n 0 (λ e. omega (arith, many, e))) ∙ rw (le-ltb n 4 many) refl)

-- the same of a text by its places
pub counted_strict : (text : List ℕ) (b n : ℕ) → 3 ≤ length text → byte_value (get_or text 0 0) (get_or text 1 0) ≡ Some b → get_or text 2 0 ≡ 42 → number_of (take (length text - 3) (drop 3 text)) ≡ Some n → 4 ≤ n → text ≡ spelling (replicate n b)
counted_strict [] b n long is_byte is_star is_count many = absurd (omega (arith, long))
counted_strict (h ∷ []) b n long is_byte is_star is_count many = absurd (omega (arith, long))
counted_strict (h ∷ l ∷ []) b n long is_byte is_star is_count many = absurd (omega (arith, long))
counted_strict (h ∷ l ∷ s ∷ digits) b n long is_byte is_star is_count many = ap (λ c. h ∷ l ∷ c ∷ digits) is_star ∙ counted_text h l b n digits is_byte (ap number_of (sym (take_all (length (h ∷ l ∷ s ∷ digits) - 3) digits (omega arith))) ∙ is_count) many

-- what a reader gave, where its value was taken
pub taken : {A : Type 0} (r : Result A BadLine) (said : Option A) (x : A) → Gives r said → Some x ≡ result_ok r → said ≡ Some x
taken (Ok y) said x gives is = gives ∙ sym is
taken (Err e) said x gives is = absurd (none-some x (sym is))

-- the byte of two digits is one
pub byte_small : (high low b : ℕ) → byte_value high low ≡ Some b → b < 256
byte_small high low b is = (byte_strict high low b is).1

-- the one spelling of data gives them
pub spelled_again : (bytes : List ℕ) → IsData bytes → spelled_data (spelling bytes) ≡ Some bytes
spelled_again bytes is = rw (data_again bytes is, (bytes_eq-Decides (spelling bytes) (spelling bytes)).1 refl) refl

-- a byte repeated is data
pub repeated_data : (n b : ℕ) → n ≤ 4096 → b < 256 → IsData (replicate n b)
repeated_data n b few small = record { few = omega (arith, few, length-replicate n b); are_bytes = All-replicate (λ x. x < 256) n b small }

-- so the one spelling of a byte repeated gives it
pub counted_again : (text : List ℕ) (n b : ℕ) → text ≡ spelling (replicate n b) → n ≤ 4096 → b < 256 → spelled_data text ≡ Some (replicate n b)
counted_again text n b is few small = ap spelled_data is ∙ spelled_again (replicate n b) (repeated_data n b few small)

-- data are printed whole
pub printed_whole : (bytes : List ℕ) → length bytes ≤ 4096 → put (Some []) (spelling bytes) ≡ Some (spelling bytes)
printed_whole bytes few = rw (le-leb (length (spelling bytes)) 8448 (omega (arith, spelling_fits bytes few))) refl
