-- Sums of a log's texts.
use Rattle.std.proofs.Common.{false, nat_eq, true, ◌≡◌, ◌∙◌, ◌+◌, ◌++◌, ◌≤◌, List, Option, [], ap, append_assoc, append-nil, arith, drop, length, refl, subst, sym, take, ℕ}
use Rattle.std.proofs.lemmas.List.{drop-append-le, drop-drop, length-append, length-drop, take-append-drop, take-append-le, take_all, take_at}
use Rattle.std.specs.Cmp.Lexicographic.{other_text, pointwise, same_text as same_bytes}
use Rattle.std.proofs.lemmas.List.Sums.{fold-append}
use Rattle.std.proofs.Math.Seq.{drop-append_seam}
use Rattle.std.specs.Hash.DefaultHasher as sip
use Rattle.std.specs.Int.{to_be_bytes, w64}
use Rattle.std.specs.declared.hash.DefaultHasher.{DefaultHasher}
use Rattle.xt_ckpt.proofs.OneText.{fault_none, same_text}
use Rattle.xt_ckpt.specs.Fields.{IsFaultAt}
use Rattle.xt_ckpt.specs.Grammar.{Entry, IsTextIn}
use Rattle.xt_ckpt.specs.Reading.{BeginsNoText}
use Rattle.xt_seal.specs.Seal.{BeginsNoSealed, Seals, seal_of, sum_of, text_seal}
use Rattle.xt_seal.specs.Sums.{Sums}

-- what is summed up, by another name
pub seals_as : (s t : Sums) (head before text : List ℕ) → s ≡ t → Seals t head before text → Seals s head before text
seals_as s t head before text same seals = subst (λ x. Seals x head before text) (sym same) seals

-- bytes that are written one behind the other
pub write_append : (s : DefaultHasher) (xs ys : List ℕ) → sip.write (sip.write s xs) ys ≡ sip.write s (xs ++ ys)
unfolding sip.write
write_append s xs ys = sym (fold-append sip.write_byte s xs ys)

-- more of a text
pub noted : (s : DefaultHasher) (head before text piece : List ℕ) → s ≡ sip.write sip.initial (head ++ before ++ text) → sip.write s piece ≡ sip.write sip.initial (head ++ before ++ (text ++ piece))
noted s head before text piece is =
    ap (λ x. sip.write x piece) is ∙ write_append sip.initial (head ++ before ++ text) piece
    ∙ ap (sip.write sip.initial) (append_assoc (head ++ before) text piece)

-- a seal behind a header
pub behind_seal : (s : DefaultHasher) (head seal : List ℕ) → s ≡ sip.write sip.initial head → sip.write s seal ≡ sip.write sip.initial (head ++ seal ++ [])
behind_seal s head seal is =
    ap (λ x. sip.write x seal) is ∙ write_append sip.initial head seal ∙ ap (sip.write sip.initial) (sym (append-nil (head ++ seal)))

-- the sum
pub seal_is : (s : DefaultHasher) (bytes : List ℕ) → s ≡ sip.write sip.initial bytes → to_be_bytes w64 (sip.finish s) ≡ seal_of bytes
unfolding seal_of sum_of
seal_is s bytes is = ap (λ x. to_be_bytes w64 (sip.finish x)) is

-- a seal has 8 bytes
pub length_seal : (bytes : List ℕ) → length (seal_of bytes) ≡ 8
unfolding seal_of
length_seal bytes = refl

-- bytes without a text have none that is sealed
pub none_sealed : (head before input : List ℕ) → BeginsNoText input → BeginsNoSealed head before input
none_sealed head before input none size text more number items begins = none size text (text_seal head before text ++ more) number items begins.is begins.parts

-- where the text that begins the input has no seal behind it, no other has
pub unsealed : (head before input : List ℕ) (len : ℕ) (size : Option ℕ) (number : ℕ) (items : List Entry) → len ≤ length input → IsTextIn size (take len input) number items
    → ((more : List ℕ) → drop len input ≡ text_seal head before (take len input) ++ more → ⊥) → BeginsNoSealed head before input
unsealed head before input len size number items within is other_seal other text more m js begins =
    let same = same_text size other (take len input) text (drop len input) (text_seal head before text ++ more) number m items js is begins.is (take-append-drop len input ∙ begins.parts) in
    let behind : drop len input ≡ text_seal head before text ++ more =
    sym (drop-append_seam (take len input) (drop len input)) ∙ ap (drop (length (take len input))) (take-append-drop len input ∙ begins.parts)
    ∙ ap (λ xs. drop (length xs) (text ++ (text_seal head before text ++ more))) same.0 ∙ drop-append_seam text (text_seal head before text ++ more) in
    other_seal more (behind ∙ ap (λ xs. text_seal head before xs ++ more) (sym same.0))

-- what stands behind a text: its seal, and the rest
pub seal_parts : (input seal text_seal : List ℕ) (len : ℕ) → len ≤ length input → drop len input ≡ seal ++ drop (length seal) (drop len input) → length seal ≡ 8 → seal ≡ text_seal
    → input ≡ take len input ++ (text_seal ++ drop (len + 8) input)
seal_parts input seal text_seal len within front long is =
    let behind : drop (length seal) (drop len input) ≡ drop (len + 8) input = drop-drop (length seal) len input ∙ ap (λ n. drop n input) (omega (arith, long)) in
    sym (take-append-drop len input) ∙ ap (λ xs. take len input ++ xs) (front ∙ ap (λ xs. seal ++ xs) behind ∙ ap (λ xs. xs ++ drop (len + 8) input) is)

-- so there is room for it
pub seal_room : (input seal : List ℕ) (len : ℕ) → len ≤ length input → drop len input ≡ seal ++ drop (length seal) (drop len input) → length seal ≡ 8 → len + 8 ≤ length input
seal_room input seal len within front long = omega (arith, within, long, length-drop len input, ap (λ xs. length xs) front, length-append seal (drop (length seal) (drop len input)))

-- a front that was looked for and found, or not
pub begins_found : (xs front : List ℕ) → true ≡ pointwise nat_eq front (take (length front) xs) → xs ≡ front ++ drop (length front) xs
begins_found xs front is = sym (take-append-drop (length front) xs) ∙ ap (λ ys. ys ++ drop (length front) xs) (sym (same_bytes front (take (length front) xs) is))

pub begins_missed : (xs front more : List ℕ) → false ≡ pointwise nat_eq front (take (length front) xs) → xs ≡ front ++ more → ⊥
begins_missed xs front more is begins = other_text front (take (length front) xs) is (sym (ap (take (length front)) begins ∙ take_at front more (length front) refl))

-- the same of bytes of which so many are looked at: all
pub front_found : (xs seal : List ℕ) (n : ℕ) → length xs ≤ n → true ≡ pointwise nat_eq seal (take (length seal) (take n xs)) → xs ≡ seal ++ drop (length seal) xs
front_found xs seal n whole is = begins_found xs seal (is ∙ ap (λ ys. pointwise nat_eq seal (take (length seal) ys)) (take_all n xs whole))

pub front_missed : (xs seal more : List ℕ) (n : ℕ) → length xs ≤ n → false ≡ pointwise nat_eq seal (take (length seal) (take n xs)) → xs ≡ seal ++ more → ⊥
front_missed xs seal more n whole is front = begins_missed xs seal more (is ∙ ap (λ ys. pointwise nat_eq seal (take (length seal) ys)) (take_all n xs whole)) front

-- a seal that stands behind a front stands in it, where that has so many bytes
front_of : (rest m seal more : List ℕ) → 8 ≤ length rest → length seal ≡ 8 → rest ++ m ≡ seal ++ more → rest ≡ seal ++ drop 8 rest
front_of rest m seal more enough long is = sym (take-append-drop 8 rest) ∙ ap (λ xs. xs ++ drop 8 rest) (sym (take-append-le 8 rest m enough) ∙ ap (take 8) is ∙ take_at seal more 8 long)

-- where another seal stands behind the text that begins the input, that does not change by what follows
pub unsealed_on : (head before input m : List ℕ) (len : ℕ) (size : Option ℕ) (number : ℕ) (items : List Entry) → len ≤ length input → IsTextIn size (take len input) number items → 8 ≤ length (drop len input)
    → ((more : List ℕ) → drop len input ≡ text_seal head before (take len input) ++ more → ⊥) → BeginsNoSealed head before (input ++ m)
unsealed_on head before input m len size number items within is enough other_seal =
    unsealed head before (input ++ m) len size number items (omega (arith, within, length-append input m)) (subst (λ t. IsTextIn size t number items) (sym (take-append-le len input m within)) is)
    (λ more e. other_seal (drop 8 (drop len input)) (front_of (drop len input) m (text_seal head before (take len input)) more enough (length_seal (head ++ before ++ take len input))
    (sym (drop-append-le len input m within) ∙ e ∙ ap (λ xs. text_seal head before xs ++ more) (take-append-le len input m within))))

-- a field that breaks its rule in a front breaks it in the whole
fault_of_front : (front more : List ℕ) (at : ℕ) → IsFaultAt at front → IsFaultAt at (front ++ more)
fault_of_front front more at is = record {
  draft = is.draft;
  front = is.front;
  bytes = is.bytes;
  rest = is.rest ++ more;
  parts = ap (λ t. t ++ more) is.parts ∙ append_assoc (is.front ++ is.bytes) is.rest more;
  place = is.place;
  reads = is.reads;
  more = is.more;
  whole = is.whole;
  broken = is.broken;
}

pub broken_on : (head before input more : List ℕ) (at : ℕ) → IsFaultAt at input → BeginsNoSealed head before (input ++ more)
broken_on head before input more at is = none_sealed head before (input ++ more) (fault_none at (input ++ more) (fault_of_front input more at is))
