-- What is wrong with a word: its parts are the decimals of no number that they may be.
use Rattle.std.proofs.Common.{rules, arith, ap, refl, subst, sym, Bool, IfSome, IsSomeAnd, List, None, Option, Some, false, length, true, ℕ, ◌∙◌, ◌<◌, ◌≡◌, ◌≢◌, ◌≤◌, ◌^◌}
use Rattle.std.proofs.lemmas.Fmt.{decimal_injective}
use Rattle.std.specs.Fmt.{decimal}
use Rattle.std.specs.Prelude.{is_some}
use Rattle.std.specs.String.{string_bytes}
use denote.Bor.{Bor}
use Rattle.xt_base.specs.Form.{is_size}
use Rattle.xt_base.specs.declared.sizes.TheConstants.{BLOCK_BYTES, LEAST_LOG, MOST_BLOCKS, MOST_LOG}
use Rattle.xt_volumes.proofs.VolumeLemmas.{decimal_has_no_colon}
use Rattle.xt_volumes.specs.Volumes.{IsCut, IsOutside, IsWordFault, SaysSize, Spells, WordParts, last_of, last_part, parted, text_of}
use Rattle.xt_volumes.specs.declared.fault.WordFault.{WordFault}
use Rattle.xt_volumes.specs.declared.fault.WordFault.TheVariants.{Blocks, Form, HomeFile, LogBytes, LogFile, Size, Slot, Zeros}
use Rattle.xt_volumes.specs.declared.volume.Volume.{Volume}

-- the size of a block is a number of 32 bits
small_size : (n : ℕ) → is_size (Some n) ≡ true → n < 2 ^ 32
small_size n one = search (rules, one)

-- where no number was read, even loosely, there is something that is no size
pub size_wrong : (said : Option (Bor (List ℕ))) (found : Option ℕ) → ((n : ℕ) → n < 2 ^ 32 → SaysSize n said → found ≡ Some n) → is_some found ≡ false → IsSomeAnd (text_of said) (λ text. (n : ℕ) → is_size (Some n) ≡ true → text ≢ decimal n)
size_wrong None found finds none = let is : found ≡ Some BLOCK_BYTES = finds BLOCK_BYTES (omega arith) refl in search (rules, none, is)
size_wrong (Some said) found finds none = λ n one is. let read : found ≡ Some n = finds n (small_size n one) is in search (rules, none, read)

-- what a word of a volume says of the size of a block
abbrev said_size : Bool → Volume → Option (List ℕ)
said_size true v = Some (decimal v.size)
said_size false v = None

last_is : (says_size : Bool) (v : Volume) → last_of says_size v ≡ last_part (string_bytes v.log) (said_size says_size v)
last_is true v = refl
last_is false v = refl

-- the parts of such a word
abbrev parts_of : Bool → Volume → WordParts
parts_of says_size v = record { slot = decimal v.slot; log_bytes = decimal v.log_bytes; blocks = decimal v.blocks; home = string_bytes v.home; log = string_bytes v.log; size = said_size says_size v }

cut_spelled : (word : List ℕ) (v : Volume) (s : Spells word v) → IsCut word (parts_of s.says_size v)
cut_spelled word v s = record {
  word_is = subst (λ last. word ≡ parted (decimal v.slot) (parted (decimal v.log_bytes) (parted (decimal v.blocks) (parted (string_bytes v.home) last)))) (last_is s.says_size v) s.word_is;
  no_colon = (
    decimal_has_no_colon v.slot (omega (arith, s.in_range.0)),
    decimal_has_no_colon v.log_bytes (omega (arith, s.in_range.1)),
    decimal_has_no_colon v.blocks s.in_range.2,
    s.home.no_colon,
    s.log.no_colon,
  );
}

-- the decimal of a number that is outside is that of none inside
log_outside : (m n : ℕ) → m < 2 ^ 32 → (LEAST_LOG ≤ m → m ≤ MOST_LOG → ⊥) → LEAST_LOG ≤ n → n ≤ MOST_LOG → decimal m ≢ decimal n
log_outside m n small outside least most is =
    let same : m ≡ n = decimal_injective m n (omega (arith, small)) (omega (arith, most)) is in
    outside (omega (arith, same, least)) (omega (arith, same, most))

blocks_outside : (m n : ℕ) → m < 2 ^ 64 → (1 ≤ m → m ≤ MOST_BLOCKS → ⊥) → 1 ≤ n → n ≤ MOST_BLOCKS → decimal m ≢ decimal n
blocks_outside m n small outside least most is =
    let same : m ≡ n = decimal_injective m n small (omega (arith, most)) is in
    outside (omega (arith, same, least)) (omega (arith, same, most))

size_outside : (m n : ℕ) → m < 2 ^ 32 → is_size (Some m) ≡ false → is_size (Some n) ≡ true → decimal m ≢ decimal n
size_outside m n small outside one is =
    let low = small_size n one in
    let same : m ≡ n = decimal_injective m n (omega (arith, small)) (omega (arith, low)) is in
    let wrong : is_size (Some n) ≡ false = subst (λ k. is_size (Some k) ≡ false) same outside in
    search (rules, wrong, one)

-- a size that is wrong is said: one that is left out is right
size_said : (says_size : Bool) (v : Volume) → (says_size ≡ false → v.size ≡ BLOCK_BYTES) → v.size < 2 ^ 32 → is_size (Some v.size) ≡ false → IsSomeAnd (said_size says_size v) (λ text. (n : ℕ) → is_size (Some n) ≡ true → text ≢ decimal n)
size_said true v left_out small outside = λ n one. size_outside v.size n small outside one
size_said false v left_out small outside = let wrong : is_size (Some BLOCK_BYTES) ≡ false = subst (λ k. is_size (Some k) ≡ false) (left_out refl) outside in search (rules, wrong)

-- a word that spells a volume of which a size is wrong has a part that is wrong
wrong_part : (word : List ℕ) (v : Volume) (fault : WordFault) → Spells word v → IsOutside v fault → IsWordFault word fault
wrong_part word v LogBytes s outside = (_, cut_spelled word v s, λ n. log_outside v.log_bytes n s.in_range.1 outside)
wrong_part word v Blocks s outside = (_, cut_spelled word v s, λ n. blocks_outside v.blocks n s.in_range.2 outside)
wrong_part word v Size s outside = (_, cut_spelled word v s, size_said s.says_size v s.left_out s.in_range.3 outside)
wrong_part word v Form s outside = absurd outside
wrong_part word v Slot s outside = absurd outside
wrong_part word v HomeFile s outside = absurd outside
wrong_part word v LogFile s outside = absurd outside
wrong_part word v Zeros s outside = absurd outside

pub spelled_wrong : (word : List ℕ) (v : Volume) (fault : Option WordFault) → Spells word v → IfSome fault (IsOutside v) → IfSome fault (IsWordFault word)
spelled_wrong word v None s outside = tt
spelled_wrong word v (Some fault) s outside = wrong_part word v fault s outside
