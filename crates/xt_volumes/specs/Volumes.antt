-- Volumes as the command line spells them.
use denote.Ref.{Bor}
use Rattle.std.specs.Fmt.{decimal}
use Rattle.std.specs.Prelude.{All, Bool, IsSomeAnd, List, None, Option, Some, [], false, get_or, is_some, length, nat_lt, slice_index, true, ℕ, ◌++◌, ◌<◌, ◌≡◌, ◌≢◌, ◌≤◌, ◌^◌, ◌∷◌}
use Rattle.std.specs.List.{AllPairs, Contains, prefix_len}
use Rattle.std.specs.String.{string_bytes}
use Rattle.xt_base.specs.Form.{is_size}
use Rattle.xt_base.specs.declared.sizes.TheConstants.{BLOCK_BYTES, LEAST_LOG, MOST_BLOCKS, MOST_LOG, SLOTS}
use Rattle.xt_base.specs.declared.steps.Errno.{Errno}
use Rattle.xt_base.specs.declared.steps.Errno.TheVariants.{Busy, Invalid}
use Rattle.xt_volumes.specs.declared.fault.WordFault.{WordFault}
use Rattle.xt_volumes.specs.declared.fault.WordFault.TheVariants.{Blocks, Form, HomeFile, LogBytes, LogFile, Size, Slot, Zeros}
use Rattle.xt_volumes.specs.declared.volume.Volume.{Volume}

-- two texts with a colon between them
abbrev pub parted : List ℕ → List ℕ → List ℕ
parted xs ys = xs ++ 58 ∷ ys

-- what a word of a volume says last: the name of the file of its log, and maybe the size of a block
abbrev pub last_of : Bool → Volume → List ℕ
last_of true v = parted (string_bytes v.log) (decimal v.size)
last_of false v = string_bytes v.log

-- the word of a volume: its slot, the bytes of its log, its blocks, and the names of the files of its home device and of its log; and the size of
-- a block, or not
abbrev pub spelled_as : Bool → Volume → List ℕ
spelled_as says_size v = parted (decimal v.slot) (parted (decimal v.log_bytes) (parted (decimal v.blocks) (parted (string_bytes v.home) (last_of says_size v))))

-- no colon stands in a text
abbrev pub HasNoColon : List ℕ → Type 0
HasNoColon text = (i : ℕ) → i < length text → slice_index text i ≢ 58

-- the name of a file: it is not empty, and no colon stands in it
pub record IsFileName (name : List ℕ) : Type 0 where
  pub some : 0 < length name
  pub no_colon : HasNoColon name

-- a word spells a volume: it says the size of a block, or leaves it out where that is 4,096
pub record Spells (word : List ℕ) (v : Volume) : Type 0 where
  pub says_size : Bool
  pub word_is : word ≡ spelled_as says_size v
  pub left_out : says_size ≡ false → v.size ≡ BLOCK_BYTES
  pub in_range : (v.slot < SLOTS) × (v.log_bytes < 2 ^ 32) × (v.blocks < 2 ^ 64) × (v.size < 2 ^ 32)
  pub home : IsFileName (string_bytes v.home)
  pub log : IsFileName (string_bytes v.log)

-- a word spells no volume
abbrev pub SpellsNone : List ℕ → Type 0
SpellsNone word = (v : Volume) → Spells word v → ⊥

-- of these words the first that spells no volume has so many before it
pub record IsFirstBad (words : List (Bor (List ℕ))) (number : ℕ) : Type 0 where
  pub there : number < length words
  pub bad : (word : Bor (List ℕ)) → SpellsNone (get_or words number word).now
  pub before : (i : ℕ) → i < number → (word : Bor (List ℕ)) → (v : Volume) × Spells (get_or words i word).now v

-- what a word says of the size of a block, if it does: it is this one, and one that is left out is 4,096
abbrev pub SaysSize : ℕ → Option (Bor (List ℕ)) → Type 0
SaysSize size None = size ≡ BLOCK_BYTES
SaysSize size (Some said) = said.now ≡ decimal size

-- these are the parts of a word of a volume, which says the size of a block just where there is a part for it
abbrev pub ArePartsOf : List ℕ → Volume → Bor (List ℕ) × Bor (List ℕ) × Bor (List ℕ) × Bor (List ℕ) × Bor (List ℕ) × Option (Bor (List ℕ)) → Type 0
ArePartsOf word v parts =
    (parts.0.now ≡ decimal v.slot)
    × (parts.1.now ≡ decimal v.log_bytes)
    × (parts.2.now ≡ decimal v.blocks)
    × (parts.3.now ≡ string_bytes v.home)
    × (parts.4.now ≡ string_bytes v.log)
    × SaysSize v.size parts.5
    × (word ≡ spelled_as (is_some parts.5) v)

-- ---- what is wrong with a word
-- the parts of a word, as texts; the last is there only where a colon stands before it
pub record WordParts : Type 0 where
  pub slot : List ℕ
  pub log_bytes : List ℕ
  pub blocks : List ℕ
  pub home : List ℕ
  pub log : List ℕ
  pub size : Option (List ℕ)

-- the name of the file of a log, and what is said behind it of the size of a block
abbrev pub last_part : List ℕ → Option (List ℕ) → List ℕ
last_part log None = log
last_part log (Some size) = parted log size

-- a word is cut into these parts at its first five colons, or at its four
pub record IsCut (word : List ℕ) (p : WordParts) : Type 0 where
  pub word_is : word ≡ parted p.slot (parted p.log_bytes (parted p.blocks (parted p.home (last_part p.log p.size))))
  pub no_colon : HasNoColon p.slot × HasNoColon p.log_bytes × HasNoColon p.blocks × HasNoColon p.home × HasNoColon p.log

-- a text that may be there
abbrev pub text_of : Option (Bor (List ℕ)) → Option (List ℕ)
text_of None = None
text_of (Some text) = Some text.now

-- parts that were found, as texts
abbrev pub texts_of : Bor (List ℕ) × Bor (List ℕ) × Bor (List ℕ) × Bor (List ℕ) × Bor (List ℕ) × Option (Bor (List ℕ)) → WordParts
texts_of p = record { slot = p.0.now; log_bytes = p.1.now; blocks = p.2.now; home = p.3.now; log = p.4.now; size = text_of p.5 }

-- a part of a word is wrong: it is the decimal of no number that it may be, or no file's name
abbrev pub IsWrong : WordFault → WordParts → Type 0
IsWrong Slot p = (n : ℕ) → n < SLOTS → p.slot ≢ decimal n
IsWrong LogBytes p = (n : ℕ) → LEAST_LOG ≤ n → n ≤ MOST_LOG → p.log_bytes ≢ decimal n
IsWrong Blocks p = (n : ℕ) → 1 ≤ n → n ≤ MOST_BLOCKS → p.blocks ≢ decimal n
IsWrong HomeFile p = p.home ≡ []
IsWrong LogFile p = p.log ≡ []
IsWrong Size p = IsSomeAnd p.size (λ said. (n : ℕ) → is_size (Some n) ≡ true → said ≢ decimal n)
IsWrong other p = ⊥

-- what is wrong with a word: it is cut nowhere, or one of its parts is wrong, or it is just not spelled so
abbrev pub IsWordFault : List ℕ → WordFault → Type 0
IsWordFault word Form = (p : WordParts) → IsCut word p → ⊥
IsWordFault word Zeros = SpellsNone word
IsWordFault word other = (p : WordParts) × IsCut word p × IsWrong other p

-- a size of a volume that no mount may have
abbrev pub IsOutside : Volume → WordFault → Type 0
IsOutside v LogBytes = LEAST_LOG ≤ v.log_bytes → v.log_bytes ≤ MOST_LOG → ⊥
IsOutside v Blocks = 1 ≤ v.blocks → v.blocks ≤ MOST_BLOCKS → ⊥
IsOutside v Size = is_size (Some v.size) ≡ false
IsOutside v other = ⊥

-- a volume is spelled by one of these words
abbrev pub IsNamed : List (Bor (List ℕ)) → Volume → Type 0
IsNamed words v = (word : Bor (List ℕ)) × Contains words word × Spells word.now v

-- a mount of these sizes is not refused
abbrev pub HasSizes : Volume → Type 0
HasSizes v = (LEAST_LOG ≤ v.log_bytes) × (v.log_bytes ≤ MOST_LOG) × (1 ≤ v.blocks) × (v.blocks ≤ MOST_BLOCKS) × (is_size (Some v.size) ≡ true)

-- the slots rise, so none is there twice
abbrev pub AreAscending : List Volume → Type 0
AreAscending vs = AllPairs (λ u v. u.slot < v.slot) vs

-- how many of some volumes stand before the place of a slot
abbrev pub place_of : ℕ → List Volume → ℕ
place_of slot vs = prefix_len (λ v. nat_lt v.slot slot) vs

-- why a volume can't be mounted beside some others: one of them has its slot; or none has, and its sizes are wrong
abbrev pub IsRefused : List Volume → Volume → Errno → Type 0
IsRefused vs v Busy = (other : Volume) × Contains vs other × (other.slot ≡ v.slot)
IsRefused vs v Invalid = (HasSizes v → ⊥) × All (λ other. other.slot ≢ v.slot) vs
IsRefused vs v other = ⊥

-- why a slot of the volumes that these words spell can't be mounted
abbrev pub IsTaken : List (Bor (List ℕ)) → ℕ → Errno → Type 0
IsTaken words slot errno = (v : Volume) × (before : List Volume) × (v.slot ≡ slot) × IsNamed words v × All (IsNamed words) before × IsRefused before v errno
