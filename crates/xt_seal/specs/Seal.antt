-- A log whose texts are sealed: behind each text stands a sum, over the header of the log, the seal before, and the text.
use Rattle.std.specs.Hash.DefaultHasher as sip
use Rattle.std.specs.Int.{to_be_bytes, w64}
use Rattle.std.specs.Prelude.{List, Option, [], ℕ, ◌++◌, ◌∷◌, ◌≡◌}
use Rattle.xt_ckpt.specs.Grammar.{Entry, IsTextIn}
use Rattle.xt_seal.specs.Sums.{Sums}

-- the sum of bytes: SipHash-1-3 with both keys 0
unfoldable pub sum_of : List ℕ → ℕ
sum_of bytes = sip.finish (sip.write sip.initial bytes)

-- the sum, as it is written
unfoldable pub seal_of : List ℕ → List ℕ
seal_of bytes = to_be_bytes w64 (sum_of bytes)

-- the seal behind a text, over the header of its log, the seal before it, which of the first text is the header's own, and the text
abbrev pub text_seal : List ℕ → List ℕ → List ℕ → List ℕ
text_seal head before text = seal_of (head ++ before ++ text)

-- what is summed up so far: a header, the seal behind it or the last text, and what stands behind that
abbrev pub Seals : Sums → List ℕ → List ℕ → List ℕ → Type 0
Seals s head before text = (s.head ≡ sip.write sip.initial head) × (s.text ≡ sip.write sip.initial (head ++ before ++ text))

-- bytes behind a seal begin with a text and its seal
pub record BeginsSealed (head before : List ℕ) (size : Option ℕ) (bytes text : List ℕ) (number : ℕ) (items : List Entry) (more : List ℕ) : Type 0 where
  pub is : IsTextIn size text number items
  pub parts : bytes ≡ text ++ (text_seal head before text ++ more)

-- they do not, whatever the text says of the size of a block
abbrev pub BeginsNoSealed : List ℕ → List ℕ → List ℕ → Type 0
BeginsNoSealed head before bytes = (size : Option ℕ) (text more : List ℕ) (number : ℕ) (items : List Entry) → BeginsSealed head before size bytes text number items more → ⊥

-- they are read as these texts, the oldest first, which all say this of the size of a block; the first that has no seal ends the log, whatever stands there
abbrev pub ReadsSealed : Option ℕ → List ℕ → List ℕ → List ℕ → List (List Entry) → Type 0
ReadsSealed size head before bytes [] = BeginsNoSealed head before bytes
ReadsSealed size head before bytes (t ∷ ts) =
    (text more : List ℕ) × (number : ℕ) × BeginsSealed head before size bytes text number t more × ReadsSealed size head (text_seal head before text) more ts

-- texts behind a seal: each with its own behind it, in a chain
abbrev pub sealed_texts : List ℕ → List ℕ → List (List ℕ) → List ℕ
sealed_texts head before [] = []
sealed_texts head before (text ∷ texts) = text ++ (text_seal head before text ++ sealed_texts head (text_seal head before text) texts)

-- the last seal of such a chain; where it has no text, the seal before
abbrev pub last_seal : List ℕ → List ℕ → List (List ℕ) → List ℕ
last_seal head before [] = before
last_seal head before (text ∷ texts) = last_seal head (text_seal head before text) texts
