-- What is judged of bytes behind a seal.
use Rattle.std.specs.Prelude.{List, Option, [], drop, length, take, ℕ, ◌+◌, ◌++◌, ◌<◌, ◌≡◌, ◌≤◌, ◌⊎◌}
use Rattle.xt_ckpt.specs.Fields.{IsUnfinished}
use Rattle.xt_ckpt.specs.Grammar.{Entry, IsTextIn, entries}
use Rattle.xt_ckpt.specs.Reading.{Begins}
use Rattle.xt_ckpt.specs.declared.reading.Checkpoint.{Checkpoint}
use Rattle.xt_seal.specs.Seal.{BeginsNoSealed, BeginsSealed, Seals, text_seal}
use Rattle.xt_seal.specs.Sums.{Sums}
use Rattle.xt_seal.specs.declared.reading.Sealed.{Sealed}

-- the first `len` bytes are the text of the checkpoint, its seal stands behind them, and that is summed up
pub record IsFoundSealed (head before input : List ℕ) (c : Checkpoint) (len : ℕ) (new : Sums) : Type 0 where
  pub room : len + 8 ≤ length input
  pub begins : BeginsSealed head before c.size input (take len input) c.no (entries c.items.items) (drop (len + 8) input)
  pub next : Seals new head (text_seal head before (take len input)) []

-- a text with its seal; none, whatever follows; or none yet
abbrev pub IsSealedNext : List ℕ → List ℕ → List ℕ → Sealed → Sums → Type 0
IsSealedNext head before input (Sealed.Text c len) new = IsFoundSealed head before input c len new
IsSealedNext head before input Sealed.Nothing new = (more : List ℕ) → BeginsNoSealed head before (input ++ more)
IsSealedNext head before input Sealed.More new = BeginsNoSealed head before input

-- unless a text was found, nothing more is summed up
abbrev pub IsSameUnless : Sealed → Sums → Sums → Type 0
IsSameUnless (Sealed.Text c len) old new = Unit {0}
IsSameUnless other old new = new ≡ old

-- a text that was found begins the input, whatever was summed up
abbrev pub IsTextFound : List ℕ → Sealed → Type 0
IsTextFound input (Sealed.Text c len) = Begins input c len
IsTextFound input other = Unit {0}

-- a text that was found, and its seal, are in the input
abbrev pub HasRoom : List ℕ → Sealed → Type 0
HasRoom input (Sealed.Text c len) = len + 8 ≤ length input
HasRoom input other = Unit {0}

-- a text, and less than a seal behind it
pub record EndsInSeal (input : List ℕ) : Type 0 where
  pub size : Option ℕ
  pub text : List ℕ
  pub rest : List ℕ
  pub number : ℕ
  pub items : List Entry
  pub is : IsTextIn size text number items
  pub parts : input ≡ text ++ rest
  pub short : length rest < 8

-- where more is wanted, the input ends within a text, whose fields so far obey their rules, or within the seal that is due behind one
abbrev pub IsStillDue : List ℕ → Sealed → Type 0
IsStillDue input Sealed.More = IsUnfinished input ⊎ EndsInSeal input
IsStillDue input other = Unit {0}
