-- What is read of the bytes of a log.
use Rattle.std.specs.Prelude.{List, Option, [], length, ℕ, ◌++◌, ◌+◌, ◌∷◌, ◌≡◌, ◌≢◌, ◌≤◌, ◌⊎◌}
use Rattle.xt_ckpt.specs.Fields.{IsFaultAt, IsUnfinished}
use Rattle.xt_ckpt.specs.Grammar.{Entry, IsTextIn}

-- a log is read as these texts, the oldest first, which all say this of the size of a block, and an unfinished end, empty where it ends with a text
abbrev pub ReadsAs : Option ℕ → List ℕ → List (List Entry) → Type 0
ReadsAs size bytes [] = IsUnfinished bytes
ReadsAs size bytes (t ∷ ts) = (text more : List ℕ) × (number : ℕ) × IsTextIn size text number t × (bytes ≡ text ++ more) × ReadsAs size more ts

-- bytes that are these texts, one behind another, and nothing else
abbrev pub AreTexts : Option ℕ → List ℕ → List (List Entry) → Type 0
AreTexts size bytes [] = bytes ≡ []
AreTexts size bytes (t ∷ ts) = (text more : List ℕ) × (number : ℕ) × IsTextIn size text number t × (bytes ≡ text ++ more) × AreTexts size more ts

-- a log is these texts, and so many bytes behind them, which are an unfinished end
pub record HasTexts (size : Option ℕ) (log : List ℕ) (texts : List (List Entry)) (rest : ℕ) : Type 0 where
  pub front : List ℕ
  pub behind : List ℕ
  pub parts : log ≡ front ++ behind
  pub whole : AreTexts size front texts
  pub unfinished : IsUnfinished behind
  pub count : rest ≡ length behind

-- a log is some texts, and behind them the field at this offset of the log is all there and breaks its rule, the first that does
pub record IsBrokenAt (offset : ℕ) (log : List ℕ) : Type 0 where
  pub size : Option ℕ
  pub texts : List (List Entry)
  pub front : List ℕ
  pub behind : List ℕ
  pub parts : log ≡ front ++ behind
  pub whole : AreTexts size front texts
  pub inside : ℕ
  pub broken : IsFaultAt inside behind
  pub place : offset ≡ length front + inside

-- a text that says something else of the size of a block begins the bytes
abbrev pub BeginsOther : Option ℕ → List ℕ → Type 0
BeginsOther size bytes = (other : Option ℕ) × (text more : List ℕ) × (number : ℕ) × (items : List Entry) × (other ≢ size) × IsTextIn other text number items × (bytes ≡ text ++ more)

-- a log is texts that say one thing of the size of a block, and behind them one that says another begins at this offset of the log
pub record IsMixedAt (offset : ℕ) (log : List ℕ) : Type 0 where
  pub size : Option ℕ
  pub texts : List (List Entry)
  pub front : List ℕ
  pub behind : List ℕ
  pub parts : log ≡ front ++ behind
  pub some : 1 ≤ length texts
  pub whole : AreTexts size front texts
  pub other : BeginsOther size behind
  pub place : offset ≡ length front

-- the first place at which a log is none that is recovered
abbrev pub IsStoppedAt : ℕ → List ℕ → Type 0
IsStoppedAt offset log = IsBrokenAt offset log ⊎ IsMixedAt offset log
