-- What a reader of a text promises.
use Rattle.std.specs.Prelude.{Err, List, None, Ok, Option, Result, Some, length, take, ℕ, ◌++◌, ◌≡◌, ◌≤◌}
use Rattle.xt_ckpt.specs.Fields.{IsFaultAt, IsUnfinished}
use Rattle.xt_ckpt.specs.Grammar.{Entry, IsTextIn, entries}
use Rattle.xt_ckpt.specs.declared.reading.Checkpoint.{Checkpoint}
use Rattle.xt_ckpt.specs.declared.reading.ReadFault.{ReadFault}

-- the first `len` bytes of the input are the text of the checkpoint
abbrev pub Begins : List ℕ → Checkpoint → ℕ → Type 0
Begins input checkpoint len = (len ≤ length input) × IsTextIn checkpoint.size (take len input) checkpoint.no (entries checkpoint.items.items)

-- no text of the grammar begins the input
abbrev pub BeginsNoText : List ℕ → Type 0
BeginsNoText input = (size : Option ℕ) (text more : List ℕ) (number : ℕ) (items : List Entry) → IsTextIn size text number items → input ≡ text ++ more → ⊥

-- why reading stopped: a field that breaks its rule, or want of memory
abbrev pub IsWhy : List ℕ → ReadFault → Type 0
IsWhy input (ReadFault.Ckpt fault) = IsFaultAt fault.at input
IsWhy input ReadFault.Memory = Unit {0}

-- what reading an input may give
abbrev pub IsJudged : List ℕ → Result (Option (Checkpoint × ℕ)) ReadFault → Type 0
IsJudged input (Ok (Some found)) = Begins input found.0 found.1
IsJudged input (Ok None) = IsUnfinished input
IsJudged input (Err fault) = IsWhy input fault

-- this size, this number, these items and this length are read, unless memory runs out
abbrev pub IsReadAs : Option ℕ → ℕ → List Entry → ℕ → Result (Option (Checkpoint × ℕ)) ReadFault → Type 0
IsReadAs size number items len (Ok (Some found)) = (found.0.size ≡ size) × (found.0.no ≡ number) × (entries found.0.items.items ≡ items) × (found.1 ≡ len)
IsReadAs size number items len (Ok None) = ⊥
IsReadAs size number items len (Err (ReadFault.Ckpt fault)) = ⊥
IsReadAs size number items len (Err ReadFault.Memory) = Unit {0}
