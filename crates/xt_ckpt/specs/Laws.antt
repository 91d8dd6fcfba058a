-- Words of the laws.
use Rattle.std.specs.Prelude.{List, Option, length, slice_index, ℕ, ◌<◌}
use Rattle.xt_ckpt.specs.Fields.{Draft, Reads, opening}
use Rattle.xt_ckpt.specs.Grammar.{Entry}
use Rattle.xt_ckpt.specs.declared.draft.Field.TheVariants as Field

-- each is below 256
abbrev pub AreBytes : List ℕ → Type 0
AreBytes bytes = (i : ℕ) → slice_index bytes i < 256

-- the draft of a whole text
abbrev pub whole : Option ℕ → ℕ → List Entry → ℕ → Draft
whole size number items least = record { size = size; number = number; count = length items; items = items; least = least; next = Field.Nothing }

-- the bytes are fields, each of which obeys its rule, up to the end of a text of this number and these items
abbrev pub ReadsText : Option ℕ → List ℕ → ℕ → List Entry → Type 0
ReadsText size bytes number items = (least : ℕ) × Reads opening bytes (whole size number items least)
