-- The reader's draft, as the fields are judged.
use Rattle.std.specs.Prelude.{Bool, None, Option, Some, false, suc, true, ℕ, ◌≡◌}
use Rattle.xt_ckpt.specs.Fields.{Draft}
use Rattle.xt_ckpt.specs.Grammar.{entries}
use Rattle.xt_ckpt.specs.declared.draft.Draft.{Draft as Stored}

-- the least block above the last one
abbrev pub above : Option ℕ → ℕ
above None = 0
above (Some block) = suc block

-- a draft without where it lies in memory
abbrev pub seen : Stored → Draft
seen d = record { size = d.size; number = d.number; count = d.count; items = entries d.items.items; least = above d.last; next = d.next }

-- a field that was accepted led to this draft; one that was not breaks its rule
abbrev pub IsAfter : Bool → Draft → Option Draft → Type 0
IsAfter true d outcome = outcome ≡ Some d
IsAfter false d outcome = outcome ≡ None
