-- The item lists of a mount, without what landed checkpoints cost.
use Rattle.std.specs.Prelude.{List, None, Option, Some, [], length, ℕ, ◌≤◌}
use Rattle.xt_base.specs.Maps.{put}
use Rattle.xt_base.specs.State.{Flight, Items}
use Rattle.xt_base.specs.declared.sizes.TheConstants.{CHUNKS}
use Rattle.xt_vectors.specs.Vectors.{Vector, vector}

-- the number of the open checkpoint; the commit list; the log vectors of its items; the checkpoint in flight, if there is one; and the active list, blocks with the number of their checkpoint
pub record Lists : Type 0 where
  pub open_number : ℕ
  pub cil : List (ℕ × List ℕ)
  pub vectors : List (ℕ × Vector)
  pub flight : Option Flight
  pub ail : List (ℕ × ℕ)

-- empty lists, and the first number open
abbrev pub no_items : Lists
no_items = record { open_number = 1; cil = []; vectors = []; flight = None; ail = [] }

-- an item has no more chunks than a block
abbrev pub HasFewChunks : ℕ × List ℕ → Type 0
HasFewChunks e = length e.1 ≤ CHUNKS

-- the lists of a mount's state: these, with what landed checkpoints cost
abbrev pub with_landed : List (ℕ × ℕ) → Lists → Items
with_landed landed l = record { open_number = l.open_number; cil = l.cil; flight = l.flight; ail = l.ail; landed = landed }

-- a block's item has these chunks, and its log vector their bytes of a content
abbrev pub marked : ℕ → List ℕ → List ℕ → Lists → Lists
marked b set content l = record l { cil = put b set l.cil; vectors = put b (vector content set) l.vectors }

-- the number of the checkpoint in flight
abbrev pub flight_number : Option Flight → Option ℕ
flight_number None = None
flight_number (Some f) = Some f.number
