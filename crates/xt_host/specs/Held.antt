-- A list of buffers that a leg left held, which are taken out one by one.
use Rattle.std.specs.Prelude.{[], List, None, Option, Some, drop, ℕ}
use Rattle.xt_cell.specs.declared.mount_ref.MountRef.{MountRef}

-- the mount that the buffers are of, and the blocks that were not taken out yet
pub record HeldView : Type 0 where
  pub at : MountRef
  pub blocks : List ℕ

-- the blocks that are left after so many were taken out, none where there was no list
abbrev pub blocks_left : Option (List ℕ) → ℕ → List ℕ
blocks_left None taken = []
blocks_left (Some blocks) taken = drop taken blocks
