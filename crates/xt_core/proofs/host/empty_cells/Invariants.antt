use Rattle.xt_core.specs.InPlace.{AreUnused}
use Rattle.xt_frames.specs.Shares.{AreThere}
use Rattle.xt_core.proofs.host.empty_cells.Given as goal

-- the slots so far, and the shares of the others
abbrev pub invariant-loop-number : goal.invariant-loop-number
invariant-loop-number l = record {
  cells : AreUnused l.number l.cells.items;
  shares : AreThere l.number 16 l.table;
}
