use Rattle.std.specs.Prelude.{◌-◌, ◌^◌}
use Rattle.xt_cell.specs.Ledgers.{name_in}
use Rattle.xt_cell_tests.proofs.tests.rows.plays.Given as goal

-- the house of sixteen new ledgers
abbrev pub ghosts-play : goal.ghosts-play
ghosts-play g a = record {
  names = name_in a.blanks;
  all = 2 ^ 64 - 1;
}
