use Rattle.std.specs.Prelude.{◌-◌, ◌^◌}
use Rattle.xt_cell.specs.Ledgers.{name_in}
use Rattle.xt_cell_tests.proofs.tests.strangers.meets.Given as goal

-- the houses of twice sixteen new ledgers
abbrev pub ghosts-meet-H-House : goal.ghosts-meet-H-House
ghosts-meet-H-House g a = record {
  names = name_in a.blanks;
  all = 2 ^ 64 - 1;
}

abbrev pub ghosts-meet-G-House : goal.ghosts-meet-G-House
ghosts-meet-G-House g a = record {
  names = name_in a.others;
  all = 2 ^ 64 - 1;
}
