use Rattle.std.specs.Prelude.{◌-◌, ◌^◌}
use Rattle.xt_cell.specs.Ledgers.{name_in}
use Rattle.xt_host_tests.proofs.tests.closes.Given as goal

-- the house of sixteen new ledgers
abbrev pub ghosts-closed_on_slots : goal.ghosts-closed_on_slots
ghosts-closed_on_slots g a = record {
  names = name_in a.blanks;
  all = 2 ^ 64 - 1;
}
