use Rattle.std.specs.Prelude.{◌-◌, ◌^◌}
use Rattle.xt_cell.specs.Ledgers.{name_in}
use Rattle.xt_host_tests.proofs.tests.taking.takes.Given as goal

-- the house of sixteen new ledgers
abbrev pub ghosts-take_on_slots : goal.ghosts-take_on_slots
ghosts-take_on_slots g a = record {
  names = name_in a.blanks;
  all = 2 ^ 64 - 1;
}
