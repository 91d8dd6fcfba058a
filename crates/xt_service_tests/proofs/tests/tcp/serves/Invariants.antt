use Rattle.std.specs.Prelude.{◌-◌, ◌^◌}
use Rattle.xt_cell.specs.Ledgers.{name_in}
use Rattle.xt_service_tests.proofs.tests.tcp.serves.Given as goal

-- the house of sixteen new ledgers
abbrev pub ghosts-serve : goal.ghosts-serve
ghosts-serve g a = record {
  names = name_in a.blanks;
  all = 2 ^ 64 - 1;
}
