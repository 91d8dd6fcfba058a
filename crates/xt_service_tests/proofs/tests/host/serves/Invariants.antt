use Rattle.std.specs.Prelude.{◌-◌, ◌^◌}
use Rattle.xt_cell.specs.Ledgers.{name_in}
use Rattle.xt_service_tests.proofs.tests.host.serves.Given as goal

-- the house of sixteen new ledgers
abbrev pub ghosts-serve_in_slots : goal.ghosts-serve_in_slots
ghosts-serve_in_slots g a = record {
  names = name_in a.blanks;
  all = 2 ^ 64 - 1;
}
