use Rattle.std.specs.Prelude.{◌-◌, ◌^◌}
use Rattle.xt_cell.specs.Ledgers.{name_in}
use Rattle.xt_host_tests.proofs.tests.sizes.plays.Given as goal

-- the house of sixteen new ledgers
abbrev pub ghosts-played_on_slots : goal.ghosts-played_on_slots
ghosts-played_on_slots g a = record {
  names = name_in a.blanks;
  all = 2 ^ 64 - 1;
}
