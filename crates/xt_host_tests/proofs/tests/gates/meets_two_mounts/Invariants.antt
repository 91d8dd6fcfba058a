use Rattle.std.specs.Prelude.{◌-◌, ◌^◌}
use Rattle.xt_cell.specs.Ledgers.{name_in}
use Rattle.xt_host_tests.proofs.tests.gates.meets_two_mounts.Given as goal

-- the house of sixteen new ledgers
abbrev pub ghosts-meet_two_mounts : goal.ghosts-meet_two_mounts
ghosts-meet_two_mounts g a = record {
  names = name_in a.blanks;
  all = 2 ^ 64 - 1;
}
