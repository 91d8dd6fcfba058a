use Rattle.std.specs.Prelude.{◌-◌, ◌^◌}
use Rattle.xt_cell.specs.Ledgers.{name_in}
use Rattle.xt_host_example.proofs.named.Given as goal

-- the house of sixteen new ledgers
abbrev pub ghosts-run : goal.ghosts-run
ghosts-run g a = record {
  names = name_in a.blanks;
  all = 2 ^ 64 - 1;
}
