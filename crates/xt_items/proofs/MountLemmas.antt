-- The item lists beside a mount's definitions.
use Rattle.std.proofs.Common.{List, not, ℕ}
use Rattle.std.specs.Prelude.{filter}
use Rattle.xt_base.specs.Maps.{has}
use Rattle.xt_items.specs.Lists.{Lists}

-- the active list without blocks
abbrev pub without_blocks : List ℕ → Lists → Lists
without_blocks blocks l = record l { ail = filter (λ e. not (has blocks e.0)) l.ail }
