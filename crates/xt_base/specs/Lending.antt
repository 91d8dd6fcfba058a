-- What a map ends as, where a reference to one of its values is lent.
use Rattle.std.specs.Prelude.{List, ℕ}
use Rattle.std.specs.Borrow.{Fml, Lends, MutBor, RattleType}
use Rattle.xt_base.specs.Maps.{put}
use Rattle.xt_base.specs.contracts.map.NumberMap.{the_row}

-- the key has the last value written through r
abbrev pub lends_value : (V : RattleType) → MutBor (List (ℕ × V.Denot)) → ℕ → MutBor V.Denot → Fml
lends_value V s key r = Lends (the_row V) V s r (λ w. put key w s.now)
