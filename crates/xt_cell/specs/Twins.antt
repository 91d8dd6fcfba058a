-- Room for what a reply may name.
use Rattle.std.specs.Prelude.{is_some, true, ◌≡◌}
use Rattle.xt_cell.specs.declared.rooms.Rooms.{Rooms}

-- there is room for two lists of held blocks
abbrev pub AreReady : Rooms → Type 0
AreReady rooms = (is_some rooms.first ≡ true) × (is_some rooms.second ≡ true)
