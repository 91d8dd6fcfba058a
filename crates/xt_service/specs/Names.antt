-- The names of what a session holds: lists that ascend by slot, life and number.
use Rattle.std.specs.List.{list_any, position_or_len}
use Rattle.std.specs.Prelude.{Bool, List, [], filter, insert, nat_lt, not, ℕ, ◌&&◌, ◌==◌, ◌||◌, ◌∷◌}
use Rattle.xt_cell.specs.declared.mount_ref.MountRef.{MountRef}
use Rattle.xt_service.specs.declared.names.Name.{Name}

-- the name of a transaction of a mount by its number, or of a held buffer by its block
abbrev pub named : MountRef → ℕ → Name
named at number = record { at = at; number = number }

-- whether two names are one
abbrev pub is_same : Name → Name → Bool
is_same x y = (x.at.slot == y.at.slot) && (x.at.life == y.at.life) && (x.number == y.number)

-- whether a name stands before another: by slot, then by life, then by number
abbrev pub is_before : Name → Name → Bool
is_before x y = nat_lt x.at.slot y.at.slot || ((x.at.slot == y.at.slot) && (nat_lt x.at.life y.at.life || ((x.at.life == y.at.life) && nat_lt x.number y.number)))

-- whether a name stands in a list
abbrev pub has : Name → List Name → Bool
has x names = list_any (λ y. is_same y x) names

-- how many names stand before the first that does not stand before this one
abbrev pub place : Name → List Name → ℕ
place x names = position_or_len (λ y. not (is_before y x)) names

-- the list with one more name, at its place
abbrev pub with_name : Name → List Name → List Name
with_name x names = insert names (place x names) x

-- the list without a name
abbrev pub without : Name → List Name → List Name
without x names = filter (λ y. not (is_same y x)) names

-- the list with the names of some blocks of a mount more
abbrev pub with_blocks : MountRef → List ℕ → List Name → List Name
with_blocks at [] names = names
with_blocks at (b ∷ bs) names = with_blocks at bs (with_name (named at b) names)
