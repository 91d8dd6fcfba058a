-- Which blocks a flush writes home.
use Rattle.std.specs.Prelude.{Bool, List, [], ◌∷◌, ◌-◌, filter, get_or, if◌then◌else◌, length, map, nat_lt, not, suc, take, zero, ℕ, ◌&&◌, ◌||◌}
use Rattle.xt_base.specs.Jobs.{by_number}
use Rattle.xt_base.specs.Maps.{is_in}
use Rattle.xt_base.specs.Space.{flight_items}
use Rattle.xt_base.specs.declared.sizes.TheConstants.{FLUSH_BLOCKS}
use Rattle.xt_items.specs.Lists.{Lists}

-- a block that is neither committed nor in flight, and that nobody owns
abbrev pub is_unpinned : (ℕ → Bool) → Lists → ℕ → Bool
is_unpinned is_owned l b = not (is_in b l.cil) && not (is_in b (flight_items l.flight)) && not (is_owned b)

-- the entries of the active list that may be written home
abbrev pub due : (ℕ → Bool) → Lists → List (ℕ × ℕ)
due is_owned l = filter (λ e. is_unpinned is_owned l e.0) l.ail

-- the blocks that a flush writes: the first ones of them in the order of (number, block)
abbrev pub planned : (ℕ → Bool) → Lists → List ℕ
planned is_owned l = map (λ e. e.0) (take FLUSH_BLOCKS (by_number (due is_owned l)))

-- the list with an entry behind those of no higher number
abbrev pub placed_last : ℕ × ℕ → List (ℕ × ℕ) → List (ℕ × ℕ)
placed_last e [] = e ∷ []
placed_last e (x ∷ xs) = if nat_lt e.1 x.1 then e ∷ x ∷ xs else x ∷ placed_last e xs

-- how many entries stand before the first whose number is higher
abbrev pub rank : ℕ → List (ℕ × ℕ) → ℕ
rank number [] = 0
rank number (x ∷ xs) = if nat_lt number x.1 then 0 else suc (rank number xs)

-- whether there are fewer entries than a flush writes, or the last of so many has a higher number
abbrev pub takes : ℕ → List (ℕ × ℕ) → Bool
takes number xs = nat_lt (length xs) FLUSH_BLOCKS || nat_lt number (get_or xs (FLUSH_BLOCKS - 1) (0, 0)).1

-- the list with an entry behind so many others
abbrev pub inserted : ℕ → ℕ × ℕ → List (ℕ × ℕ) → List (ℕ × ℕ)
inserted zero e xs = e ∷ xs
inserted (suc n) e [] = e ∷ []
inserted (suc n) e (x ∷ xs) = x ∷ inserted n e xs
