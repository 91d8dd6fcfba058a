-- Lists of job names: those of one slot, and the order in which a slot's names are posted.
use Rattle.std.specs.Prelude.{List, [], filter, ℕ, ⊤, ◌+◌, ◌<◌, ◌==◌, ◌≡◌, ◌⊎◌, ◌∷◌}
use Rattle.xt_base.specs.declared.names.JobName.{JobName}

-- the names of one slot, in order
abbrev pub of_slot : ℕ → List JobName → List JobName
of_slot slot names = filter (λ x. x.slot == slot) names

-- before the first post of a slot: life 0 and serial 0
abbrev pub unposted : ℕ × ℕ
unposted = (0, 0)

-- life and serial of the last name; those given, where there is no name
abbrev pub last_of : ℕ × ℕ → List JobName → ℕ × ℕ
last_of last [] = last
last_of last (x ∷ xs) = last_of (x.life, x.serial) xs

-- what may be posted after this life and serial: the same life and the next serial, or a greater life and serial 1
abbrev pub MayFollow : ℕ × ℕ → JobName → Type 0
MayFollow last x = ((x.life ≡ last.0) × (x.serial ≡ last.1 + 1)) ⊎ ((last.0 < x.life) × (x.serial ≡ 1))

-- each name may follow the one before it: so the serials of one life are 1, 2, 3 and so on, and lives never go down
abbrev pub IsRun : ℕ × ℕ → List JobName → Type 0
IsRun last [] = ⊤
IsRun last (x ∷ xs) = MayFollow last x × IsRun (x.life, x.serial) xs
