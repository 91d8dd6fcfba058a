-- Settling, as far as it touches the frames, and where nothing settles.
use Rattle.std.specs.List.{list_any}
use Rattle.std.specs.Prelude.{ℕ, List, Bool, length, not, true, ◌&&◌, ◌==◌, ◌||◌, ◌≡◌}
use Rattle.xt_base.specs.Legs.{owned_by}
use Rattle.xt_base.specs.Maps.{is_in}
use Rattle.xt_base.specs.Space.{is_listed}
use Rattle.xt_base.specs.Sound.{Each as OfEach}
use Rattle.xt_base.specs.State.{Items, Leg, Transaction}
use Rattle.xt_base.specs.declared.steps.Owner.{Owner}
use Rattle.xt_mount.specs.declared.settle.MayRest.{MayRest}
use Rattle.xt_mount.specs.declared.settle.MayRest.TheVariants.{Each, Nothing, One}

-- whether a block has an owner or is on a list
abbrev pub is_busy_in : List (ℕ × Owner) → Items → ℕ → Bool
is_busy_in owners l b = is_in b owners || is_listed l b

-- each block that an open transaction changed is busy
abbrev pub AreChangedBusy : (ℕ → Bool) → List (ℕ × Transaction) → Type 0
AreChangedBusy busy ts = OfEach (λ e. OfEach (λ c. busy c.0 ≡ true) e.1.leg.changes) ts

-- whether a transaction has a block that its leg did not change
abbrev pub has_unchanged : ℕ → Leg → List (ℕ × Owner) → Bool
has_unchanged t leg owners = list_any (λ e. owned_by t e.1 && not (is_in e.0 leg.changes)) owners

-- whether a transaction has a block beside this one that its leg did not change
abbrev pub has_unchanged_beside : ℕ → ℕ → Leg → List (ℕ × Owner) → Bool
has_unchanged_beside b t leg owners = list_any (λ e. owned_by t e.1 && not (is_in e.0 leg.changes) && not (e.0 == b)) owners

-- whether an item cancels its block
abbrev pub has_cancel : List (ℕ × List ℕ) → Bool
has_cancel items = list_any (λ e. length e.1 == 0) items

-- what holds of the block that may rest alone; where none may, of any, and where each may, nothing is said
abbrev pub OfRest : MayRest → (ℕ → Type 0) → Type 0
OfRest Each P = Unit {0}
OfRest (One block) P = P block
OfRest Nothing P = (block : ℕ) → P block
