-- Lists of names and of views: what a changed or a new view leaves, and what one name more makes.
use Rattle.std.proofs.Common.{ap, length, refl, set, suc, sym, zero, List, [], inl, inr, ℕ, ◌++◌, ◌==◌, ◌∙◌, ◌≡◌, ◌≢◌, ◌⊎◌, ◌∷◌}
use Rattle.std.proofs.lemmas.Bool.{eq-eqb, ne_eqb}
use Rattle.std.proofs.lemmas.List.{append-nil}
use Rattle.std.proofs.lemmas.List.Elements.{filter-append}
use Rattle.xt_base.specs.declared.names.JobName.{JobName}
use Rattle.xt_queue.specs.Names.{IsRun, MayFollow, last_of, of_slot}
use Rattle.xt_queue.specs.Queues.{names_at}
use Rattle.xt_queue.specs.declared.views.JobView.{JobView}
use lib.ListN.{get_elem?}
use mathlib.Core.Option.{some, some-injective, some-ne-none}

-- a pass's names are those of the view at its place
pub names_at_view : (views : List JobView) (place : ℕ) (v : JobView) → get_elem? views place ≡ some v → names_at views place ≡ v.names
names_at_view [] place v at = absurd (some-ne-none v (sym at))
names_at_view (u ∷ us) zero v at = ap (λ (x : JobView). x.names) (some-injective u v at)
names_at_view (u ∷ us) (suc place) v at = names_at_view us place v at

-- after a view changes, the names at its place are the new ones
pub names_at_set : (views : List JobView) (place : ℕ) (v w : JobView) → get_elem? views place ≡ some v → names_at (set views place w) place ≡ w.names
names_at_set [] place v w at = absurd (some-ne-none v (sym at))
names_at_set (u ∷ us) zero v w at = refl
names_at_set (u ∷ us) (suc place) v w at = names_at_set us place v w at

-- and the names at each other place stay
pub names_at_other : (views : List JobView) (place other : ℕ) (w : JobView) → other ≢ place → names_at (set views place w) other ≡ names_at views other
names_at_other [] place other w apart = refl
names_at_other (u ∷ us) zero zero w apart = absurd (apart refl)
names_at_other (u ∷ us) zero (suc other) w apart = refl
names_at_other (u ∷ us) (suc place) zero w apart = refl
names_at_other (u ∷ us) (suc place) (suc other) w apart = names_at_other us place other w (λ e. apart (ap suc e))

-- a new view with no name changes the names nowhere
pub names_at_new : (views : List JobView) (w : JobView) (other : ℕ) → w.names ≡ [] → names_at (views ++ w ∷ []) other ≡ names_at views other
names_at_new [] w zero none = none
names_at_new [] w (suc other) none = refl
names_at_new (u ∷ us) w zero none = refl
names_at_new (u ∷ us) w (suc other) none = names_at_new us w other none

-- a view of a longer list is an old one, or the new one at the last place
pub at_new : (views : List JobView) (w v : JobView) (place : ℕ) → get_elem? (views ++ w ∷ []) place ≡ some v → (get_elem? views place ≡ some v) ⊎ ((w ≡ v) × (place ≡ length views))
at_new [] w v zero at = inr (some-injective w v at, refl)
at_new [] w v (suc place) at = absurd (some-ne-none v (sym at))
at_new (u ∷ us) w v zero at = inl at
at_new (u ∷ us) w v (suc place) at = elim (at_new us w v place at) as (λ _. (get_elem? us place ≡ some v) ⊎ ((w ≡ v) × (suc place ≡ suc (length us)))) [ inl old ↦ inl old | inr new ↦ inr (new.0, ap suc new.1) ]

-- one name more of the slot
pub of_slot_own : (slot : ℕ) (names : List JobName) (x : JobName) → x.slot ≡ slot → of_slot slot (names ++ x ∷ []) ≡ of_slot slot names ++ x ∷ []
of_slot_own slot names x same = filter-append (λ (y : JobName). y.slot == slot) names (x ∷ []) ∙ rw (eq-eqb x.slot slot same) refl

-- one name more of another slot
pub of_slot_other : (slot : ℕ) (names : List JobName) (x : JobName) → x.slot ≢ slot → of_slot slot (names ++ x ∷ []) ≡ of_slot slot names
of_slot_other slot names x apart = filter-append (λ (y : JobName). y.slot == slot) names (x ∷ []) ∙ rw (ne_eqb x.slot slot apart) (append-nil (of_slot slot names))

-- a name that may follow the last one makes a longer run
pub run_longer : (last : ℕ × ℕ) (names : List JobName) (x : JobName) → IsRun last names → MayFollow (last_of last names) x → IsRun last (names ++ x ∷ [])
run_longer last [] x run next = (next, tt)
run_longer last (y ∷ ys) x run next = (run.0, run_longer (y.life, y.serial) ys x run.1 next)

-- the last name of a longer list is the new one
pub last_longer : (last : ℕ × ℕ) (names : List JobName) (x : JobName) → last_of last (names ++ x ∷ []) ≡ (x.life, x.serial)
last_longer last [] x = refl
last_longer last (y ∷ ys) x = last_longer (y.life, y.serial) ys x
