-- The owners after a step have numbers that were given.
use Rattle.std.proofs.Common.{◌≡◌, ◌+◌, ◌≤◌, ◌∷◌, Bool, List, None, Option, Some, [], ap, arith, false, true, ℕ}
use Rattle.std.proofs.lemmas.Bool.{false≢true, false_from_ne_true}
use Rattle.std.specs.List.{cons_option}
use Rattle.std.specs.Prelude.{IfSome, filter_map, if◌then◌else◌, is_some, not}
use Rattle.xt_base.proofs.LegLemmas.{own_itself, own_one}
use Rattle.xt_base.proofs.RisingLemmas.{each_map, each_put}
use Rattle.xt_base.specs.Legs.{is_stale, owned_by, owner_aborted, owner_after}
use Rattle.xt_base.specs.Maps.{has, put}
use Rattle.xt_base.specs.Sound.{AreGiven, Each}
use Rattle.xt_base.specs.State.{Leg}
use Rattle.xt_base.specs.declared.steps.Owner.{Owner}
use Rattle.xt_base.specs.declared.steps.Owner.TheVariants.{Held, Stale, Trans}

-- a transaction that has a block has a number up to the last
abbrev pub IsGiven : ℕ → ℕ × Owner → Type 0
IsGiven last e = (t : ℕ) → owned_by t e.1 ≡ true → t ≤ last

module _ {A : Type 0} where
  each_cons_option : (P : A → Type 0) (o : Option A) (rest : List A) → IfSome o P → Each P rest → Each P (cons_option o rest)
  each_cons_option P None rest h all = all
  each_cons_option P (Some x) rest h all = (h, all)

  -- a fact of each that a map of entries keeps holds of what it gives
  each_filter_map : (P : A → Type 0) (f : A → Option A) (xs : List A) → ((x : A) → P x → IfSome (f x) P) → Each P xs → Each P (filter_map f xs)
  each_filter_map P f [] keeps all = tt
  each_filter_map P f (x ∷ xs) keeps all = each_cons_option P (f x) (filter_map f xs) (keeps x all.0) (each_filter_map P f xs keeps all.1)

  some_if : (P : A → Type 0) (c : Bool) (x y : Option A) → IfSome x P → IfSome y P → IfSome (if c then x else y) P
  some_if P true x y hx hy = hx
  some_if P false x y hx hy = hy

-- a transaction's lock
lock_given : (last b u count : ℕ) → u ≤ last → IsGiven last (b, Trans u count)
lock_given last b u count below t own =
    let same : u ≡ t = own_one u t (Some (Trans u count)) (ap is_some (own_itself u count)) own in
    omega (arith, same, below)

held_given : (last b : ℕ) → IsGiven last (b, Held)
held_given last b t own = absurd (false≢true own)

stale_given : (last b number : ℕ) → IsGiven last (b, Stale number)
stale_given last b number t own = absurd (false≢true own)

after_given : (last u : ℕ) (leg : Leg) (number : ℕ) (e : ℕ × Owner) → IsGiven last e → IfSome (owner_after u leg number e) (IsGiven last)
after_given last u leg number e h =
    let rest : Option (ℕ × Owner) = if has leg.holds e.0 then Some (e.0, Held) else None in
    some_if (IsGiven last) (not (owned_by u e.1)) (Some e) (if is_stale e.0 leg then Some (e.0, Stale number) else rest) h
    (some_if (IsGiven last) (is_stale e.0 leg) (Some (e.0, Stale number)) rest (stale_given last e.0 number) (some_if (IsGiven last) (has leg.holds e.0) (Some (e.0, Held)) None (held_given last e.0) tt))

aborted_given : (last u : ℕ) (leg : Leg) (e : ℕ × Owner) → IsGiven last e → IfSome (owner_aborted u leg e) (IsGiven last)
aborted_given last u leg e h =
    some_if (IsGiven last) (not (owned_by u e.1)) (Some e) (if has leg.holds e.0 then Some (e.0, Held) else None) h (some_if (IsGiven last) (has leg.holds e.0) (Some (e.0, Held)) None (held_given last e.0) tt)

-- no block has a number that was not given
pub none_given : (last : ℕ) (owners : List (ℕ × Owner)) → AreGiven last owners → Each (λ e. owned_by (last + 1) e.1 ≡ false) owners
none_given last owners g =
    each_map (IsGiven last) (λ e. owned_by (last + 1) e.1 ≡ false) owners
    (λ e given. false_from_ne_true (owned_by (last + 1) e.1) (λ own. let below = given (last + 1) own in omega (arith, below))) g

-- one number more was given
pub given_more : (last : ℕ) (owners : List (ℕ × Owner)) → AreGiven last owners → AreGiven (last + 1) owners
given_more last owners g = each_map (IsGiven last) (IsGiven (last + 1)) owners (λ e given t own. let below = given t own in omega (arith, below)) g

-- a transaction that was given its number locks a block
pub given_locked : (last b t count : ℕ) (owners : List (ℕ × Owner)) → t ≤ last → AreGiven last owners → AreGiven last (put b (Trans t count) owners)
given_locked last b t count owners below g = each_put (IsGiven last) b (Trans t count) owners (lock_given last b t count below) g

-- a leg is committed
pub given_ended : (last t : ℕ) (leg : Leg) (number : ℕ) (owners : List (ℕ × Owner)) → AreGiven last owners → AreGiven last (filter_map (owner_after t leg number) owners)
given_ended last t leg number owners g = each_filter_map (IsGiven last) (owner_after t leg number) owners (after_given last t leg number) g

-- a leg is given up
pub given_aborted : (last t : ℕ) (leg : Leg) (owners : List (ℕ × Owner)) → AreGiven last owners → AreGiven last (filter_map (owner_aborted t leg) owners)
given_aborted last t leg owners g = each_filter_map (IsGiven last) (owner_aborted t leg) owners (aborted_given last t leg) g
