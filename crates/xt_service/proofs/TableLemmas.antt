-- What holds of each seat and of each session of a table.
use Rattle.std.proofs.Common.{rules, ap, option_to_list, subst, sym, All, IfSome, List, None, Option, Some, ℕ, ◌++◌, ◌≡◌, ◌∙◌}
use Rattle.std.proofs.lemmas.List.Elements.{All-pop}
use Rattle.std.specs.Option.{ForSome}
use Rattle.slab.specs.Slab.{get, Slab, Updates}
use mathlib.Core.Logic.{dite}
use native.Mathlib.Decide.{ℕ_discrete}

module _ {T : Type 0} (P : T → Type 0) where
  -- one taken out of a slab
  pub taken : (old new : Slab T) (key : ℕ) → Updates old new key None → ((k : ℕ) → ForSome (get old k) P) → (k : ℕ) → ForSome (get new k) P
  taken old new key change all k = dite (ℕ_discrete k key)
      (λ same x is. let none = sym change.changed ∙ ap (λ j. get new j) (sym same) ∙ is in search rules)
      (λ apart x is. all k x (sym (change.others k apart) ∙ is))

  -- one put into a slab, which is as the others are
  pub placed : (old new : Slab T) (key : ℕ) (x : T) → Updates old new key (Some x) → P x → ((k : ℕ) → ForSome (get old k) P) → (k : ℕ) → ForSome (get new k) P
  placed old new key x change fits all k = dite (ℕ_discrete k key)
      (λ same y is. subst (λ slot. IfSome slot P) (sym change.changed ∙ ap (λ j. get new j) (sym same) ∙ is) fits)
      (λ apart y is. all k y (sym (change.others k apart) ∙ is))

  -- the last one taken out of a list
  pub popped : (xs ys : List T) (r : Option T) (x : T) → xs ≡ ys ++ option_to_list r → r ≡ Some x → All P xs → All P ys × P x
  popped xs ys r x parts is all = let h = All-pop P xs ys r parts all in (h.0, subst (λ o. IfSome o P) is h.1)
