-- Maps whose values are changed one by one, each by its key: the keys stay.
use Rattle.std.proofs.Common.{◌≡◌, ◌∙◌, ◌∷◌, Bool, List, None, Option, Some, [], ap, arith, cond, false, filter, inl, inr, length, refl, suc, sym, true, ℕ}
use Rattle.std.proofs.lemmas.Bool.{cases_eq, cases_order}
use Rattle.std.proofs.lemmas.List.Sums.{sum_by-cons}
use Rattle.std.specs.Prelude.{is_some, map, option_map, sum_by, ◌+◌}
use Rattle.xt_base.proofs.MapLemmas.{at_first, at_later, put_less, put_more, put_same, some_none, some_same, without_first, without_later}
use Rattle.xt_base.proofs.RisingLemmas.{none_below}
use Rattle.xt_base.specs.Maps.{at, is_in, put, without}
use Rattle.xt_base.specs.Sound.{Each, RisesFrom}

module _ {V W : Type 0} (g : ℕ → V → W) where
  -- an entry with its value changed, and all of them
  abbrev pub changed_entry : ℕ × V → ℕ × W
  changed_entry e = (e.0, g e.0 e.1)

  abbrev pub changed_values : List (ℕ × V) → List (ℕ × W)
  changed_values es = map changed_entry es

  pub length_changed : (es : List (ℕ × V)) → length (changed_values es) ≡ length es
  length_changed [] = refl
  length_changed (e ∷ es) = ap suc (length_changed es)

  pub at_changed : (k : ℕ) (es : List (ℕ × V)) → at k (changed_values es) ≡ option_map (g k) (at k es)
  at_changed k [] = refl
  at_changed k (e ∷ es) =
      elim (cases_eq k e.0) [
        | inl same ↦ at_first k (changed_entry e) (changed_values es) same ∙ ap (λ x. Some (g x e.1)) (sym same) ∙ sym (ap (option_map (g k)) (at_first k e es same))
        | inr other ↦ at_later k (changed_entry e) (changed_values es) other ∙ at_changed k es ∙ sym (ap (option_map (g k)) (at_later k e es other))
      ]

  still_some : (k : ℕ) (o : Option V) → is_some (option_map (g k) o) ≡ is_some o
  still_some k None = refl
  still_some k (Some v) = refl

  pub in_changed : (k : ℕ) (es : List (ℕ × V)) → is_in k (changed_values es) ≡ is_in k es
  in_changed k es = ap is_some (at_changed k es) ∙ still_some k (at k es)

  pub put_changed : (k : ℕ) (v : V) (es : List (ℕ × V)) → changed_values (put k v es) ≡ put k (g k v) (changed_values es)
  put_changed k v [] = refl
  put_changed k v (e ∷ es) =
      elim (cases_order k e.0) [
        | inl same ↦
            ap changed_values (put_same k v e es same) ∙ ap (λ x. (e.0, g x v) ∷ changed_values es) (sym same)
            ∙ sym (put_same k (g k v) (changed_entry e) (changed_values es) same)
        | inr (inl less) ↦ ap changed_values (put_less k v e es less) ∙ sym (put_less k (g k v) (changed_entry e) (changed_values es) less)
        | inr (inr more) ↦
            ap changed_values (put_more k v e es more) ∙ ap (λ xs. changed_entry e ∷ xs) (put_changed k v es)
            ∙ sym (put_more k (g k v) (changed_entry e) (changed_values es) more)
      ]

  pub without_changed : (k : ℕ) (es : List (ℕ × V)) → changed_values (without k es) ≡ without k (changed_values es)
  without_changed k [] = refl
  without_changed k (e ∷ es) =
      elim (cases_eq k e.0) [
        | inl same ↦ ap changed_values (without_first k e es same) ∙ sym (without_first k (changed_entry e) (changed_values es) same)
        | inr other ↦
            ap changed_values (without_later k e es other) ∙ ap (λ xs. changed_entry e ∷ xs) (without_changed k es)
            ∙ sym (without_later k (changed_entry e) (changed_values es) other)
      ]

  filter_step : (b : Bool) (e : ℕ × V) (xs : List (ℕ × V)) (ys : List (ℕ × W)) → changed_values xs ≡ ys → changed_values (cond b (e ∷ xs) xs) ≡ cond b (changed_entry e ∷ ys) ys
  filter_step true e xs ys is = ap (λ zs. changed_entry e ∷ zs) is
  filter_step false e xs ys is = is

  -- a test of the key alone
  pub filter_changed : (p : ℕ → Bool) (es : List (ℕ × V)) → changed_values (filter (λ e. p e.0) es) ≡ filter (λ e. p e.0) (changed_values es)
  filter_changed p [] = refl
  filter_changed p (e ∷ es) = filter_step (p e.0) e (filter (λ x. p x.0) es) (filter (λ x. p x.0) (changed_values es)) (filter_changed p es)

  pub rises_changed : (n : ℕ) (es : List (ℕ × V)) → RisesFrom n es → RisesFrom n (changed_values es)
  rises_changed n [] rises = tt
  rises_changed n (e ∷ es) rises = (rises.0, rises_changed (suc e.0) es rises.1)

  pub rises_unchanged : (n : ℕ) (es : List (ℕ × V)) → RisesFrom n (changed_values es) → RisesFrom n es
  rises_unchanged n [] rises = tt
  rises_unchanged n (e ∷ es) rises = (rises.0, rises_unchanged (suc e.0) es rises.1)

  -- a fact of each key
  pub each_changed : (P : ℕ → Type 0) (es : List (ℕ × V)) → Each (λ e. P e.0) es → Each (λ e. P e.0) (changed_values es)
  each_changed P [] all = tt
  each_changed P (e ∷ es) all = (all.0, each_changed P es all.1)

  pub each_unchanged : (P : ℕ → Type 0) (es : List (ℕ × V)) → Each (λ e. P e.0) (changed_values es) → Each (λ e. P e.0) es
  each_unchanged P [] all = tt
  each_unchanged P (e ∷ es) all = (all.0, each_unchanged P es all.1)

  -- a fact of each changed entry
  pub each_of_changed : (P : ℕ × W → Type 0) (es : List (ℕ × V)) → Each (λ e. P (changed_entry e)) es → Each P (changed_values es)
  each_of_changed P [] all = tt
  each_of_changed P (e ∷ es) all = (all.0, each_of_changed P es all.1)

  -- a weight that is the same before and after
  pub sum_changed : (f : ℕ × V → ℕ) (h : ℕ × W → ℕ) → ((e : ℕ × V) → h (changed_entry e) ≡ f e) → (es : List (ℕ × V)) → sum_by h (changed_values es) ≡ sum_by f es
  sum_changed f h same [] = refl
  sum_changed f h same (e ∷ es) =
      sum_by-cons h (changed_entry e) (changed_values es) ∙ ap (λ n. n + sum_by h (changed_values es)) (same e) ∙ ap (λ n. f e + n) (sum_changed f h same es)
      ∙ sym (sum_by-cons f e es)

module _ {V W : Type 0} (g h : ℕ → V → W) where
  -- changes that are the same in each entry
  pub changed_same : (es : List (ℕ × V)) → Each (λ e. g e.0 e.1 ≡ h e.0 e.1) es → changed_values g es ≡ changed_values h es
  changed_same [] all = refl
  changed_same (e ∷ es) all = ap (λ w. (e.0, w) ∷ changed_values g es) all.0 ∙ ap (λ xs. changed_entry h e ∷ xs) (changed_same es all.1)

module _ {V : Type 0} where
  -- a value that is put where it stands changes nothing
  pub put_standing : (n k : ℕ) (v : V) (es : List (ℕ × V)) → RisesFrom n es → at k es ≡ Some v → put k v es ≡ es
  put_standing n k v [] rises is = some_none v _ (sym is)
  put_standing n k v (e ∷ es) rises is =
      elim (cases_order k e.0) [
        | inl same ↦ put_same k v e es same ∙ ap (λ w. (e.0, w) ∷ es) (some_same v e.1 (sym is ∙ at_first k e es same))
        | inr (inl less) ↦ some_none v _ (sym is ∙ none_below k (suc k) (e ∷ es) (omega arith) (omega (arith, less), rises.1))
        | inr (inr more) ↦
            put_more k v e es more
            ∙ ap (λ xs. e ∷ xs) (put_standing (suc e.0) k v es rises.1 (sym (at_later k e es (λ same. omega (arith, same, more))) ∙ is))
      ]
