-- Contents of one length, in a map.
use Rattle.std.proofs.Common.{◌≡◌, ◌∙◌, ◌∷◌, ◌++◌, All, Err, List, Ok, Result, Some, [], ap, false, length, subst, sym, true≢false, ℕ}
use Rattle.std.proofs.lemmas.List.Elements.{All-from_recursion, recursion_from_All}
use Rattle.std.specs.Prelude.{OnOk, is_err}
use Rattle.xt_base.proofs.RisingLemmas.{each_at, each_put, each_without}
use Rattle.xt_base.specs.Maps.{at, put, without}
use Rattle.xt_base.specs.Sound.{Each}

-- each content has this length
abbrev AreOf : ℕ → List (ℕ × List ℕ) → Type 0
AreOf n es = All (λ e. length e.1 ≡ n) es

each_of : (n : ℕ) (es : List (ℕ × List ℕ)) → AreOf n es → Each (λ e. length e.1 ≡ n) es
each_of n es all = recursion_from_All (λ e. length e.1 ≡ n) es all

all_of : (n : ℕ) (es : List (ℕ × List ℕ)) → Each (λ e. length e.1 ≡ n) es → AreOf n es
all_of n es each = All-from_recursion (λ e. length e.1 ≡ n) es each

-- of a map without a block, with one more, and at a block
pub whole_without : (n b : ℕ) (es new : List (ℕ × List ℕ)) → AreOf n es → new ≡ without b es → AreOf n new
whole_without n b es new all is = subst (AreOf n) (sym is) (all_of n (without b es) (each_without (λ e. length e.1 ≡ n) b es (each_of n es all)))

pub whole_put : (n b : ℕ) (v : List ℕ) (es new : List (ℕ × List ℕ)) → AreOf n es → length v ≡ n → new ≡ put b v es → AreOf n new
whole_put n b v es new all own is = subst (AreOf n) (sym is) (all_of n (put b v es) (each_put (λ e. length e.1 ≡ n) b v es own (each_of n es all)))

pub whole_at : (n b : ℕ) (v : List ℕ) (es : List (ℕ × List ℕ)) → AreOf n es → Some v ≡ at b es → length v ≡ n
whole_at n b v es all is = each_at (λ e. length e.1 ≡ n) b v es (sym is) (each_of n es all)

-- the first of those that are left
pub whole_first : (n : ℕ) (e : ℕ × List ℕ) (es done it left : List (ℕ × List ℕ)) → AreOf n es → es ≡ done ++ it → it ≡ e ∷ left → length e.1 ≡ n
whole_first n e es done it left all parts is = behind done (subst (Each (λ x. length x.1 ≡ n)) (parts ∙ ap (λ xs. done ++ xs) is) (each_of n es all))
  where
    behind : (xs : List (ℕ × List ℕ)) → Each (λ x. length x.1 ≡ n) (xs ++ e ∷ left) → length e.1 ≡ n
    behind [] h = h.0
    behind (x ∷ xs) h = behind xs h.1

-- what holds where a call succeeded, which it did
pub taken_ok : {A E : Type 0} (r : Result A E) (P : Type 0) → is_err r ≡ false → OnOk r P → P
taken_ok (Ok x) P ok h = h
taken_ok (Err e) P ok h = absurd (true≢false ok)
