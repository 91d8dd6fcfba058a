-- Each block stands once on the idle list, and in one list of contents.
use mathlib.Core.List.{reverse_aux}
use Rattle.std.proofs.Common.{◌≡◌, ◌≢◌, ◌∙◌, ◌∷◌, ◌++◌, List, [], ap, arith, false, inl, inr, refl, subst, suc, sym, zero, ℕ}
use Rattle.std.proofs.lemmas.Bool.{cases_eq, false_from_ne_true, false≢true}
use Rattle.std.specs.Prelude.{is_some, reverse, take}
use Rattle.xt_base.proofs.KeyLemmas.{is_in_first, is_in_later}
use Rattle.xt_base.proofs.MapLemmas.{at_later, without_first, without_later}
use Rattle.xt_base.proofs.RisingLemmas.{none_below}
use Rattle.xt_base.specs.Maps.{is_in, without}
use Rattle.xt_base.specs.Settle.{rested}
use Rattle.xt_base.specs.Sound.{Each, RisesFrom}
use Rattle.xt_recovery.proofs.Consistent.{AreDistinct}

abbrev pub Contents : Type 0
Contents = List (ℕ × List ℕ)

-- what is not there is no first key, and not further on
pub not_first : (q : ℕ) (e : ℕ × List ℕ) (es : Contents) → is_in q (e ∷ es) ≡ false → q ≢ e.0
not_first q e es h same = false≢true (sym h ∙ is_in_first q e es same)

pub not_later : (q : ℕ) (e : ℕ × List ℕ) (es : Contents) → is_in q (e ∷ es) ≡ false → is_in q es ≡ false
not_later q e es h = false_from_ne_true (is_in q es) (λ there. false≢true (sym h ∙ is_in_later q e es there))

-- neither the first key nor further on: not there
pub not_there : (q : ℕ) (e : ℕ × List ℕ) (es : Contents) → q ≢ e.0 → is_in q es ≡ false → is_in q (e ∷ es) ≡ false
not_there q e es other absent = ap is_some (at_later q e es other) ∙ absent

-- each key of a list is another than one that is not there
pub each_apart : (b : ℕ) (es : Contents) → is_in b es ≡ false → Each (λ e. e.0 ≢ b) es
each_apart b [] h = tt
each_apart b (e ∷ es) h = (λ same. not_first b e es h (sym same), each_apart b es (not_later b e es h))

-- a rising list has each key once
pub apart_rising : (n : ℕ) (es : Contents) → RisesFrom n es → AreDistinct es
apart_rising n [] r = tt
apart_rising n (e ∷ es) r = (ap is_some (none_below e.0 (suc e.0) es (omega arith) r.1), apart_rising (suc e.0) es r.1)

-- what is not in a list is not in its front
not_taken : (q n : ℕ) (es : Contents) → is_in q es ≡ false → is_in q (take n es) ≡ false
not_taken q zero es h = refl
not_taken q (suc n) [] h = refl
not_taken q (suc n) (e ∷ es) h = not_there q e (take n es) (not_first q e es h) (not_taken q n es (not_later q e es h))

apart_take : (n : ℕ) (es : Contents) → AreDistinct es → AreDistinct (take n es)
apart_take zero es all = tt
apart_take (suc n) [] all = tt
apart_take (suc n) (e ∷ es) all = (not_taken e.0 n es all.0, apart_take n es all.1)

each_there : (e : ℕ × List ℕ) (xs ys : Contents) → is_in e.0 xs ≡ false → Each (λ x. is_in x.0 ys ≡ false) xs → Each (λ x. is_in x.0 (e ∷ ys) ≡ false) xs
each_there e [] ys absent all = tt
each_there e (x ∷ xs) ys absent all =
    (not_there x.0 e ys (λ same. not_first e.0 x xs absent (sym same)) all.0, each_there e xs ys (not_later e.0 x xs absent) all.1)

apart_aux : (xs ys zs : Contents) → AreDistinct xs → AreDistinct (ys ++ zs) → Each (λ x. is_in x.0 (ys ++ zs) ≡ false) xs → AreDistinct (reverse_aux xs ys ++ zs)
apart_aux [] ys zs all rest between = rest
apart_aux (x ∷ xs) ys zs all rest between = apart_aux xs (x ∷ ys) zs all.1 (between.0, rest) (each_there x xs (ys ++ zs) all.0 between.1)

-- the idle list stays so where others go before it
pub apart_rested : (more idle : Contents) → AreDistinct more → AreDistinct idle → Each (λ e. is_in e.0 idle ≡ false) more → AreDistinct (rested more idle)
apart_rested more idle all rest between = apart_take 64 (reverse more ++ idle) (apart_aux more [] idle all rest between)

-- a block is nowhere else in such a list
pub apart_without : (b : ℕ) (es : Contents) → AreDistinct es → is_in b (without b es) ≡ false
apart_without b [] all = refl
apart_without b (e ∷ es) all =
    elim (cases_eq b e.0) [
      | inl same ↦ ap (is_in b) (without_first b e es same) ∙ ap (λ (x : ℕ). is_in x es) same ∙ all.0
      | inr other ↦ ap (is_in b) (without_later b e es other) ∙ not_there b e (without b es) other (apart_without b es all.1)
    ]

not_without : (q b : ℕ) (es : Contents) → is_in q es ≡ false → is_in q (without b es) ≡ false
not_without q b [] h = refl
not_without q b (e ∷ es) h =
    elim (cases_eq b e.0) [
      | inl same ↦ ap (is_in q) (without_first b e es same) ∙ not_later q e es h
      | inr other ↦ ap (is_in q) (without_later b e es other) ∙ not_there q e (without b es) (not_first q e es h) (not_without q b es (not_later q e es h))
    ]

-- a list without one block has each once
pub apart_less : (b : ℕ) (es : Contents) → AreDistinct es → AreDistinct (without b es)
apart_less b [] all = tt
apart_less b (e ∷ es) all =
    elim (cases_eq b e.0) [
      | inl same ↦ subst AreDistinct (sym (without_first b e es same)) all.1
      | inr other ↦ subst AreDistinct (sym (without_later b e es other)) (not_without e.0 b es all.0, apart_less b es all.1)
    ]

-- what is not there is not among what is left
pub not_left : (q b : ℕ) (es : Contents) → is_in q es ≡ false → is_in q (without b es) ≡ false
not_left q b es h = not_without q b es h
