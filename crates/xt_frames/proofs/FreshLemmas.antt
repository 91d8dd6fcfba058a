-- Fresh blocks by their marks, one by one.
use Rattle.std.proofs.Common.{◌≡◌, ◌∙◌, ◌+◌, ◌++◌, ◌∷◌, List, Some, [], add-one, ap, arith, cond, drop, length, map, refl, subst, suc, sym, take, true, zero, ℕ}
use Rattle.std.proofs.lemmas.List.{length-map}
use Rattle.std.proofs.lemmas.Option.{slice_get-map}
use Rattle.std.specs.List.{cons_option}
use Rattle.std.specs.Prelude.{None, option_map, slice_get}
use Rattle.xt_base.proofs.RisingLemmas.{each_put, each_without, rises_put, rises_weaker, rises_without}
use Rattle.xt_base.specs.Maps.{put, without}
use Rattle.xt_base.specs.Sound.{Each, RisesFrom}
use Rattle.xt_base.specs.declared.marks.ItemMarks.{ItemMarks}
use Rattle.xt_frames.specs.Fresh.{AreFresh, fresh_of, is_fresh_mark}

abbrev Marked : Type 0
Marked = List (ℕ × ItemMarks)

-- the blocks of all entries
keys_all : (es : Marked) → Each (λ e. is_fresh_mark e.1 ≡ true) es → fresh_of es ≡ map (λ e. e.0) es
keys_all [] all = refl
keys_all (e ∷ es) all = ap (λ b. cons_option (cond b (Some e.0) None) (fresh_of es)) all.0 ∙ ap (λ ks. e.0 ∷ ks) (keys_all es all.1)

pub length_fresh : (es : Marked) → AreFresh es → length (fresh_of es) ≡ length es
length_fresh es are = ap (λ (ks : List ℕ). length ks) (keys_all es are.each) ∙ length-map es (λ e. e.0)

pub fresh_there : (es : Marked) (i : ℕ) (e : ℕ × ItemMarks) → AreFresh es → slice_get es i ≡ Some e → slice_get (fresh_of es) i ≡ Some e.0
fresh_there es i e are is = ap (λ ks. slice_get ks i) (keys_all es are.each) ∙ slice_get-map (λ (x : ℕ × ItemMarks). x.0) es i ∙ ap (option_map (λ (x : ℕ × ItemMarks). x.0)) is

-- ---- without the one at a place
each_cut : {A : Type 0} (P : A → Type 0) (es : List A) (i : ℕ) → Each P es → Each P (take i es ++ drop (suc i) es)
each_cut P [] zero all = tt
each_cut P [] (suc i) all = tt
each_cut P (e ∷ es) zero all = all.1
each_cut P (e ∷ es) (suc i) all = (all.0, each_cut P es i all.1)

rises_cut : (n : ℕ) (es : Marked) (i : ℕ) → RisesFrom n es → RisesFrom n (take i es ++ drop (suc i) es)
rises_cut n [] zero r = tt
rises_cut n [] (suc i) r = tt
rises_cut n (e ∷ es) zero r = rises_weaker n (suc e.0) es (omega (arith, r.0)) r.1
rises_cut n (e ∷ es) (suc i) r = (r.0, rises_cut (suc e.0) es i r.1)

map_cut : {A B : Type 0} (f : A → B) (es : List A) (i : ℕ) → map f (take i es ++ drop (suc i) es) ≡ take i (map f es) ++ drop (suc i) (map f es)
map_cut f [] zero = refl
map_cut f [] (suc i) = refl
map_cut f (e ∷ es) zero = refl
map_cut f (e ∷ es) (suc i) = ap (λ xs. f e ∷ xs) (map_cut f es i)

are_cut_suc : (es : Marked) (i : ℕ) → AreFresh es → AreFresh (take i es ++ drop (suc i) es)
are_cut_suc es i are = record { rising = rises_cut 0 es i are.rising; each = each_cut (λ e. is_fresh_mark e.1 ≡ true) es i are.each }

pub are_cut : (es ns : Marked) (i : ℕ) → AreFresh es → ns ≡ take i es ++ drop (i + 1) es → AreFresh ns
are_cut es ns i are is = subst AreFresh (sym (is ∙ ap (λ k. take i es ++ drop k es) (add-one i))) (are_cut_suc es i are)

pub fresh_cut : (es ns : Marked) (i : ℕ) → AreFresh es → ns ≡ take i es ++ drop (i + 1) es → fresh_of ns ≡ take i (fresh_of es) ++ drop (i + 1) (fresh_of es)
fresh_cut es ns i are is =
    let key : ℕ × ItemMarks → ℕ = λ e. e.0 in
    ap fresh_of (is ∙ ap (λ k. take i es ++ drop k es) (add-one i)) ∙ keys_all (take i es ++ drop (suc i) es) (are_cut_suc es i are).each ∙ map_cut key es i
    ∙ ap (λ ks. take i ks ++ drop (suc i) ks) (sym (keys_all es are.each)) ∙ ap (λ k. take i (fresh_of es) ++ drop k (fresh_of es)) (sym (add-one i))

-- ---- with one more, and without one
pub are_put : (es ns : Marked) (b : ℕ) (m : ItemMarks) → AreFresh es → is_fresh_mark m ≡ true → ns ≡ put b m es → AreFresh ns
are_put es ns b m are fresh is =
    subst AreFresh (sym is) (record { rising = rises_put 0 b m es (omega arith) are.rising; each = each_put (λ e. is_fresh_mark e.1 ≡ true) b m es fresh are.each })

pub are_without : (es ns : Marked) (b : ℕ) → AreFresh es → ns ≡ without b es → AreFresh ns
are_without es ns b are is = subst AreFresh (sym is) (record { rising = rises_without 0 b es are.rising; each = each_without (λ e. is_fresh_mark e.1 ≡ true) b es are.each })
