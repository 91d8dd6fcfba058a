-- Lists of names without a name twice, and what filters leave of them.
use Rattle.std.proofs.Common.{◌≡◌, ◌∙◌, ◌⊎◌, ◌++◌, ◌∷◌, Bool, List, None, Option, Some, [], ap, false, inl, inr, refl, sym, true, ℕ}
use Rattle.std.proofs.lemmas.Bool.{and_parts, cases_Bool, eq-eqb, eqb-true, false≢true, not-true, or_parts}
use Rattle.std.proofs.lemmas.List.Elements.{filter-append}
use Rattle.std.proofs.lemmas.List.Folds.{list_any-append}
use Rattle.std.specs.List.{cons_option}
use Rattle.std.specs.Prelude.{filter, filter_map, not, ◌&&◌, ◌==◌, ◌||◌}
use Rattle.xt_base.proofs.RisingLemmas.{filter_drop, filter_pass}
use Rattle.xt_base.specs.Order.{is_among, same_kind, same_name}
use Rattle.xt_base.specs.declared.names.JobKind.{JobKind}
use Rattle.xt_base.specs.declared.names.JobName.{JobName}

-- ---- two names
kinds_alike : (a b : JobKind) → same_kind a b ≡ true → a ≡ b
kinds_alike JobKind.Ckpt JobKind.Ckpt h = refl
kinds_alike JobKind.Ckpt JobKind.Flush h = absurd (cc)
kinds_alike JobKind.Flush JobKind.Ckpt h = absurd (cc)
kinds_alike JobKind.Flush JobKind.Flush h = refl

kind_itself : (a : JobKind) → same_kind a a ≡ true
kind_itself JobKind.Ckpt = refl
kind_itself JobKind.Flush = refl

-- what two names that are one have alike
pub record AreAlike (a b : JobName) : Type 0 where
  pub slot : a.slot ≡ b.slot
  pub life : a.life ≡ b.life
  pub kind : a.kind ≡ b.kind
  pub serial : a.serial ≡ b.serial

-- two names that pass the test have all alike
pub alike : (a b : JobName) → same_name a b ≡ true → AreAlike a b
alike a b h =
    let serials = and_parts ((a.slot == b.slot) && (a.life == b.life) && same_kind a.kind b.kind) (a.serial == b.serial) h in
    let kinds = and_parts ((a.slot == b.slot) && (a.life == b.life)) (same_kind a.kind b.kind) serials.0 in
    let lives = and_parts (a.slot == b.slot) (a.life == b.life) kinds.0 in
    record { slot = eqb-true _ _ lives.0; life = eqb-true _ _ lives.1; kind = kinds_alike _ _ kinds.1; serial = eqb-true _ _ serials.1 }

name_of : ℕ → ℕ → JobKind → ℕ → JobName
name_of slot life kind serial = record { slot = slot; life = life; kind = kind; serial = serial }

-- two names that pass the test are one
pub same_names : (a b : JobName) → same_name a b ≡ true → a ≡ b
unfolding name_of
same_names a b h =
    let e : AreAlike a b = alike a b h in
    let one : name_of a.slot a.life a.kind a.serial ≡ name_of b.slot b.life b.kind b.serial =
    ap (λ s. name_of s a.life a.kind a.serial) e.slot ∙ ap (λ l. name_of b.slot l a.kind a.serial) e.life ∙ ap (λ k. name_of b.slot b.life k a.serial) e.kind ∙ ap (name_of b.slot b.life b.kind) e.serial in
    one

-- a name passes the test with itself
pub name_itself : (a : JobName) → same_name a a ≡ true
name_itself a =
    ap (λ x. x && (a.life == a.life) && same_kind a.kind a.kind && (a.serial == a.serial)) (eq-eqb a.slot a.slot refl)
    ∙ ap (λ x. x && same_kind a.kind a.kind && (a.serial == a.serial)) (eq-eqb a.life a.life refl)
    ∙ ap (λ x. x && (a.serial == a.serial)) (kind_itself a.kind)
    ∙ eq-eqb a.serial a.serial refl

-- the test does not mind the order
pub name_other : (a b : JobName) → same_name a b ≡ false → same_name b a ≡ false
name_other a b h =
    elim (cases_Bool (same_name b a)) [
      | inl one ↦ absurd (false≢true (sym h ∙ ap (λ c. same_name c b) (sym (same_names b a one)) ∙ name_itself b))
      | inr other ↦ other
    ]

-- ---- lists of names
-- the first of some names is among them
pub among_first : (n : JobName) (ns : List JobName) → is_among (n ∷ ns) n ≡ true
among_first n ns = ap (λ x. x || is_among ns n) (name_itself n)

or_right : (x y : Bool) → y ≡ true → (x || y) ≡ true
or_right true y h = refl
or_right false y h = h

or_left : (x y : Bool) → x ≡ true → (x || y) ≡ true
or_left x y h = ap (λ b. b || y) h

or_false : (x y : Bool) → x ≡ false → y ≡ false → (x || y) ≡ false
or_false x y hx hy = ap (λ b. b || y) hx ∙ hy

-- no name stands twice
abbrev pub is_distinct : List JobName → Bool
is_distinct [] = true
is_distinct (n ∷ ns) = not (is_among ns n) && is_distinct ns

-- one more name, that is not among them
pub distinct_more : (ns : List JobName) (n : JobName) → is_distinct ns ≡ true → is_among ns n ≡ false → is_distinct (ns ++ n ∷ []) ≡ true
distinct_more [] n d new = refl
distinct_more (x ∷ xs) n d new =
    let ds = and_parts (not (is_among xs x)) (is_distinct xs) d in
    let news = or_parts (same_name n x) (is_among xs n) new in
    let apart : is_among (xs ++ n ∷ []) x ≡ false =
    list_any-append (same_name x) xs (n ∷ [])
    ∙ or_false (is_among xs x) (same_name x n || false) (not-true (is_among xs x) ds.0) (or_false (same_name x n) false (name_other n x news.0) refl) in
    ap (λ b. not b && is_distinct (xs ++ n ∷ [])) apart ∙ distinct_more xs n ds.1 news.1

-- where no name stands twice, a later one is not among the earlier ones
pub apart_from : (ns q : List JobName) (n : JobName) → is_distinct (ns ++ q) ≡ true → is_among q n ≡ true → is_among ns n ≡ false
apart_from [] q n d there = refl
apart_from (x ∷ xs) q n d there =
    let ds = and_parts (not (is_among (xs ++ q) x)) (is_distinct (xs ++ q)) d in
    let later : is_among (xs ++ q) n ≡ true = list_any-append (same_name n) xs q ∙ or_right (is_among xs n) (is_among q n) there in
    elim (cases_Bool (same_name n x)) [
      | inl one ↦ absurd (false≢true (sym (not-true (is_among (xs ++ q) x) ds.0) ∙ ap (is_among (xs ++ q)) (sym (same_names n x one)) ∙ later))
      | inr other ↦ or_false (same_name n x) (is_among xs n) other (apart_from xs q n ds.1 there)
    ]

-- a filter by other names leaves none that is among them
pub filter_gone : (others ns : List JobName) → ((n : JobName) → is_among ns n ≡ true → is_among others n ≡ true) → filter (λ n. not (is_among others n)) ns ≡ []
filter_gone others [] h = refl
filter_gone others (x ∷ xs) h =
    filter_drop (λ n. not (is_among others n)) x xs (ap not (h x (among_first x xs)))
    ∙ filter_gone others xs (λ n there. h n (or_right (same_name n x) (is_among xs n) there))

-- and all where none is among them
pub filter_kept : (others ns : List JobName) → ((n : JobName) → is_among ns n ≡ true → is_among others n ≡ false) → filter (λ n. not (is_among others n)) ns ≡ ns
filter_kept others [] h = refl
filter_kept others (x ∷ xs) h =
    filter_pass (λ n. not (is_among others n)) x xs (ap not (h x (among_first x xs)))
    ∙ ap (λ l. x ∷ l) (filter_kept others xs (λ n there. h n (or_right (same_name n x) (is_among xs n) there)))

-- of names without one twice, the ones not among the first are the rest
pub filter_rest : (ns q : List JobName) → is_distinct (ns ++ q) ≡ true → filter (λ n. not (is_among ns n)) (ns ++ q) ≡ q
filter_rest ns q d =
    filter-append (λ n. not (is_among ns n)) ns q
    ∙ ap (λ l. l ++ filter (λ n. not (is_among ns n)) q) (filter_gone ns ns (λ n there. there))
    ∙ filter_kept ns q (λ n there. apart_from ns q n d there)

-- ---- names read off a history
among_cons : (o : Option JobName) (ns : List JobName) (n : JobName) → is_among ns n ≡ true → is_among (cons_option o ns) n ≡ true
among_cons None ns n h = h
among_cons (Some x) ns n h = or_right (same_name n x) (is_among ns n) h

among_both : (o : Option JobName) (ns ms : List JobName) (n : JobName) → (is_among ns n ≡ true → is_among ms n ≡ true) → is_among (cons_option o ns) n ≡ true → is_among (cons_option o ms) n ≡ true
among_both None ns ms n h there = h there
among_both (Some x) ns ms n h there =
    elim (cases_Bool (same_name n x)) [
      | inl one ↦ or_left (same_name n x) (is_among ms n) one
      | inr other ↦ or_right (same_name n x) (is_among ms n) (h (ap (λ b. b || is_among ns n) (sym other) ∙ there))
    ]

module _ {X : Type 0} where
  -- what one reading gives is among what another gives that says at least as much
  pub among_more : (f g : X → Option JobName) → ((x : X) → (f x ≡ None) ⊎ (f x ≡ g x)) → (xs : List X) (n : JobName) → is_among (filter_map f xs) n ≡ true → is_among (filter_map g xs) n ≡ true
  among_more f g h [] n there = there
  among_more f g h (x ∷ xs) n there =
      elim (h x) [
        | inl none ↦ among_cons (g x) (filter_map g xs) n (among_more f g h xs n (ap (λ o. is_among (cons_option o (filter_map f xs)) n) (sym none) ∙ there))
        | inr same ↦ among_both (g x) (filter_map f xs) (filter_map g xs) n (among_more f g h xs n) (ap (λ o. is_among (cons_option o (filter_map f xs)) n) (sym same) ∙ there)
      ]
