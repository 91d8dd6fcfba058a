-- The landed checkpoints that a mount counts are the texts of its log that its active list needs.
use Rattle.std.proofs.Common.{◌≡◌, ◌∙◌, ◌≤◌, ◌<◌, ◌∷◌, ◌++◌, Bool, List, Some, [], ap, append_assoc, arith, cond, false, inl, inr, length, refl, subst, sym, true, ℕ}
use Rattle.std.proofs.lemmas.Bool.{cases_Bool, false_from_ne_true, false≢true, leb-false, leb-true, lt-leb}
use Rattle.std.proofs.lemmas.List.{append-nil}
use Rattle.std.proofs.lemmas.List.Elements.{filter-append}
use Rattle.std.specs.List.{list_any}
use Rattle.std.specs.Prelude.{filter, if◌then◌else◌, nat_le, not, ◌==◌, ◌||◌}
use Rattle.xt_base.proofs.MapLemmas.{put_more}
use Rattle.xt_base.proofs.RisingLemmas.{each_at, each_filter, each_map, each_put, each_without, filter_drop, filter_pass}
use Rattle.xt_base.proofs.SoundParts.{activated_one}
use Rattle.xt_base.specs.Jobs.{activated, cleaned, landed_items}
use Rattle.xt_base.specs.Maps.{at, has, is_in, put, without}
use Rattle.xt_base.specs.Sound.{AllBelow, Each, IsRising}
use Rattle.xt_base.specs.Space.{cost, is_needed, still_needed}
use Rattle.xt_base.specs.State.{Flight, Items}
use Rattle.xt_recovery.proofs.LogLemmas.{from_first, from_less}
use Rattle.xt_recovery.proofs.LogMatching.{costs_of}
use Rattle.xt_recovery.proofs.MatchLemmas.{each_append, each_entry}
use Rattle.xt_recovery.specs.DiskSteps.{IsTail}
use Rattle.xt_recovery.specs.Log.{CheckpointText, texts_from}
use Rattle.xt_recovery.specs.Numbers.{AreBelow, AreConsecutive, AreFalling, IsNext}

module _ {A : Type 0} where
  -- what passes the finer of two filters is what it passes alone
  filter_finer : (p q : A → Bool) (xs : List A) → Each (λ x. q x ≡ true → p x ≡ true) xs → filter q (filter p xs) ≡ filter q xs
  filter_finer p q [] all = refl
  filter_finer p q (x ∷ xs) all =
      let rest = filter_finer p q xs all.1 in
      elim (cases_Bool (p x)) [
        | inl passes ↦ ap (filter q) (filter_pass p x xs passes) ∙ ap (λ ys. cond (q x) (x ∷ ys) ys) rest
        | inr fails ↦ ap (filter q) (filter_drop p x xs fails) ∙ rest ∙ sym (filter_drop q x xs (false_from_ne_true (q x) (λ passes. false≢true (sym fails ∙ all.0 passes))))
      ]

  -- a filter that each passes
  pub filter_all : (p : A → Bool) (xs : List A) → Each (λ x. p x ≡ true) xs → filter p xs ≡ xs
  filter_all p [] all = refl
  filter_all p (x ∷ xs) all = filter_pass p x xs all.0 ∙ ap (λ ys. x ∷ ys) (filter_all p xs all.1)

  -- a filter that none passes
  filter_none : (p : A → Bool) (xs : List A) → Each (λ x. p x ≡ false) xs → filter p xs ≡ []
  filter_none p [] all = refl
  filter_none p (x ∷ xs) all = filter_drop p x xs all.0 ∙ filter_none p xs all.1

-- ---- what an active list needs
-- a checkpoint that no block needs is older than each of them
later_each : (n : ℕ) (ail : List (ℕ × ℕ)) → is_needed ail n ≡ false → Each (λ e. n < e.1) ail
later_each n [] unneeded = tt
later_each n (e ∷ es) unneeded =
    elim (cases_Bool (nat_le e.1 n)) [
      | inl needs ↦ absurd (false≢true (sym unneeded ∙ ap (λ b. b || list_any (λ x. nat_le x.1 n) es) needs))
      | inr later ↦ (leb-false e.1 n later, later_each n es (sym (ap (λ b. b || list_any (λ x. nat_le x.1 n) es) later) ∙ unneeded))
    ]

-- and one that is older than each is not needed
unneeded_by : (n : ℕ) (ail : List (ℕ × ℕ)) → Each (λ e. n < e.1) ail → is_needed ail n ≡ false
unneeded_by n [] all = refl
unneeded_by n (e ∷ es) all = ap (λ b. b || list_any (λ x. nat_le x.1 n) es) (lt-leb e.1 n all.0) ∙ unneeded_by n es all.1

-- what a list needs, another needs whose blocks are later only where those of the first are
needed_by : (n : ℕ) (old new : List (ℕ × ℕ)) → (Each (λ e. n < e.1) old → Each (λ e. n < e.1) new) → is_needed new n ≡ true → is_needed old n ≡ true
needed_by n old new later needed =
    elim (cases_Bool (is_needed old n)) [
      | inl does ↦ does
      | inr lacks ↦ absurd (false≢true (sym (unneeded_by n new (later (later_each n old lacks))) ∙ needed))
    ]

-- a block needs each checkpoint from its own on
pub needed_from : (b k n : ℕ) (ail : List (ℕ × ℕ)) → at b ail ≡ Some k → k ≤ n → is_needed ail n ≡ true
needed_from b k n ail there from =
    elim (cases_Bool (is_needed ail n)) [
      | inl does ↦ does
      | inr lacks ↦ let late : n < k = each_at (λ e. n < e.1) b k ail there (later_each n ail lacks) in absurd (omega (arith, from, late))
    ]

-- a checkpoint below a tail is not needed
unneeded : (n k : ℕ) (l : Items) → IsRising l.ail → IsTail n l → k < n → is_needed l.ail k ≡ false
unneeded n k l rises tail less =
    unneeded_by k l.ail (each_map (λ e. at e.0 l.ail ≡ Some e.1) (λ e. k < e.1) l.ail (λ e there. let high = tail e.0 e.1 there in omega (arith, high, less)) (each_entry 0 l.ail rises))

-- blocks that a checkpoint puts on the active list have its number
each_activated : (P : ℕ × ℕ → Type 0) (number : ℕ) (es : List (ℕ × List ℕ)) (ail : List (ℕ × ℕ)) → ((b : ℕ) → P (b, number)) → Each P ail → Each P (activated number es ail)
each_activated P number [] ail new all = all
each_activated P number (e ∷ es) ail new all = each_activated P number es (activated_one number e ail) new (each_one (length e.1 == 0) (is_in e.0 ail))
  where
    each_one : (cancels there : Bool) → Each P (if cancels then without e.0 ail else (if there then ail else put e.0 number ail))
    each_one true there = each_without P e.0 ail all
    each_one false true = all
    each_one false false = each_put P e.0 number ail (new e.0) all

-- ---- numbers
-- the number that comes next is above each
pub below_next : (n : ℕ) (log : List CheckpointText) → IsNext n log → AreConsecutive log → AreBelow n log
below_next n [] next chain = tt
below_next n (w ∷ ws) next chain =
    (omega (arith, next), each_map (λ v. v.number < w.number) (λ v. v.number < n) ws (λ v less. omega (arith, next, less)) (below_next w.number ws chain.0 chain.1))

-- consecutive numbers fall
pub consecutive_fall : (log : List CheckpointText) → AreConsecutive log → AreFalling log
consecutive_fall [] chain = tt
consecutive_fall (w ∷ ws) chain = (below_next w.number ws chain.0 chain.1, consecutive_fall ws chain.1)

-- ---- costs
-- what holds of the number of each text
pub each_costs : (P : ℕ → Type 0) (ends : ℕ) (log : List CheckpointText) → Each (λ w. P w.number) log → Each (λ e. P e.0) (costs_of ends log)
each_costs P ends [] all = tt
each_costs P ends (w ∷ ws) all = each_append (λ e. P e.0) (costs_of ends ws) ((w.number, cost ends w.items) ∷ []) (each_costs P ends ws all.1) (all.0, tt)

-- the costs of older texts come first
pub costs_append : (ends : ℕ) (newer older : List CheckpointText) → costs_of ends (newer ++ older) ≡ costs_of ends older ++ costs_of ends newer
costs_append ends [] older = sym (append-nil (costs_of ends older))
costs_append ends (w ∷ ws) older =
    ap (λ es. es ++ (w.number, cost ends w.items) ∷ []) (costs_append ends ws older) ∙ append_assoc (costs_of ends older) (costs_of ends ws) ((w.number, cost ends w.items) ∷ [])

-- a number above all others is put at the end
put_last : (n v : ℕ) (es : List (ℕ × ℕ)) → AllBelow n es → put n v es ≡ es ++ (n, v) ∷ []
put_last n v [] all = refl
put_last n v (e ∷ es) all = put_more n v e es all.0 ∙ ap (λ xs. e ∷ xs) (put_last n v es all.1)

-- ---- what is counted
-- where a checkpoint above all others lands
pub counted_landed : (f : Flight) (ends : ℕ) (log : List CheckpointText) (l : Items) → AreBelow f.number log → still_needed l.ail (costs_of ends log) ≡ l.landed
    → still_needed (landed_items ends f l).ail (costs_of ends log ++ (f.number, cost ends f.items) ∷ []) ≡ (landed_items ends f l).landed
counted_landed f ends log l below counted =
    let ail : List (ℕ × ℕ) = activated f.number f.items l.ail in
    let costs : List (ℕ × ℕ) = costs_of ends log in
    let here : List (ℕ × ℕ) = (f.number, cost ends f.items) ∷ [] in
    let was : ℕ × ℕ → Bool = λ e. is_needed l.ail e.0 in
    let now : ℕ × ℕ → Bool = λ e. is_needed ail e.0 in
    let older : AllBelow f.number costs = each_costs (λ k. k < f.number) ends log below in
    let fewer : AllBelow f.number l.landed = subst (AllBelow f.number) counted (each_filter (λ e. e.0 < f.number) was costs older) in
    let finer : Each (λ e. now e ≡ true → was e ≡ true) costs =
    each_map (λ e. e.0 < f.number) (λ e. now e ≡ true → was e ≡ true) costs
    (λ e less. needed_by e.0 l.ail ail (each_activated (λ x. e.0 < x.1) f.number f.items l.ail (λ b. less))) older
    in
    filter-append now costs here ∙ ap (λ xs. xs ++ filter now here) (sym (filter_finer was now costs finer) ∙ ap (filter now) counted) ∙ sym (filter-append now l.landed here)
    ∙ ap (filter now) (sym (put_last f.number (cost ends f.items) l.landed fewer))

-- where blocks leave the active list
pub counted_cleaned : (blocks : List ℕ) (costs : List (ℕ × ℕ)) (l : Items) → still_needed l.ail costs ≡ l.landed → still_needed (cleaned blocks l).ail costs ≡ (cleaned blocks l).landed
counted_cleaned blocks costs l counted = sym (filter_finer was now costs (finer costs)) ∙ ap (filter now) counted
  where
    stays : ℕ × ℕ → Bool
    stays e = not (has blocks e.0)

    was : ℕ × ℕ → Bool
    was e = is_needed l.ail e.0

    now : ℕ × ℕ → Bool
    now e = is_needed (filter stays l.ail) e.0

    finer : (es : List (ℕ × ℕ)) → Each (λ e. now e ≡ true → was e ≡ true) es
    finer [] = tt
    finer (e ∷ es) = (needed_by e.0 l.ail (filter stays l.ail) (each_filter (λ x. e.0 < x.1) stays l.ail), finer es)

-- where the log was cut at a tail
pub counted_cut : (n ends : ℕ) (l : Items) (log : List CheckpointText) → IsRising l.ail → IsTail n l → AreFalling log → still_needed l.ail (costs_of ends (texts_from n log)) ≡ still_needed l.ail (costs_of ends log)
counted_cut n ends l [] rises tail falls = refl
counted_cut n ends l (w ∷ ws) rises tail falls =
    let needs : ℕ × ℕ → Bool = λ e. is_needed l.ail e.0 in
    let here : List (ℕ × ℕ) = (w.number, cost ends w.items) ∷ [] in
    elim (cases_Bool (nat_le n w.number)) [
      | inl stays ↦
          ap (λ xs. filter needs (costs_of ends xs)) (from_first n w ws (leb-true n w.number stays)) ∙ filter-append needs (costs_of ends (texts_from n ws)) here
          ∙ ap (λ xs. xs ++ filter needs here) (counted_cut n ends l ws rises tail falls.1) ∙ sym (filter-append needs (costs_of ends ws) here)
      | inr goes ↦
          let less : w.number < n = leb-false n w.number goes in
          let below : AreBelow n (w ∷ ws) = (less, each_map (λ v. v.number < w.number) (λ v. v.number < n) ws (λ v under. omega (arith, under, less)) falls.0) in
          ap (λ xs. filter needs (costs_of ends xs)) (from_less n w ws goes)
          ∙ sym (filter_none needs (costs_of ends (w ∷ ws)) (each_costs (λ k. is_needed l.ail k ≡ false) ends (w ∷ ws) (each_map (λ v. v.number < n) (λ v. is_needed l.ail v.number ≡ false) (w ∷ ws) (λ v. unneeded n v.number l rises tail) below)))
    ]
