-- Costs of landed checkpoints: which of them still count.
use Rattle.std.proofs.Common.{◌≡◌, ◌∙◌, ◌+◌, ◌≤◌, ℕ, suc, List, [], ◌∷◌, ◌++◌, Option, Some, None, Bool, true, false, not, sym, ap, subst, refl, arith}
use Rattle.std.specs.Prelude.{filter, sum_by, nat_le}
use Rattle.std.proofs.lemmas.List.Sums.{sum_by-cons, sum_by_push}
use Rattle.std.proofs.lemmas.Bool.Decides.{nat_tests}
use Rattle.xt_base.specs.Maps.{put}
use Rattle.xt_base.specs.Sound.{IsRising, Each, AllBelow}
use Rattle.xt_base.proofs.RisingLemmas.{filter_pass, filter_drop, rises_weaker, rises_above, rises_put, put_last, each_map}
use Rattle.xt_resv.specs.Ledgers.{is_counted, still_counted, is_front_uncounted}

-- a checkpoint that comes later counts too
le_more : (a n m : ℕ) → n ≤ m → nat_le a n ≡ true → nat_le a m ≡ true
le_more a n m h e = grind (arith, nat_tests)

counted_later : (least : Option ℕ) (n m : ℕ) → n ≤ m → is_counted least n ≡ true → is_counted least m ≡ true
counted_later None n m h e = e
counted_later (Some least) n m h e = le_more least n m h e

-- what passes everywhere is kept whole
filter_all : (p : ℕ × ℕ → Bool) (xs : List (ℕ × ℕ)) → Each (λ x. p x ≡ true) xs → filter p xs ≡ xs
filter_all p [] each = refl
filter_all p (x ∷ xs) each = filter_pass p x xs each.0 ∙ ap (λ ys. x ∷ ys) (filter_all p xs each.1)

-- a test that is not refused is passed
counted_front : (b : Bool) → not b ≡ false → b ≡ true
counted_front true h = refl
counted_front false h = sym h

-- a test that is refused is not passed
uncounted_front : (b : Bool) → not b ≡ true → b ≡ false
uncounted_front true h = sym h
uncounted_front false h = refl

-- where the first still counts, all do
pub all_counted : (least : Option ℕ) (xs : List (ℕ × ℕ)) → IsRising xs → is_front_uncounted least xs ≡ false → xs ≡ still_counted least xs
all_counted least [] rising kept = refl
all_counted least (e ∷ es) rising kept =
    let here = counted_front (is_counted least e.0) kept in
    sym (filter_all (λ x. is_counted least x.0) (e ∷ es) (here, each_map (λ x. suc e.0 ≤ x.0) (λ x. is_counted least x.0 ≡ true) es (λ x h. counted_later least e.0 x.0 (omega arith) here) (rises_above (suc e.0) es rising.1)))

-- where the first does not, it can go
pub record Goes (least : Option ℕ) (old new : List (ℕ × ℕ)) (cost : ℕ) : Type 0 where
  pub rising : IsRising new
  pub left : still_counted least new ≡ still_counted least old
  pub total : sum_by (λ e. e.1) old ≡ cost + sum_by (λ e. e.1) new

-- a first one that counts no more can go
pub front_goes : (least : Option ℕ) (xs ys : List (ℕ × ℕ)) (e : ℕ × ℕ) → xs ≡ e ∷ ys → IsRising xs → is_front_uncounted least xs ≡ true → Goes least xs ys e.1
front_goes least xs ys e is rising uncounted =
    let cut : IsRising (e ∷ ys) = subst IsRising is rising in
    let old : is_counted least e.0 ≡ false = uncounted_front (is_counted least e.0) (subst (λ zs. is_front_uncounted least zs ≡ true) is uncounted) in
    record {
      rising = rises_weaker 0 (suc e.0) ys (omega arith) cut.1;
      left = sym (ap (still_counted least) is ∙ filter_drop (λ x. is_counted least x.0) e ys old);
      total = ap (sum_by (λ x. x.1)) is ∙ sum_by-cons (λ x. x.1) e ys;
    }

-- the newest checkpoint comes last
pub landed_last : (number cost : ℕ) (old new : List (ℕ × ℕ)) → AllBelow number old → new ≡ old ++ (number, cost) ∷ [] → new ≡ put number cost old
landed_last number cost old new below is = is ∙ sym (put_last number cost old below)

-- with it the numbers still rise
pub landed_rises : (number cost : ℕ) (old new : List (ℕ × ℕ)) → IsRising old → AllBelow number old → new ≡ old ++ (number, cost) ∷ [] → IsRising new
landed_rises number cost old new rising below is = subst IsRising (sym (landed_last number cost old new below is)) (rises_put 0 number cost old (omega arith) rising)

-- and it adds its cost
pub landed_sum : (number cost : ℕ) (old new : List (ℕ × ℕ)) → new ≡ old ++ (number, cost) ∷ [] → sum_by (λ e. e.1) new ≡ sum_by (λ e. e.1) old + cost
landed_sum number cost old new is = ap (sum_by (λ e. e.1)) is ∙ sum_by_push (λ e. e.1) old (number, cost)
