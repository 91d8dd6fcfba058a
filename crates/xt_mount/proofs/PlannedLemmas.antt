-- What a flush writes home no open transaction has changed: nobody has it.
use Rattle.std.proofs.Common.{◌≡◌, ◌∷◌, Bool, List, [], false, if◌then◌else◌, map, suc, take, true, zero, ℕ}
use Rattle.std.proofs.lemmas.Bool.{and_parts, not-true}
use Rattle.std.proofs.lemmas.List.Elements.{All-cons, All-nil}
use Rattle.std.specs.Prelude.{All, is_some, nat_le, not, ◌&&◌}
use Rattle.xt_base.proofs.RisingLemmas.{each_map, each_passes}
use Rattle.xt_base.specs.Jobs.{by_number, eligible, flush_plan, is_eligible, placed}
use Rattle.xt_base.specs.Maps.{is_in}
use Rattle.xt_base.specs.Sound.{Each, IsSound}
use Rattle.xt_base.specs.Space.{flight_items}
use Rattle.xt_base.specs.State.{State}
use Rattle.xt_mount.proofs.ChangedLemmas.{free_unchanged}
use Rattle.xt_mount.specs.Accounts.{IsUnchanged}

module _ (P : ℕ → Type 0) where
  each_either : (b : Bool) (xs ys : List (ℕ × ℕ)) → Each (λ e. P e.0) xs → Each (λ e. P e.0) ys → Each (λ e. P e.0) (if b then xs else ys)
  each_either true xs ys hx hy = hx
  each_either false xs ys hx hy = hy

  each_placed : (e : ℕ × ℕ) (es : List (ℕ × ℕ)) → P e.0 → Each (λ x. P x.0) es → Each (λ x. P x.0) (placed e es)
  each_placed e [] here all = (here, tt)
  each_placed e (x ∷ xs) here all = each_either (nat_le e.1 x.1) (e ∷ x ∷ xs) (x ∷ placed e xs) (here, all) (all.0, each_placed e xs here all.1)

  each_by_number : (es : List (ℕ × ℕ)) → Each (λ e. P e.0) es → Each (λ e. P e.0) (by_number es)
  each_by_number [] all = tt
  each_by_number (e ∷ es) all = each_placed e (by_number es) all.0 (each_by_number es all.1)

  all_first : (n : ℕ) (es : List (ℕ × ℕ)) → Each (λ e. P e.0) es → All P (map (λ e. e.0) (take n es))
  all_first zero es all = All-nil P
  all_first (suc n) [] all = All-nil P
  all_first (suc n) (e ∷ es) all = All-cons P e.0 (map (λ x. x.0) (take n es)) all.0 (all_first n es all.1)

  all_unless : (b : Bool) (xs : List ℕ) → All P xs → All P (if b then [] else xs)
  all_unless true xs all = All-nil P
  all_unless false xs all = all

-- a block that may be written home
eligible_unchanged : (s : State) → IsSound s → (e : ℕ × ℕ) → is_eligible s e ≡ true → IsUnchanged e.0 s.transactions
eligible_unchanged s sound e free =
    let away = and_parts (not (is_in e.0 s.items.cil) && not (is_in e.0 (flight_items s.items.flight))) (not (is_in e.0 s.owners)) free in
    free_unchanged s sound e.0 (not-true (is_in e.0 s.owners) away.1)

pub plan_unchanged : (s : State) → IsSound s → All (λ b. IsUnchanged b s.transactions) (flush_plan s)
plan_unchanged s sound =
    let unchanged : ℕ → Type 0 = λ b. IsUnchanged b s.transactions in
    all_unless unchanged (is_some s.shut) (map (λ e. e.0) (take 8 (by_number (eligible s))))
    (all_first unchanged 8 (by_number (eligible s))
    (each_by_number unchanged (eligible s) (each_map (λ e. is_eligible s e ≡ true) (λ e. unchanged e.0) (eligible s) (eligible_unchanged s sound) (each_passes (is_eligible s) s.items.ail))))
