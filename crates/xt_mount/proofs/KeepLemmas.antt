-- A transaction that is taken out, changed and put back.
use Rattle.std.proofs.Common.{◌≡◌, ◌≢◌, ◌∙◌, ◌+◌, ◌<◌, ◌≤◌, Bool, false, true, ℕ, suc, List, Option, None, [], ◌∷◌, Some, sym, ap, subst, refl, inl, inr, arith, IfSome, length, not}
use Rattle.std.proofs.lemmas.Bool.{cases_Bool, cases_order, false≢true}
use Rattle.std.specs.Prelude.{is_none, ◌&&◌, ◌||◌}
use Rattle.xt_base.specs.Maps.{at, has, is_in, put, set_at, without}
use Rattle.xt_base.specs.Calls.{is_absent, is_fresh, is_own, with_leg}
use Rattle.xt_base.specs.Sound.{IsRising, IsSound, IsUnwritten, RisesFrom}
use Rattle.xt_base.specs.Space.{flight_items, is_busy}
use Rattle.xt_base.specs.State.{Leg, State, Transaction}
use Rattle.xt_base.proofs.MapLemmas.{some_none, at_later, put_less, put_more, set_first, set_later, without_first, without_later}
use Rattle.xt_base.proofs.KeyLemmas.{each_has}
use Rattle.xt_base.proofs.RisingLemmas.{none_below}
use Rattle.xt_base.proofs.SoundBounds.{few_changes, few_holds, fewer_changes, fewer_holds}

apart : (k n : ℕ) → n < k → k ≢ n
apart k n lt same = omega arith

module _ {V : Type 0} where
  -- a key below all others goes in front
  put_front : (k n : ℕ) (v : V) (es : List (ℕ × V)) → k < n → RisesFrom n es → put k v es ≡ (k, v) ∷ es
  put_front k n v [] lt rises = refl
  put_front k n v (e ∷ es) lt rises = put_less k v e es (omega (arith, rises.0))

  -- an entry that is taken out and put back with another value
  put_without : (n k : ℕ) (u v : V) (es : List (ℕ × V)) → RisesFrom n es → at k es ≡ Some u → put k v (without k es) ≡ set_at k v es
  put_without n k u v [] rises there = some_none u (put k v [] ≡ []) (sym there)
  put_without n k u v (e ∷ es) rises there =
      elim (cases_order k e.0) [
        | inl same ↦ ap (put k v) (without_first k e es same) ∙ put_front k (suc e.0) v es (omega arith) rises.1 ∙ ap (λ i. (i, v) ∷ es) same ∙ sym (set_first k v e es same)
        | inr (inl less) ↦ some_none u (put k v (without k (e ∷ es)) ≡ set_at k v (e ∷ es)) (sym there ∙ none_below k e.0 (e ∷ es) less (omega arith, rises.1))
        | inr (inr more) ↦ ap (put k v) (without_later k e es (apart k e.0 more)) ∙ put_more k v e (without k es) more
            ∙ ap (λ xs. e ∷ xs) (put_without (suc e.0) k u v es rises.1 (sym (at_later k e es (apart k e.0 more)) ∙ there)) ∙ sym (set_later k v e es (apart k e.0 more))
      ]

  pub put_back : (k : ℕ) (u v : V) (es : List (ℕ × V)) → IsRising es → at k es ≡ Some u → put k v (without k es) ≡ set_at k v es
  put_back k u v es rises there = put_without 0 k u v es rises there

-- a transaction that was changed in its leg is put back
module _ (s : State) (t : ℕ) (f : Leg → Leg) (u v : Transaction) (m ts : List (ℕ × Transaction)) (there : at t s.transactions ≡ Some u) (rises : IsRising s.transactions)
    (out : m ≡ without t s.transactions) (changed : v ≡ record u { leg = f u.leg }) (in_again : ts ≡ put t v m) where
  back : ts ≡ set_at t (record u { leg = f u.leg }) s.transactions
  back = in_again ∙ ap (put t v) out ∙ put_back t u v s.transactions rises there ∙ ap (λ x. set_at t x s.transactions) changed

  pub kept : IfSome (at t s.transactions) (λ x. record s { transactions = ts } ≡ with_leg t x (f x.leg) s)
  kept = subst (λ o. IfSome o (λ x. record s { transactions = ts } ≡ with_leg t x (f x.leg) s)) (sym there) (ap (λ xs. record s { transactions = xs }) back)

-- there is room for one more change of an own block, and for one more hold mark
sum_small : (m n : ℕ) → m ≤ 64 → n < 64 → n + m < 128
sum_small m n few fewer = omega arith

pub room_changed : (s : State) (t b : ℕ) (u : Transaction) → IsSound s → Some u ≡ at t s.transactions → is_own s t b ≡ true
    → IfSome (at t s.transactions) (λ x. is_in b x.leg.changes ≡ false → length x.leg.changes + length x.leg.holds < 128)
room_changed s t b u sound there own =
    subst (λ o. IfSome o (λ x. is_in b x.leg.changes ≡ false → length x.leg.changes + length x.leg.holds < 128)) there
    (λ fresh. sum_small (length u.leg.holds) (length u.leg.changes) (few_holds s sound t u (sym there)) (fewer_changes s sound t u (sym there) b own fresh))

pub room_held : (s : State) (t b : ℕ) (u : Transaction) → IsSound s → Some u ≡ at t s.transactions → is_own s t b ≡ true
    → IfSome (at t s.transactions) (λ x. has x.leg.holds b ≡ false → length x.leg.changes + length x.leg.holds < 128)
room_held s t b u sound there own =
    subst (λ o. IfSome o (λ x. has x.leg.holds b ≡ false → length x.leg.changes + length x.leg.holds < 128)) there
    (λ free. omega (arith, few_changes s sound t u (sym there), fewer_holds s sound t u (sym there) b own free))

-- what follows for what is there
pub if_then : {X : Type 0} (o : Option X) (P Q : X → Type 0) → ((x : X) → P x → Q x) → IfSome o P → IfSome o Q
if_then None P Q f h = tt
if_then (Some x) P Q f h = f x h

-- ---- a block that is not on the commit list
-- a listed block is busy
listed_by : (a b c d : Bool) → (a || (b || c || d)) ≡ false → b ≡ false
listed_by true b c d is = absurd (false≢true (sym is))
listed_by false true c d is = absurd (false≢true (sym is))
listed_by false false c d is = refl

pub unlisted_free : (s : State) (b : ℕ) → is_busy s b ≡ false → is_in b s.items.cil ≡ false
unlisted_free s b free = listed_by (is_in b s.owners) (is_in b s.items.cil) (is_in b (flight_items s.items.flight)) (is_in b s.items.ail) free

-- one that a transaction does not have, and that is not resident, is fresh where it is busy
fresh_by : (own busy fresh idle : Bool) → (not own && not ((busy && not fresh) || idle)) ≡ true → busy ≡ true → fresh ≡ true
fresh_by true busy fresh idle absent is = absurd (false≢true absent)
fresh_by false true true idle absent is = refl
fresh_by false true false idle absent is = absurd (false≢true absent)
fresh_by false false fresh idle absent is = absurd (false≢true is)

-- and fresh blocks are on no list, where the mount is live
pub unlisted_absent : (s : State) (t b : ℕ) → IsSound s → is_absent t b s ≡ true → is_none s.shut ≡ true → is_in b s.items.cil ≡ false
unlisted_absent s t b sound absent live =
    elim (cases_Bool (is_busy s b)) [
      | inl busy ↦
          let fresh : is_fresh s b ≡ true = fresh_by (is_own s t b) (is_busy s b) (is_fresh s b) (is_in b s.frames.idle) absent busy in
          let unwritten : IsUnwritten s.owners s.transactions s.items b = each_has (IsUnwritten s.owners s.transactions s.items) b s.frames.fresh fresh (sound.fresh_owned live) in
          listed_by false (is_in b s.items.cil) (is_in b (flight_items s.items.flight)) (is_in b s.items.ail) unwritten.unlisted
      | inr free ↦ unlisted_free s b free
    ]
