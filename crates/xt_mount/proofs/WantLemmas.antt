-- A roll that goes on wants memory only to name the blocks that it leaves held.
use Rattle.std.proofs.Common.{◌≡◌, ◌<◌, ◌∷◌, Bool, Err, Ok, OnErr, Result, List, Option, Some, [], arith, false, if◌then◌else◌, length, refl, subst, sym, true, ℕ}
use Rattle.std.proofs.lemmas.Bool.{false≢true}
use Rattle.std.specs.Prelude.{is_some, not}
use Rattle.xt_base.specs.Alone.{names_held}
use Rattle.xt_base.specs.Calls.{Outcome, committed_of, held_of, is_no_room, roll, with_trans}
use Rattle.xt_base.specs.State.{State, Transaction}

-- what holds wherever there is an error
pub on_err : {A B : Type 0} (r : Result A B) (P : Type 0) → P → OnErr r P
on_err (Ok x) P h = tt
on_err (Err e) P h = h

names_committed : (number : ℕ) (h : List ℕ) → 0 < length h → names_held (committed_of number (held_of h)) ≡ true
names_committed number [] some = absurd (omega (arith, some))
names_committed number (b ∷ bs) some = refl

second : (b : Bool) (x y : Outcome) → b ≡ false → names_held y.reply ≡ true → names_held (if b then x else y).reply ≡ true
second true x y is h = absurd (false≢true (sym is))
second false x y is h = h

pub roll_names : (s : State) (t : ℕ) (trans : Transaction) (there : Option Transaction) → Some trans ≡ there → 0 < length trans.leg.holds → not trans.perm ≡ false → is_some s.shut ≡ false → is_no_room t trans s ≡ false
    → names_held (with_trans there s (roll [] t s)).reply ≡ true
roll_names s t trans there is some perm shut room =
    subst (λ o. names_held (with_trans o s (roll [] t s)).reply ≡ true) is
    (second (not trans.perm) _ _ perm (second (is_some s.shut) _ _ shut (second (is_no_room t trans s) _ _ room (names_committed _ trans.leg.holds some))))
