-- The end of a leg, and what its transaction answers.
use Rattle.std.proofs.Common.{◌≡◌, ◌∙◌, Bool, IfSome, List, Option, Some, None, [], ap, false, if◌then◌else◌, not, refl, subst, sym, true, ◌∷◌, ℕ}
use Rattle.std.proofs.lemmas.Bool.{false≢true}
use Rattle.std.specs.List.{cons_option}
use Rattle.std.specs.Prelude.{filter_map, is_none, is_some, option_map, ◌&&◌}
use Rattle.xt_base.proofs.SoundBuffers.{sound_shut_if}
use Rattle.xt_base.specs.Calls.{cancel, closed, gives, held_of, okay_of, shut_for, shut_if, with_trans}
use Rattle.xt_base.specs.Legs.{aborted, is_dirty, is_stale, owned_by, owner_aborted, owner_after}
use Rattle.xt_base.specs.Maps.{at, has, is_in}
use Rattle.xt_base.specs.Settle.{settled}
use Rattle.xt_base.specs.Sound.{IsSound}
use Rattle.xt_base.specs.State.{Leg, State, Transaction}
use Rattle.xt_base.specs.declared.steps.Owner.{Owner}
use Rattle.xt_base.specs.declared.steps.Owner.TheVariants.{Held, Stale}
use Rattle.xt_base.specs.declared.steps.Reason.{Reason}
use Rattle.xt_base.specs.declared.steps.Reason.TheVariants.{CorruptIncore}
use Rattle.xt_base.specs.declared.steps.Reply.{Reply}
use Rattle.xt_locks.specs.Locking.{passed}
use Rattle.xt_mount.specs.Ending.{owner_kept, owner_left}

-- a fact of the value that is there
pub if_some : {A : Type 0} (o : Option A) (P : A → Type 0) (x : A) → Some x ≡ o → P x → IfSome o P
if_some o P x is h = subst (λ q. IfSome q P) is h

pub some_if : {A : Type 0} (o : Option A) (P : A → Type 0) (x : A) → Some x ≡ o → IfSome o P → P x
some_if o P x is h = subst (λ q. IfSome q P) (sym is) h

-- ---- choices

-- ---- owners
-- two ways to pass entries on that agree
passed_alike : (f g : ℕ × Owner → Option (ℕ × Owner)) → ((e : ℕ × Owner) → f e ≡ g e) → (os : List (ℕ × Owner)) → filter_map f os ≡ filter_map g os
passed_alike f g same [] = refl
passed_alike f g same (e ∷ es) = ap (λ o. cons_option o (filter_map f es)) (same e) ∙ ap (cons_option (g e)) (passed_alike f g same es)

left_is : (own stale held : Bool) (e : ℕ × Owner) (number : ℕ)
    → (if not own then Some e else option_map (λ o. (e.0, o)) (if stale then Some (Stale number) else (if held then Some Held else None)))
    ≡ (if not own then Some e else (if stale then Some (e.0, Stale number) else (if held then Some (e.0, Held) else None)))
left_is true true held e number = refl
left_is true false true e number = refl
left_is true false false e number = refl
left_is false stale held e number = refl

kept_is : (own held : Bool) (e : ℕ × Owner) → (if not own then Some e else option_map (λ o. (e.0, o)) (if held then Some Held else None)) ≡ (if not own then Some e else (if held then Some (e.0, Held) else None))
kept_is true true e = refl
kept_is true false e = refl
kept_is false held e = refl

-- the owners after a leg was committed, and after it was given up
pub owners_left : (t number : ℕ) (leg : Leg) (os : List (ℕ × Owner)) → filter_map (passed t (owner_left leg number)) os ≡ filter_map (owner_after t leg number) os
owners_left t number leg os = passed_alike (passed t (owner_left leg number)) (owner_after t leg number) (λ e. left_is (owned_by t e.1) (is_stale e.0 leg) (has leg.holds e.0) e number) os

pub owners_kept : (t : ℕ) (leg : Leg) (os : List (ℕ × Owner)) → filter_map (passed t (owner_kept leg)) os ≡ filter_map (owner_aborted t leg) os
owners_kept t leg os = passed_alike (passed t (owner_kept leg)) (owner_aborted t leg) (λ e. kept_is (owned_by t e.1) (has leg.holds e.0) e) os

-- ---- a leg that is given up
-- where a mount is shut, its leg may be dirty
pub shut_kept : {A : Type 0} (dirty : Bool) (o : Option A) → is_some o ≡ true → (dirty && is_none o) ≡ false
shut_kept true None is = absurd (false≢true is)
shut_kept true (Some a) is = refl
shut_kept false o is = refl

pub and_right : (a b : Bool) → (a && b) ≡ true → b ≡ true
and_right true b is = is
and_right false b is = absurd (false≢true is)

-- its transaction is cancelled: a dirty one shuts the mount first
module _ (s : State) (t : ℕ) (trans : Transaction) (there : Some trans ≡ at t s.transactions) (dirty : Bool) (clean : dirty ≡ is_dirty trans.leg) (mid : State) (shuts : mid ≡ shut_if dirty CorruptIncore s) where
  shut_transactions : (d : Bool) → (shut_if d CorruptIncore s).transactions ≡ s.transactions
  shut_transactions true = refl
  shut_transactions false = refl

  -- it is still there
  pub there_shut : Some trans ≡ at t mid.transactions
  there_shut = there ∙ sym (ap (at t) (shut_transactions dirty)) ∙ sym (ap (λ (x : State). at t x.transactions) shuts)

  pub open_shut : is_in t mid.transactions ≡ true
  open_shut = sym (ap is_some there_shut)

  shut_some : (o : Option Reason) → is_none (shut_for CorruptIncore o) ≡ false
  shut_some None = refl
  shut_some (Some r) = refl

  shut_none : (d : Bool) → (d && is_none (shut_if d CorruptIncore s).shut) ≡ false
  shut_none true = shut_some s.shut
  shut_none false = refl

  pub kept_shut : IfSome (at t mid.transactions) (λ u. (is_dirty u.leg && is_none mid.shut) ≡ false)
  kept_shut =
      if_some (at t mid.transactions) (λ u. (is_dirty u.leg && is_none mid.shut) ≡ false) trans there_shut
      (ap (λ (x : State). is_dirty trans.leg && is_none x.shut) shuts ∙ ap (λ d. d && is_none (shut_if dirty CorruptIncore s).shut) (sym clean) ∙ shut_none dirty)

  pub sound_shut : IsSound s → IsSound mid
  sound_shut sound = subst IsSound (sym shuts) (sound_shut_if dirty CorruptIncore s sound)

  swapped : (d : Bool) → closed t (aborted t trans.leg (shut_if d CorruptIncore s)) ≡ shut_if d CorruptIncore (closed t (aborted t trans.leg s))
  swapped true = refl
  swapped false = refl

  pub cancelled : (held : Option (List ℕ)) (end new : State) (reply : Reply) → held ≡ held_of trans.leg.holds → IfSome (at t mid.transactions) (λ u. end ≡ closed t (aborted t u.leg mid)) → new ≡ settled [] end
      → reply ≡ okay_of held → gives reply new ≡ with_trans (at t s.transactions) s (cancel [] t s)
  cancelled held end new reply named ends settles says =
      ap (gives reply) (settles ∙ ap (settled []) (some_if (at t mid.transactions) (λ u. end ≡ closed t (aborted t u.leg mid)) trans there_shut ends
      ∙ ap (λ x. closed t (aborted t trans.leg x)) shuts ∙ swapped dirty ∙ ap (λ d. shut_if d CorruptIncore (closed t (aborted t trans.leg s))) clean))
      ∙ ap (λ r. gives r (settled [] (shut_if (is_dirty trans.leg) CorruptIncore (closed t (aborted t trans.leg s))))) (says ∙ ap okay_of named)
      ∙ ap (λ o. with_trans o s (cancel [] t s)) there

-- ---- a transaction by its number
-- what is there under a number is there under the same one
pub named : (xs : List (ℕ × Transaction)) {o : Option Transaction} {n m : ℕ} → o ≡ at n xs → n ≡ m → o ≡ at m xs
named xs is same = is ∙ ap (λ k. at k xs) same

-- a fact of what is there under a number
pub as_named : (xs : List (ℕ × Transaction)) (P : Transaction → Type 0) {n m : ℕ} → n ≡ m → IfSome (at n xs) P → IfSome (at m xs) P
as_named xs P same h = subst (λ k. IfSome (at k xs) P) same h
