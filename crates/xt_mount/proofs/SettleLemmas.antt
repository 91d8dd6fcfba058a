-- The frames of a mount, settled.
use Rattle.std.proofs.Common.{◌≡◌, ◌≤◌, ◌∙◌, ◌∷◌, ◌⊎◌, arith, length, suc, List, Option, Some, None, Bool, true, false, not, ap, inl, inr, refl, filter, subst, sym, [], if◌then◌else◌, ℕ}
use Rattle.std.proofs.lemmas.Bool.{cases_eq}
use Rattle.std.specs.Prelude.{◌&&◌, ◌||◌, IfSome, is_none, is_some}
use Rattle.std.proofs.lemmas.List.{take_all}
use Rattle.std.proofs.lemmas.List.Elements.{filter_agree}
use Rattle.xt_base.proofs.MapLemmas.{at_without_other}
use Rattle.xt_base.proofs.RisingLemmas.{each_map}
use Rattle.xt_base.specs.Calls.{with_leg, without_hold}
use Rattle.xt_base.specs.Maps.{at, without}
use Rattle.xt_base.specs.Settle.{leaving, rested, settled}
use Rattle.xt_base.specs.Sound.{AreKept, Each}
use Rattle.xt_base.specs.Space.{is_busy, is_listed}
use Rattle.xt_base.specs.State.{Frames, Items, State, Transaction}
use Rattle.xt_base.specs.declared.steps.Owner.{Owner}
use Rattle.xt_frames.specs.Settling.{AreOthersBusy, leaving_contents, settled_by}
use Rattle.xt_mount.specs.Settling.{is_busy_in}

and_true : (a : Bool) → a ≡ (a && true)
and_true true = refl
and_true false = refl

-- the mount with its frames settled
pub settled_is : (s : State) (f : Frames) (is_live : Bool) → is_live ≡ is_none s.shut → f ≡ settled_by (is_busy s) is_live s.frames → record s { frames = f } ≡ settled [] s
settled_is s f is_live live is =
    let same : leaving_contents (is_busy s) s.frames.committed ≡ leaving [] s = filter_agree (λ e. not (is_busy s e.0)) (λ e. not (is_busy s e.0) && true) (λ e. and_true (not (is_busy s e.0))) s.frames.committed in
    ap (λ x. record s { frames = x }) (is ∙ ap (λ l. settled_by (is_busy s) l s.frames) live)
    ∙ ap (λ xs. record s {
      frames = record {
        committed = filter (λ e. is_busy s e.0) s.frames.committed;
        fresh = filter (is_busy s) s.frames.fresh;
        idle = if is_none s.shut then rested xs s.frames.idle else s.frames.idle;
      };
    }) same

-- the test for none, from the test for some
pub none_is : {X : Type 0} (o : Option X) (r : Bool) → is_some o ≡ not r → r ≡ is_none o
none_is None true e = refl
none_is None false e = cc
none_is (Some x) true e = cc
none_is (Some x) false e = refl

-- a block that lost its owner is the only one that may not be busy any more
module _ (owners left : List (ℕ × Owner)) (l : Items) (b : ℕ) (lost : left ≡ without b owners) where
  still : (x : ℕ) → is_busy_in owners l x ≡ true → (x ≡ b) ⊎ (is_busy_in left l x ≡ true)
  still x busy =
      elim (cases_eq x b) [
        | inl same ↦ inl same
        | inr other ↦ inr (ap (λ o. is_some o || is_listed l x) (ap (at x) lost ∙ at_without_other b x owners other) ∙ busy)
      ]

  pub others_busy : (f : Frames) → AreKept (is_busy_in owners l) f → AreOthersBusy (is_busy_in left l) b f
  others_busy f kept = record {
    contents = each_map (λ e. is_busy_in owners l e.0 ≡ true) (λ e. (e.0 ≡ b) ⊎ (is_busy_in left l e.0 ≡ true)) f.committed (λ e busy. still e.0 busy) kept.committed_busy;
    marks = each_map (λ x. is_busy_in owners l x ≡ true) (λ x. (x ≡ b) ⊎ (is_busy_in left l x ≡ true)) f.fresh still kept.fresh_busy;
  }

-- without a hold mark the same blocks are busy
pub kept_unheld : (trans block : ℕ) (s n : State) (o : Option Transaction) → is_some o ≡ true → IfSome o (λ t. n ≡ with_leg trans t (without_hold block t.leg) s) → AreKept (is_busy s) s.frames → AreKept (is_busy n) n.frames
kept_unheld trans block s n None there is kept = absurd (cc there)
kept_unheld trans block s n (Some t) there is kept = subst (λ (x : State). AreKept (is_busy x) x.frames) (sym is) kept

-- ---- where each block stays busy
-- all are busy, since all but any one are
each_busy : {X : Type 0} (key : X → ℕ) (busy : ℕ → Bool) (xs : List X) → ((b : ℕ) → Each (λ x. (key x ≡ b) ⊎ (busy (key x) ≡ true)) xs) → Each (λ x. busy (key x) ≡ true) xs
each_busy key busy [] all = tt
each_busy key busy (x ∷ xs) all = (
  elim ((all (suc (key x))).0) [
    | inl same ↦ absurd (omega (arith, same))
    | inr here ↦ here
  ],
  each_busy key busy xs (λ b. (all b).1),
)

-- a filter that all pass keeps all
all_pass : {X : Type 0} (p : X → Bool) (xs : List X) → Each (λ x. p x ≡ true) xs → xs ≡ filter p xs
all_pass p [] each = refl
all_pass p (x ∷ xs) each = ap (λ ys. x ∷ ys) (all_pass p xs each.1) ∙ sym (ap (λ b. if b then x ∷ filter p xs else filter p xs) each.0)

-- one that none passes keeps none
none_pass : {X : Type 0} (p : X → Bool) (xs : List X) → Each (λ x. p x ≡ false) xs → [] ≡ filter p xs
none_pass p [] each = refl
none_pass p (x ∷ xs) each = none_pass p xs each.1 ∙ sym (ap (λ b. if b then x ∷ filter p xs else filter p xs) each.0)

-- the idle list stays as it is where nothing comes
idle_stays : (is_live : Bool) (more idle : List (ℕ × List ℕ)) → [] ≡ more → length idle ≤ 64 → idle ≡ (if is_live then rested more idle else idle)
idle_stays true more idle none short = sym (take_all 64 idle short) ∙ ap (λ xs. rested xs idle) none
idle_stays false more idle none short = refl

-- a mount whose blocks stay busy is as it is settled
pub settled_same : (s : State) → ((b : ℕ) → AreOthersBusy (is_busy s) b s.frames) → length s.frames.idle ≤ 64 → s ≡ settled [] s
settled_same s others short =
    let busy : Each (λ e. is_busy s e.0 ≡ true) s.frames.committed = each_busy (λ (e : ℕ × List ℕ). e.0) (is_busy s) s.frames.committed (λ b. (others b).contents) in
    let marks : Each (λ b. is_busy s b ≡ true) s.frames.fresh = each_busy (λ b. b) (is_busy s) s.frames.fresh (λ b. (others b).marks) in
    let none : [] ≡ leaving [] s = none_pass (λ e. not (is_busy s e.0) && true) s.frames.committed (each_map (λ e. is_busy s e.0 ≡ true) (λ e. (not (is_busy s e.0) && true) ≡ false) s.frames.committed (λ e was. ap (λ b. not b && true) was) busy) in
    ap (λ xs. record s { frames = record s.frames { committed = xs } }) (all_pass (λ e. is_busy s e.0) s.frames.committed busy)
    ∙ ap (λ bs. record s { frames = record s.frames { committed = filter (λ e. is_busy s e.0) s.frames.committed; fresh = bs } }) (all_pass (is_busy s) s.frames.fresh marks)
    ∙ ap (λ xs. record s { frames = record { committed = filter (λ e. is_busy s e.0) s.frames.committed; fresh = filter (is_busy s) s.frames.fresh; idle = xs } })
    (idle_stays (is_none s.shut) (leaving [] s) s.frames.idle none short)
