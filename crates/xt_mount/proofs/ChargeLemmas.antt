-- What a ticket is charged, beside the charge of its leg.
use Rattle.std.proofs.Common.{◌≡◌, ◌∙◌, ◌+◌, ◌*◌, ◌∷◌, ℕ, List, None, Some, [], ap, arith, inl, inr, length, refl, sym}
use Rattle.std.proofs.lemmas.Bool.{cases_order}
use Rattle.std.proofs.lemmas.List.Sums.{sum_by-cons}
use Rattle.xt_base.proofs.MapLemmas.{put_less, put_more, put_same}
use Rattle.std.specs.Prelude.{Bool, false, if◌then◌else◌, nat_le, sum_by, true}
use Rattle.xt_base.specs.Calls.{edited, invalidated}
use Rattle.xt_base.specs.Chunks.{union}
use Rattle.xt_base.specs.Legs.{change_of, is_dirty}
use Rattle.xt_base.specs.Maps.{put}
use Rattle.xt_base.specs.Space.{change_cost, charge}
use Rattle.xt_base.specs.State.{Change, Leg}
use Rattle.xt_frames.proofs.EntryLemmas.{put_changed}
use Rattle.xt_frames.specs.Kept.{Framed}
use Rattle.xt_journal.proofs.OverLemmas.{change_over, costs_over}
use Rattle.xt_journal.specs.Over.{changes_over, leg_over, shown_over}
use Rattle.xt_base.specs.declared.newly.Newly.{Newly}
use Rattle.xt_base.specs.declared.sizes.TheConstants.{CHUNK_COST, ITEM_COST}
use Rattle.xt_resv.proofs.MountLemmas.{bare_charge, charge_is}
use Rattle.xt_resv.specs.Ledgers.{Grant, charged_with, is_fitting, whole_charge}

none_more : (b : Bool) → ◌≡◌ {A = ℕ} (if b then 0 else 0) 0
none_more true = refl
none_more false = refl

-- what is charged anew for blocks and chunks, by what a leg's charge is with it
pub charged_anew : (leg after : Leg) (charged : ℕ) (newly : Newly) → charged ≡ sum_by change_cost leg.changes
    → ((ends : ℕ) → charge ends after.changes ≡ charge ends leg.changes + (if is_dirty leg then 0 else ends) + ITEM_COST * newly.blocks + CHUNK_COST * newly.chunks)
    → charged_with newly charged ≡ sum_by change_cost after.changes
charged_anew leg after charged newly same is =
    omega (arith, same, is 0, bare_charge leg.changes, bare_charge after.changes, none_more (is_dirty leg))

-- and whether that fits
pub fits_anew : (ends : ℕ) (leg after : Leg) (t : Grant) (newly : Newly) → t.charged ≡ sum_by change_cost leg.changes
    → ((ends : ℕ) → charge ends after.changes ≡ charge ends leg.changes + (if is_dirty leg then 0 else ends) + ITEM_COST * newly.blocks + CHUNK_COST * newly.chunks)
    → is_fitting ends newly t ≡ nat_le (charge ends after.changes) t.unit
fits_anew ends leg after t newly same is =
    ap (λ (n : ℕ). nat_le (whole_charge ends n) t.unit) (charged_anew leg after t.charged newly same is) ∙ sym (ap (λ (n : ℕ). nat_le n t.unit) (charge_is ends after.changes))

-- a value of the same weight in a map's place
module _ (f : ℕ × Change → ℕ) (k : ℕ) (v w : Change) (same : (x : ℕ) → f (x, v) ≡ f (x, w)) where
  sum_alike : (es : List (ℕ × Change)) → sum_by f (put k v es) ≡ sum_by f (put k w es)
  sum_alike [] = omega (arith, same k)
  sum_alike (e ∷ es) =
      elim (cases_order k e.0) [
        | inl here ↦ omega (arith, ap (sum_by f) (put_same k v e es here), ap (sum_by f) (put_same k w e es here), same e.0, sum_by-cons f (e.0, v) es, sum_by-cons f (e.0, w) es)
        | inr (inl less) ↦ omega (arith, ap (sum_by f) (put_less k v e es less), ap (sum_by f) (put_less k w e es less), same k, sum_by-cons f (k, v) (e ∷ es), sum_by-cons f (k, w) (e ∷ es))
        | inr (inr more) ↦ omega (arith, ap (sum_by f) (put_more k v e es more), ap (sum_by f) (put_more k w e es more), sum_alike es, sum_by-cons f e (put k v es), sum_by-cons f e (put k w es))
      ]

-- an edit is charged alike whatever it writes
pub charged_alike : (b : ℕ) (content marked : List ℕ) (leg : Leg) → sum_by change_cost (edited b [] marked leg).changes ≡ sum_by change_cost (edited b content marked leg).changes
charged_alike b content marked leg =
    let here : List ℕ → Change = λ bytes. record { edit = Some bytes; marks = union (change_of b leg).marks marked; charged = union (change_of b leg).charged marked } in
    sum_alike change_cost b (here []) (here content) (λ x. refl) leg.changes

-- ---- a leg as it is shown over frames
by_sum : (ends : ℕ) (cs ds : List (ℕ × Change)) → sum_by change_cost cs ≡ sum_by change_cost ds → charge ends cs ≡ charge ends ds
by_sum ends cs ds same = charge_is ends cs ∙ ap (whole_charge ends) same ∙ sym (charge_is ends ds)

module _ (f : List (ℕ × Framed)) (ends b : ℕ) where
  -- is charged alike where it changes a block
  put_charge : (x y : Change) (cs : List (ℕ × Change)) → length x.charged ≡ length y.charged → charge ends (put b x (changes_over f cs)) ≡ charge ends (put b y cs)
  put_charge x y cs same =
      by_sum ends (put b x (changes_over f cs)) (put b y cs)
      (sum_alike change_cost b x (shown_over f b y) (λ k. ap (λ n. ITEM_COST + CHUNK_COST * n) same) (changes_over f cs)
      ∙ ap (sum_by change_cost) (sym (put_changed (shown_over f) b y cs)) ∙ costs_over f (put b y cs))

  pub edited_charge : (marked : List ℕ) (leg : Leg) → charge ends (edited b [] marked (leg_over f leg)).changes ≡ charge ends (edited b [] marked leg).changes
  edited_charge marked leg =
      let more : Change → Change = λ (c : Change). record { edit = Some []; marks = union c.marks marked; charged = union c.charged marked } in
      put_charge (more (change_of b (leg_over f leg))) (more (change_of b leg)) leg.changes (ap (λ (c : Change). length (union c.charged marked)) (change_over f b leg))

  -- and where it invalidates one
  pub invalidated_charge : (leg : Leg) → charge ends (invalidated b (leg_over f leg)).changes ≡ charge ends (invalidated b leg).changes
  invalidated_charge leg =
      let gone : Change → Change = λ (c : Change). record { edit = None; marks = []; charged = c.charged } in
      put_charge (gone (change_of b (leg_over f leg))) (gone (change_of b leg)) leg.changes (ap (λ (c : Change). length c.charged) (change_over f b leg))
