-- Open transactions beside the frames, where either of them changes.
use Rattle.std.proofs.Common.{◌≡◌, ◌≢◌, ◌∙◌, ◌<◌, ◌≤◌, ◌∷◌, ◌⊎◌, Bool, IfSome, List, None, Option, Some, [], ap, arith, false, filter, inl, inr, map, refl, subst, suc, sym, true, unwrap_or, ℕ}
use Rattle.std.proofs.lemmas.Bool.{cases_Bool, cases_eq, false≢true}
use Rattle.std.specs.Prelude.{is_none, is_some}
use Rattle.xt_base.proofs.KeyLemmas.{at_filter_kept}
use Rattle.xt_base.proofs.MapLemmas.{at_first, at_later, at_put_other, at_put_same, at_without_other, some_same}
use Rattle.xt_base.proofs.RisingLemmas.{each_at, each_both, each_in, each_map, each_other, each_put, each_without, filter_drop, filter_pass, rises_above}
use Rattle.xt_base.proofs.ViewLemmas.{put_without}
use Rattle.xt_base.specs.Legs.{change_of, clean_leg}
use Rattle.xt_base.specs.Maps.{at, is_in, put, without}
use Rattle.xt_base.specs.Sound.{Each, IsRising, RisesFrom}
use Rattle.xt_base.specs.State.{Change, Leg, Transaction}
use Rattle.xt_frames.proofs.EntryLemmas.{put_changed, rises_changed, without_changed}
use Rattle.xt_frames.specs.Kept.{Framed, IsClean}
use Rattle.xt_journal.proofs.OverLemmas.{transactions_alike}
use Rattle.xt_journal.specs.Keeping.{AreFramed}
use Rattle.xt_journal.specs.Over.{changes_over, edit_over, shown_over, trans_over, transactions_over}
use Rattle.xt_mount.specs.Shown.{AreInFrames, HasFrames, IsMarked, IsNowhereInPlace, IsStepAt, change_shown, has_in_place}
use Rattle.xt_trans.specs.ChangeMarks.{change_marks}
use Rattle.xt_vectors.specs.Edits.{is_in_place}

-- ---- a block that a leg changes in place is one that it changed
in_place_by : (o : Option Change) → is_in_place (unwrap_or o (record { edit = None; marks = []; charged = [] })).edit ≡ true → is_some o ≡ true
in_place_by None here = absurd (false≢true here)
in_place_by (Some change) here = refl

pub in_place_in : (b : ℕ) (leg : Leg) → has_in_place b leg ≡ true → is_in b leg.changes ≡ true
in_place_in b leg here = in_place_by (at b leg.changes) here

not_by : (x y : Bool) → (x ≡ true → y ≡ true) → y ≡ false → x ≡ false
not_by true y imp is = absurd (false≢true (sym is ∙ imp refl))
not_by false y imp is = refl

pub not_in_place : (b : ℕ) (leg : Leg) → is_in b leg.changes ≡ false → has_in_place b leg ≡ false
not_in_place b leg out = not_by (has_in_place b leg) (is_in b leg.changes) (in_place_in b leg) out

-- ---- facts for each element
module _ {A : Type 0} where
  each_if : (q : Bool) (Q : A → Type 0) (xs : List A) → (q ≡ true → Each Q xs) → Each (λ x. q ≡ true → Q x) xs
  each_if q Q [] all = tt
  each_if q Q (x ∷ xs) all = ((λ h. (all h).0), each_if q Q xs (λ h. (all h).1))

  each_for : (P : ℕ → A → Type 0) (xs : List A) → ((b : ℕ) → Each (P b) xs) → Each (λ x. (b : ℕ) → P b x) xs
  each_for P [] all = tt
  each_for P (x ∷ xs) all = ((λ b. (all b).0), each_for P xs (λ b. (all b).1))

  -- one of each number that passes a test
  pub each_where : (q : ℕ → Bool) (Q : ℕ → A → Type 0) (xs : List A) → ((b : ℕ) → q b ≡ true → Each (Q b) xs) → Each (λ x. (b : ℕ) → q b ≡ true → Q b x) xs
  each_where q Q xs all = each_for (λ b x. q b ≡ true → Q b x) xs (λ b. each_if (q b) (Q b) xs (all b))

-- a map in which a block is not has it nowhere
none_of : {V : Type 0} (b : ℕ) (p : ℕ → Bool) (es : List (ℕ × V)) → p b ≡ false → at b (filter (λ e. p e.0) es) ≡ None
none_of b p [] out = refl
none_of b p (e ∷ es) out =
    elim (cases_Bool (p e.0)) [
      | inl kept ↦
          let other : b ≢ e.0 = λ same. absurd (false≢true (sym out ∙ ap p same ∙ kept)) in
          ap (at b) (filter_pass (λ x. p x.0) e es kept) ∙ at_later b e (filter (λ x. p x.0) es) other ∙ none_of b p es out
      | inr gone ↦ ap (at b) (filter_drop (λ x. p x.0) e es gone) ∙ none_of b p es out
    ]

-- ---- frames that have the same of each block that somebody changed
module _ (n f : List (ℕ × Framed)) (ts : List (ℕ × Transaction)) where
  abbrev pub AreSame : Type 0
  AreSame = Each (λ e. (b : ℕ) → is_in b e.1.leg.changes ≡ true → at b n ≡ at b f) ts

  -- and of which no other is changed
  pub framed_same : AreSame → ((b : ℕ) → IfSome (at b f) IsClean → IfSome (at b n) IsClean) → AreInFrames f ts → AreInFrames n ts
  framed_same same stay are = record {
    framed = each_map (λ e. ((b : ℕ) → is_in b e.1.leg.changes ≡ true → at b n ≡ at b f) × HasFrames f e.1.leg) (λ e. HasFrames n e.1.leg) ts
        (λ e both b here. ap is_some (both.0 b (in_place_in b e.1.leg here)) ∙ both.1 b here)
        (each_both (λ e. (b : ℕ) → is_in b e.1.leg.changes ≡ true → at b n ≡ at b f) (λ e. HasFrames f e.1.leg) ts same are.framed);
    clean = λ b none. stay b (are.clean b none);
  }

-- frames of blocks that are not busy went, and what was changed is busy
module _ (f : List (ℕ × Framed)) (ts : List (ℕ × Transaction)) (busy : ℕ → Bool) (changed : Each (λ e. Each (λ c. busy c.0 ≡ true) e.1.leg.changes) ts) where
  pub same_settled : AreSame (filter (λ e. busy e.0) f) f ts
  same_settled =
      each_map (λ e. Each (λ c. busy c.0 ≡ true) e.1.leg.changes) (λ e. (b : ℕ) → is_in b e.1.leg.changes ≡ true → at b (filter (λ x. busy x.0) f) ≡ at b f) ts
      (λ e all b there. at_filter_kept b (λ x. busy x.0) f (λ v. each_in (λ k. busy k ≡ true) b e.1.leg.changes there all)) changed

  pub framed_settled : AreInFrames f ts → AreInFrames (filter (λ e. busy e.0) f) ts
  framed_settled are =
      framed_same (filter (λ e. busy e.0) f) f ts same_settled
      (λ b clean.
      elim (cases_Bool (busy b)) [
        | inl stays ↦ subst (λ o. IfSome o IsClean) (sym (at_filter_kept b (λ x. busy x.0) f (λ v. stays))) clean
        | inr leaves ↦ subst (λ o. IfSome o IsClean) (sym (none_of b busy f leaves)) tt
      ])
      are

-- a block that nobody changed got another frame
module _ (f : List (ℕ × Framed)) (ts : List (ℕ × Transaction)) (b : ℕ) (unchanged : Each (λ e. is_in b e.1.leg.changes ≡ false) ts) (frame : Framed) where
  pub same_put : AreSame (put b frame f) f ts
  same_put =
      each_map (λ e. is_in b e.1.leg.changes ≡ false) (λ e. (k : ℕ) → is_in k e.1.leg.changes ≡ true → at k (put b frame f) ≡ at k f) ts
      (λ e out k there. at_put_other b k frame f (λ is. absurd (false≢true (sym out ∙ ap (λ x. is_in x e.1.leg.changes) (sym is) ∙ there)))) unchanged

  pub framed_put : IsClean frame → AreInFrames f ts → AreInFrames (put b frame f) ts
  framed_put clean are =
      framed_same (put b frame f) f ts same_put
      (λ k was.
      elim (cases_eq k b) [
        | inl same ↦ subst (λ o. IfSome o IsClean) (sym (ap (λ x. at x (put b frame f)) same ∙ at_put_same b frame f)) clean
        | inr other ↦ subst (λ o. IfSome o IsClean) (sym (at_put_other b k frame f other)) was
      ])
      are

-- ---- one open transaction has another leg
module _ (n f : List (ℕ × Framed)) (t : ℕ) (u v : Transaction) (ts : List (ℕ × Transaction)) (there : at t ts ≡ Some u) (are : AreInFrames f ts) where
  -- its leg and the frames changed at one block
  module _ (b : ℕ) (step : IsStepAt b n f v.leg u.leg) where
    frames_stay : (k : ℕ) → is_in k f ≡ true → is_in k n ≡ true
    frames_stay k is =
        elim (cases_eq k b) [
          | inl same ↦ ap (λ x. is_in x n) same ∙ step.stays (ap (λ x. is_in x f) (sym same) ∙ is)
          | inr other ↦ ap is_some (step.others k other) ∙ is
        ]

    own_frames : HasFrames f u.leg → HasFrames n v.leg
    own_frames had k here =
        elim (cases_eq k b) [
          | inl same ↦ ap (λ x. is_in x n) same ∙ step.framed (ap (λ x. has_in_place x v.leg) (sym same) ∙ here)
          | inr other ↦ frames_stay k (had k (sym (step.rest k other) ∙ here))
        ]

    nowhere_before : (k : ℕ) → k ≢ b → IsNowhereInPlace k (put t v ts) → IsNowhereInPlace k ts
    nowhere_before k apart none s x is =
        elim (cases_eq s t) [
          | inl same ↦
              let it : x ≡ u = some_same x u (sym is ∙ ap (λ i. at i ts) same ∙ there) in
              ap (λ (y : Transaction). has_in_place k y.leg) it ∙ sym (step.rest k apart) ∙ none t v (at_put_same t v ts)
          | inr other ↦ none s x (at_put_other t s v ts other ∙ is)
        ]

    pub framed_step : AreInFrames n (put t v ts)
    framed_step = record {
      framed = each_put (λ e. HasFrames n e.1.leg) t v ts (own_frames (each_at (λ e. HasFrames f e.1.leg) t u ts there are.framed))
          (each_map (λ e. HasFrames f e.1.leg) (λ e. HasFrames n e.1.leg) ts (λ e had k here. frames_stay k (had k here)) are.framed);
      clean = λ k none.
          elim (cases_eq k b) [
            | inl same ↦ subst (λ x. IfSome (at x n) IsClean) (sym same) (step.clean (ap (λ x. has_in_place x v.leg) (sym same) ∙ none t v (at_put_same t v ts)))
            | inr other ↦ subst (λ o. IfSome o IsClean) (sym (step.others k other)) (are.clean k (nowhere_before k other none))
          ];
    }

-- its leg changes the same blocks in place, over the same frames
pub framed_marks : (f : List (ℕ × Framed)) (t : ℕ) (u v : Transaction) (ts : List (ℕ × Transaction)) → at t ts ≡ Some u → ((k : ℕ) → has_in_place k v.leg ≡ has_in_place k u.leg)
    → AreInFrames f ts → AreInFrames f (put t v ts)
framed_marks f t u v ts there rest are = record {
  framed = each_put (λ e. HasFrames f e.1.leg) t v ts (λ k here. each_at (λ e. HasFrames f e.1.leg) t u ts there are.framed k (sym (rest k) ∙ here)) are.framed;
  clean = λ k none. are.clean k (λ s x is.
      elim (cases_eq s t) [
        | inl same ↦
            let it : x ≡ u = some_same x u (sym is ∙ ap (λ i. at i ts) same ∙ there) in
            ap (λ (y : Transaction). has_in_place k y.leg) it ∙ sym (rest k) ∙ none t v (at_put_same t v ts)
        | inr other ↦ none s x (at_put_other t s v ts other ∙ is)
      ]);
}

-- a frame of a block that it does not change in place, and no other transaction changes, is clean
pub clean_alone : (f : List (ℕ × Framed)) (t k : ℕ) (u : Transaction) (ts : List (ℕ × Transaction)) → at t ts ≡ Some u → Each (λ e. (e.0 ≡ t) ⊎ (is_in k e.1.leg.changes ≡ false)) ts → AreInFrames f ts
    → has_in_place k u.leg ≡ false → IfSome (at k f) IsClean
clean_alone f t k u ts there alone are away =
    are.clean k (λ s x is.
    elim (each_at (λ e. (e.0 ≡ t) ⊎ (is_in k e.1.leg.changes ≡ false)) s x ts is alone) [
      | inl same ↦
          let it : x ≡ u = some_same x u (sym is ∙ ap (λ i. at i ts) same ∙ there) in
          ap (λ (y : Transaction). has_in_place k y.leg) it ∙ away
      | inr out ↦ not_in_place k x.leg out
    ])

-- one that nobody changed
pub clean_nowhere : (f : List (ℕ × Framed)) (k : ℕ) (ts : List (ℕ × Transaction)) → Each (λ e. is_in k e.1.leg.changes ≡ false) ts → AreInFrames f ts → IfSome (at k f) IsClean
clean_nowhere f k ts unchanged are = are.clean k (λ s x is. not_in_place k x.leg (each_at (λ e. is_in k e.1.leg.changes ≡ false) s x ts is unchanged))

-- its blocks in place have frames
pub frames_there : (f : List (ℕ × Framed)) (t : ℕ) (u : Transaction) (ts : List (ℕ × Transaction)) → at t ts ≡ Some u → AreInFrames f ts → HasFrames f u.leg
frames_there f t u ts there are = each_at (λ e. HasFrames f e.1.leg) t u ts there are.framed

-- one that changed nothing was opened
pub framed_opened : (f : List (ℕ × Framed)) (t : ℕ) (v : Transaction) (ts : List (ℕ × Transaction)) → is_in t ts ≡ false → v.leg ≡ clean_leg → AreInFrames f ts → AreInFrames f (put t v ts)
framed_opened f t v ts absent clean are = record {
  framed = each_put (λ e. HasFrames f e.1.leg) t v ts (λ k here. absurd (false≢true (sym (ap (has_in_place k) clean) ∙ here))) are.framed;
  clean = λ k none. are.clean k (λ s x is.
      none s x (at_put_other t s v ts (λ same. absurd (false≢true (sym absent ∙ ap (λ i. is_in i ts) (sym same) ∙ ap is_some is))) ∙ is));
}

-- ---- the leg of one open transaction ended: frames of blocks that it did not change are the same, and the others are clean
module _ (n f : List (ℕ × Framed)) (t : ℕ) (u : Transaction) (ts : List (ℕ × Transaction)) (there : at t ts ≡ Some u) (rises : IsRising ts)
    (alone : Each (λ e. (b : ℕ) → is_in b u.leg.changes ≡ true → (e.0 ≡ t) ⊎ (is_in b e.1.leg.changes ≡ false)) ts)
    (others : (b : ℕ) → is_in b u.leg.changes ≡ false → at b n ≡ at b f) (cleaned : (b : ℕ) → is_in b u.leg.changes ≡ true → IfSome (at b n) IsClean) where
  apart : (e : ℕ × Transaction) → ((b : ℕ) → is_in b u.leg.changes ≡ true → (e.0 ≡ t) ⊎ (is_in b e.1.leg.changes ≡ false)) → e.0 ≢ t → (b : ℕ) → is_in b e.1.leg.changes ≡ true → is_in b u.leg.changes ≡ false
  apart e only other b has =
      elim (cases_Bool (is_in b u.leg.changes)) [
        | inl both ↦
            elim (only b both) [
              | inl same ↦ absurd (other same)
              | inr out ↦ absurd (false≢true (sym out ∙ has))
            ]
        | inr out ↦ out
      ]

  -- the other transactions show the same
  pub same_beside : AreSame n f (without t ts)
  same_beside =
      each_map (λ e. ((b : ℕ) → is_in b u.leg.changes ≡ true → (e.0 ≡ t) ⊎ (is_in b e.1.leg.changes ≡ false)) × (e.0 ≢ t)) (λ e. (b : ℕ) → is_in b e.1.leg.changes ≡ true → at b n ≡ at b f) (without t ts)
      (λ e both b has. others b (apart e both.0 both.1 b has))
      (each_other (λ e. (b : ℕ) → is_in b u.leg.changes ≡ true → (e.0 ≡ t) ⊎ (is_in b e.1.leg.changes ≡ false)) 0 t ts rises alone)

  clean_after : AreInFrames f ts → (b : ℕ) → ((s : ℕ) → (x : Transaction) → s ≢ t → at s ts ≡ Some x → has_in_place b x.leg ≡ false) → IfSome (at b n) IsClean
  clean_after are b none =
      elim (cases_Bool (is_in b u.leg.changes)) [
        | inl changed ↦ cleaned b changed
        | inr out ↦ subst (λ o. IfSome o IsClean) (sym (others b out)) (are.clean b (λ s x is.
            elim (cases_eq s t) [
              | inl same ↦
                  let it : x ≡ u = some_same x u (sym is ∙ ap (λ i. at i ts) same ∙ there) in
                  ap (λ (y : Transaction). has_in_place b y.leg) it ∙ not_in_place b u.leg out
              | inr other ↦ none s x other is
            ]))
      ]

  frames_beside : AreInFrames f ts → Each (λ e. HasFrames n e.1.leg) (without t ts)
  frames_beside are =
      each_map (λ e. ((b : ℕ) → is_in b e.1.leg.changes ≡ true → at b n ≡ at b f) × HasFrames f e.1.leg) (λ e. HasFrames n e.1.leg) (without t ts)
      (λ e both b here. ap is_some (both.0 b (in_place_in b e.1.leg here)) ∙ both.1 b here)
      (each_both (λ e. (b : ℕ) → is_in b e.1.leg.changes ≡ true → at b n ≡ at b f) (λ e. HasFrames f e.1.leg) (without t ts) same_beside (each_without (λ e. HasFrames f e.1.leg) t ts are.framed))

  -- it is closed
  pub framed_closed : AreInFrames f ts → AreInFrames n (without t ts)
  framed_closed are = record {
    framed = frames_beside are;
    clean = λ b none. clean_after are b (λ s x other is. none s x (at_without_other t s ts other ∙ is));
  }

  -- it goes on with a leg that did nothing
  pub framed_next : (v : Transaction) → v.leg ≡ clean_leg → AreInFrames f ts → AreInFrames n (put t v ts)
  framed_next v clean are = record {
    framed = subst (λ xs. Each (λ e. HasFrames n e.1.leg) xs) (put_without 0 t v ts rises)
        (each_put (λ e. HasFrames n e.1.leg) t v (without t ts) (λ k here. absurd (false≢true (sym (ap (has_in_place k) clean) ∙ here))) (frames_beside are));
    clean = λ b none. clean_after are b (λ s x other is. none s x (at_put_other t s v ts other ∙ is));
  }

-- ---- what open transactions show, where one of them changed
module _ (n f : List (ℕ × Framed)) (t : ℕ) (ts : List (ℕ × Transaction)) (rises : IsRising ts) (same : AreSame n f (without t ts)) where
  pub shown_closed : transactions_over n (without t ts) ≡ without t (transactions_over f ts)
  shown_closed = transactions_alike n f (without t ts) same ∙ without_changed (λ s x. trans_over f x) t ts

  pub shown_changed : (v : Transaction) → transactions_over n (put t v ts) ≡ put t (trans_over n v) (transactions_over f ts)
  shown_changed v =
      ap (transactions_over n) (sym (put_without 0 t v ts rises)) ∙ put_changed (λ s x. trans_over n x) t v (without t ts) ∙ ap (put t (trans_over n v)) shown_closed
      ∙ put_without 0 t (trans_over n v) (transactions_over f ts) (rises_changed (λ s x. trans_over f x) 0 ts rises)

-- ---- the changes of a leg, one by one
module _ {V : Type 0} where
  later_same : (n : ℕ) (k : ℕ) (e : ℕ × V) (es : List (ℕ × V)) → k < n → RisesFrom n es → Each (λ x. at x.0 es ≡ Some x.1) es → e.0 ≡ k → Each (λ x. at x.0 (e ∷ es) ≡ Some x.1) es
  later_same n k e es lt rises all here =
      each_map (λ x. (n ≤ x.0) × (at x.0 es ≡ Some x.1)) (λ x. at x.0 (e ∷ es) ≡ Some x.1) es
      (λ x both. at_later x.0 e es (λ same. omega (arith, same, here, lt, both.0)) ∙ both.1)
      (each_both (λ x. n ≤ x.0) (λ x. at x.0 es ≡ Some x.1) es (rises_above n es rises) all)

  -- each entry of a map that rises is what it has there
  pub each_here : (n : ℕ) (es : List (ℕ × V)) → RisesFrom n es → Each (λ e. at e.0 es ≡ Some e.1) es
  each_here n [] rises = tt
  each_here n (e ∷ es) rises = (at_first e.0 e es refl, later_same (suc e.0) e.0 e es (omega arith) rises.1 (each_here (suc e.0) es rises.1) refl)

module _ (f : List (ℕ × Framed)) (leg : Leg) (rises : IsRising leg.changes) where
  changes_here : Each (λ e. change_of e.0 leg ≡ e.1) leg.changes
  changes_here = each_map (λ e. at e.0 leg.changes ≡ Some e.1) (λ e. change_of e.0 leg ≡ e.1) leg.changes (λ e is. ap (λ o. unwrap_or o (record { edit = None; marks = []; charged = [] })) is) (each_here 0 leg.changes rises)

  -- those that it makes in place have frames
  pub framed_changes : HasFrames f leg → AreFramed f leg.changes
  framed_changes had =
      each_map (λ e. change_of e.0 leg ≡ e.1) (λ e. is_in_place e.1.edit ≡ true → is_in e.0 f ≡ true) leg.changes (λ e is here. had e.0 (ap (λ (c : Change). is_in_place c.edit) is ∙ here)) changes_here

  -- their marks are those of the leg
  marked_by : (cs : List (ℕ × Change)) → Each (λ e. change_of e.0 leg ≡ e.1) cs → Each (IsMarked leg) (change_marks cs)
  marked_by [] all = tt
  marked_by (e ∷ es) all = (ap (λ (c : Change). is_none c.edit) (sym all.0), marked_by es all.1)

  pub marked_each : Each (IsMarked leg) (change_marks leg.changes)
  marked_each = marked_by leg.changes changes_here

  -- and with their marks they are shown
  shown_by : (cs : List (ℕ × Change)) → Each (λ e. change_of e.0 leg ≡ e.1) cs → map (change_shown f leg) (change_marks cs) ≡ changes_over f cs
  shown_by [] all = refl
  shown_by (e ∷ es) all =
      ap (λ (c : Change). (e.0, record e.1 { edit = edit_over f e.0 c.edit }) ∷ map (change_shown f leg) (change_marks es)) all.0 ∙ ap (λ xs. (e.0, shown_over f e.0 e.1) ∷ xs) (shown_by es all.1)

  pub shown_each : map (change_shown f leg) (change_marks leg.changes) ≡ changes_over f leg.changes
  shown_each = shown_by leg.changes changes_here
