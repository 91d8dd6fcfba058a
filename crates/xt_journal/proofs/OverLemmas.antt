-- What legs show over frames: block by block, and where frames or legs change.
use Rattle.std.proofs.Common.{◌≡◌, ◌≢◌, ◌∙◌, ◌*◌, ◌<◌, ◌∷◌, List, None, Option, Some, [], ap, arith, cond, inl, inr, length, not, refl, suc, sym, true, unwrap_or, ℕ}
use Rattle.std.proofs.lemmas.Bool.{cases_order}
use Rattle.std.specs.Prelude.{is_none, option_map, sum_by, ◌&&◌, ◌==◌}
use Rattle.xt_base.proofs.MapLemmas.{put_less, put_more, put_same}
use Rattle.xt_base.proofs.RisingLemmas.{each_map}
use Rattle.xt_base.specs.Calls.{edited, invalidated}
use Rattle.xt_base.specs.Chunks.{union}
use Rattle.xt_base.specs.Legs.{change_of, is_dirty, is_stale, joined_marks, with_marks}
use Rattle.xt_base.specs.Maps.{at, is_in, put, without_member}
use Rattle.xt_base.specs.Sound.{Each, IsRising, RisesFrom}
use Rattle.xt_base.specs.Space.{change_cost, granted}
use Rattle.xt_base.specs.State.{Change, Leg, Transaction}
use Rattle.xt_frames.proofs.EntryLemmas.{at_changed, changed_same, changed_values, in_changed, length_changed, put_changed, sum_changed}
use Rattle.xt_frames.specs.Kept.{Framed}
use Rattle.xt_journal.specs.Over.{bytes_over, changes_over, edit_over, frame_bytes, leg_over, shown_over, trans_over, transactions_over}
use Rattle.xt_vectors.proofs.VectorLemmas.{each_there}

-- what a leg did to a block that it left alone
abbrev no_change : Change
no_change = record { edit = None; marks = []; charged = [] }

-- what an open transaction was granted
abbrev granted_to : ℕ × Transaction → ℕ
granted_to e = e.1.unit * e.1.legs

-- a fact of each changed entry
pub each_within : {V W : Type 0} (g : ℕ → V → W) (P : ℕ × W → Type 0) (es : List (ℕ × V)) → Each P (changed_values g es) → Each (λ e. P (e.0, g e.0 e.1)) es
each_within g P [] all = tt
each_within g P (e ∷ es) all = (all.0, each_within g P es all.1)

-- ---- frames that have the same of each block that a leg changed
module _ (n f : List (ℕ × Framed)) where
  edit_alike : (b : ℕ) (o : Option (List ℕ)) → at b n ≡ at b f → edit_over n b o ≡ edit_over f b o
  edit_alike b None same = refl
  edit_alike b (Some []) same = ap (λ frame. Some (frame_bytes frame)) same
  edit_alike b (Some (x ∷ xs)) same = refl

  changes_alike : (cs : List (ℕ × Change)) → ((b : ℕ) → is_in b cs ≡ true → at b n ≡ at b f) → changes_over n cs ≡ changes_over f cs
  changes_alike cs same =
      changed_same (shown_over n) (shown_over f) cs
      (each_map (λ e. is_in e.0 cs ≡ true) (λ e. shown_over n e.0 e.1 ≡ shown_over f e.0 e.1) cs
      (λ e there. ap (λ edit. record e.1 { edit = edit }) (edit_alike e.0 e.1.edit (same e.0 there))) (each_there cs))

  -- such a leg
  pub leg_alike : (leg : Leg) → ((b : ℕ) → is_in b leg.changes ≡ true → at b n ≡ at b f) → leg_over n leg ≡ leg_over f leg
  leg_alike leg same = ap (λ cs. record leg { changes = cs }) (changes_alike leg.changes same)

  trans_alike : (u : Transaction) → ((b : ℕ) → is_in b u.leg.changes ≡ true → at b n ≡ at b f) → trans_over n u ≡ trans_over f u
  trans_alike u same = ap (λ (leg : Leg). record u { leg = leg }) (leg_alike u.leg same)

  -- such transactions
  pub transactions_alike : (ts : List (ℕ × Transaction)) → Each (λ e. (b : ℕ) → is_in b e.1.leg.changes ≡ true → at b n ≡ at b f) ts → transactions_over n ts ≡ transactions_over f ts
  transactions_alike ts same =
      changed_same (λ t u. trans_over n u) (λ t u. trans_over f u) ts
      (each_map (λ e. (b : ℕ) → is_in b e.1.leg.changes ≡ true → at b n ≡ at b f) (λ e. trans_over n e.1 ≡ trans_over f e.1) ts (λ e. trans_alike e.1) same)

-- ---- one leg
-- what it shows of a block
change_shown : (frames : List (ℕ × Framed)) (b : ℕ) (o : Option Change) → unwrap_or (option_map (shown_over frames b) o) no_change ≡ shown_over frames b (unwrap_or o no_change)
change_shown frames b None = refl
change_shown frames b (Some change) = refl

pub change_over : (frames : List (ℕ × Framed)) (b : ℕ) (leg : Leg) → change_of b (leg_over frames leg) ≡ shown_over frames b (change_of b leg)
change_over frames b leg = ap (λ o. unwrap_or o no_change) (at_changed (shown_over frames) b leg.changes) ∙ change_shown frames b (at b leg.changes)

none_over : (frames : List (ℕ × Framed)) (b : ℕ) (o : Option (List ℕ)) → is_none (edit_over frames b o) ≡ is_none o
none_over frames b None = refl
none_over frames b (Some bytes) = refl

-- which blocks it changed, and which it invalidated
pub changed_over : (frames : List (ℕ × Framed)) (b : ℕ) (leg : Leg) → is_in b (leg_over frames leg).changes ≡ is_in b leg.changes
changed_over frames b leg = in_changed (shown_over frames) b leg.changes

pub stale_over : (frames : List (ℕ × Framed)) (b : ℕ) (leg : Leg) → is_stale b (leg_over frames leg) ≡ is_stale b leg
stale_over frames b leg =
    ap (λ x. x && is_none (change_of b (leg_over frames leg)).edit) (changed_over frames b leg)
    ∙ ap (λ (c : Change). is_in b leg.changes && is_none c.edit) (change_over frames b leg)
    ∙ ap (λ x. is_in b leg.changes && x) (none_over frames b (change_of b leg).edit)

-- what it is charged
pub costs_over : (frames : List (ℕ × Framed)) (cs : List (ℕ × Change)) → sum_by change_cost (changes_over frames cs) ≡ sum_by change_cost cs
costs_over frames cs = sum_changed (shown_over frames) change_cost change_cost (λ e. refl) cs

pub length_over : (frames : List (ℕ × Framed)) (cs : List (ℕ × Change)) → length (changes_over frames cs) ≡ length cs
length_over frames cs = length_changed (shown_over frames) cs

pub dirty_over : (frames : List (ℕ × Framed)) (leg : Leg) → is_dirty (leg_over frames leg) ≡ is_dirty leg
dirty_over frames leg = ap (λ n. not (n == 0)) (length_over frames leg.changes)

-- the marks that its commit joins to a commit list
marks_over : (frames : List (ℕ × Framed)) (b : ℕ) (old : Option (List ℕ)) (change : Change) → joined_marks old (shown_over frames b change) ≡ joined_marks old change
marks_over frames b old change = ap (λ x. cond x [] (union (unwrap_or old []) change.marks)) (none_over frames b change.edit)

pub with_marks_over : (frames : List (ℕ × Framed)) (cs : List (ℕ × Change)) (list : List (ℕ × List ℕ)) → with_marks (changes_over frames cs) list ≡ with_marks cs list
with_marks_over frames [] list = refl
with_marks_over frames (e ∷ es) list =
    with_marks_over frames es (put e.0 (joined_marks (at e.0 list) (shown_over frames e.0 e.1)) list) ∙ ap (λ set. with_marks es (put e.0 set list)) (marks_over frames e.0 (at e.0 list) e.1)

-- what open transactions were granted
pub granted_over : (frames : List (ℕ × Framed)) (ts : List (ℕ × Transaction)) → granted (transactions_over frames ts) ≡ granted ts
granted_over frames ts = sum_changed (λ t u. trans_over frames u) granted_to granted_to (λ e. refl) ts

-- ---- frames that differ at one block
module _ (n f : List (ℕ × Framed)) (b : ℕ) (others : (k : ℕ) → k ≢ b → at k n ≡ at k f) where
  -- entries above it
  pub alike_above : (k : ℕ) (cs : List (ℕ × Change)) → b < k → RisesFrom k cs → changes_over n cs ≡ changes_over f cs
  alike_above k [] lt rises = refl
  alike_above k (e ∷ es) lt rises =
      ap (λ edit. (e.0, record e.1 { edit = edit }) ∷ changes_over n es) (edit_alike n f e.0 e.1.edit (others e.0 (λ is. omega (arith, is, lt, rises.0))))
      ∙ ap (λ xs. (e.0, shown_over f e.0 e.1) ∷ xs) (alike_above (suc e.0) es (omega (arith, lt, rises.0)) rises.1)

  -- where it has the same change
  put_alike : (x : Change) (k : ℕ) (cs : List (ℕ × Change)) → RisesFrom k cs → put b x (changes_over n cs) ≡ put b x (changes_over f cs)
  put_alike x k [] rises = refl
  put_alike x k (e ∷ es) rises =
      elim (cases_order b e.0) [
        | inl same ↦
            put_same b x (e.0, shown_over n e.0 e.1) (changes_over n es) same ∙ ap (λ xs. (e.0, x) ∷ xs) (alike_above (suc e.0) es (omega (arith, same)) rises.1)
            ∙ sym (put_same b x (e.0, shown_over f e.0 e.1) (changes_over f es) same)
        | inr (inl lt) ↦
            put_less b x (e.0, shown_over n e.0 e.1) (changes_over n es) lt ∙ ap (λ xs. (b, x) ∷ xs) (alike_above e.0 (e ∷ es) lt (omega arith, rises.1))
            ∙ sym (put_less b x (e.0, shown_over f e.0 e.1) (changes_over f es) lt)
        | inr (inr lt) ↦
            put_more b x (e.0, shown_over n e.0 e.1) (changes_over n es) lt
            ∙ ap (λ edit. (e.0, record e.1 { edit = edit }) ∷ put b x (changes_over n es)) (edit_alike n f e.0 e.1.edit (others e.0 (λ is. omega (arith, is, lt))))
            ∙ ap (λ xs. (e.0, shown_over f e.0 e.1) ∷ xs) (put_alike x (suc e.0) es rises.1)
            ∙ sym (put_more b x (e.0, shown_over f e.0 e.1) (changes_over f es) lt)
      ]

  -- a leg with one more edit of it
  pub edited_over : (content marked : List ℕ) (leg : Leg) → IsRising leg.changes → leg_over n (edited b content marked leg) ≡ edited b (bytes_over content (at b n)) marked (leg_over f leg)
  edited_over content marked leg rises =
      let more : Change → Change = λ (c : Change). record { edit = Some (bytes_over content (at b n)); marks = union c.marks marked; charged = union c.charged marked } in
      let now : Change = record { edit = Some content; marks = union (change_of b leg).marks marked; charged = union (change_of b leg).charged marked } in
      ap (λ cs. record leg { changes = cs })
      (put_changed (shown_over n) b now leg.changes ∙ put_alike (more (change_of b leg)) 0 leg.changes rises
      ∙ ap (λ (c : Change). put b (more c) (changes_over f leg.changes)) (sym (change_over f b leg)))

  -- a leg that invalidates it
  pub invalidated_over : (leg : Leg) → IsRising leg.changes → leg_over n (invalidated b leg) ≡ invalidated b (leg_over f leg)
  invalidated_over leg rises =
      let gone : Change → Change = λ (c : Change). record { edit = None; marks = []; charged = c.charged } in
      ap (λ cs. record { changes = cs; holds = without_member b leg.holds })
      (put_changed (shown_over n) b (gone (change_of b leg)) leg.changes ∙ put_alike (gone (change_of b leg)) 0 leg.changes rises
      ∙ ap (λ (c : Change). put b (gone c) (changes_over f leg.changes)) (sym (change_over f b leg)))

-- ---- bytes of its own
-- they are shown
pub own_over : (bytes : List ℕ) (frame : Option Framed) → 0 < length bytes → bytes_over bytes frame ≡ bytes
own_over [] frame some = absurd (omega arith)
own_over (x ∷ xs) frame some = refl
