-- Words of what holds on a live mount, and what a settle does to it.
use mathlib.Core.List.{reverse_aux}
use Rattle.std.proofs.Common.{◌≡◌, ◌∙◌, ◌≤◌, ◌∷◌, ◌++◌, Bool, List, None, Option, Some, [], ap, arith, false, inl, inr, length, refl, suc, sym, true, zero, ℕ}
use Rattle.std.proofs.lemmas.Bool.{and_left, and_parts, false_from_ne_true, false≢true, not-true, or_cases, or_parts}
use Rattle.std.specs.Prelude.{filter, if◌then◌else◌, is_none, is_some, not, reverse, take, unwrap_or, ◌&&◌, ◌==◌, ◌||◌}
use Rattle.xt_base.proofs.KeyLemmas.{at_filter, is_in_filter}
use Rattle.xt_base.proofs.MapLemmas.{at_first, at_later}
use Rattle.xt_base.proofs.RisingLemmas.{each_both, each_filter, each_in, each_map, each_passes, rises_above}
use Rattle.xt_base.specs.Maps.{at, has, is_in}
use Rattle.xt_base.specs.Settle.{Dropped, leaving, rested, settled}
use Rattle.xt_base.proofs.WrittenLemmas.{stale_number}
use Rattle.xt_base.specs.Sound.{AreWritten, Each, IsCancelledIn, IsRising, RisesFrom, is_cancelled}
use Rattle.xt_base.specs.Space.{flight_items, is_busy, is_listed}
use Rattle.xt_base.specs.State.{Flight, State}
use Rattle.xt_base.specs.Text.{chunk, zeros}
use Rattle.xt_recovery.proofs.LogLemmas.{second_if, some_of}
use Rattle.xt_recovery.proofs.RecoverLemmas.{none_item}
use Rattle.xt_recovery.proofs.Matching.{IsIdleLanded, MatchesDisks, next_image}
use Rattle.xt_recovery.specs.Disks.{Disks}
use Rattle.xt_recovery.specs.Log.{chunks_of, is_cancel}

-- ---- lists
module _ {A : Type 0} where
  each_aux : (P : A → Type 0) (xs ys : List A) → Each P xs → Each P ys → Each P (reverse_aux xs ys)
  each_aux P [] ys all more = more
  each_aux P (x ∷ xs) ys all more = each_aux P xs (x ∷ ys) all.1 (all.0, more)

  pub each_reverse : (P : A → Type 0) (xs : List A) → Each P xs → Each P (reverse xs)
  each_reverse P xs all = each_aux P xs [] all tt

  pub each_append : (P : A → Type 0) (xs ys : List A) → Each P xs → Each P ys → Each P (xs ++ ys)
  each_append P [] ys all more = more
  each_append P (x ∷ xs) ys all more = (all.0, each_append P xs ys all.1 more)

  -- what holds of each of two lists together holds of each of either
  pub each_parts : (P : A → Type 0) (xs ys : List A) → Each P (xs ++ ys) → Each P xs × Each P ys
  each_parts P [] ys all = (tt, all)
  each_parts P (x ∷ xs) ys all = let rest = each_parts P xs ys all.1 in ((all.0, rest.0), rest.1)

  pub each_take : (P : A → Type 0) (n : ℕ) (xs : List A) → Each P xs → Each P (take n xs)
  each_take P zero xs all = tt
  each_take P (suc n) [] all = tt
  each_take P (suc n) (x ∷ xs) all = (all.0, each_take P n xs all.1)

module _ {V : Type 0} where
  -- each entry of a rising map is what stands at its key
  pub each_entry : (m : ℕ) (es : List (ℕ × V)) → RisesFrom m es → Each (λ e. at e.0 es ≡ Some e.1) es
  each_entry m [] r = tt
  each_entry m (e ∷ es) r = (
    at_first e.0 e es refl,
    each_map (λ x. (at x.0 es ≡ Some x.1) × (suc e.0 ≤ x.0)) (λ x. at x.0 (e ∷ es) ≡ Some x.1) es
        (λ x both. at_later x.0 e es (λ same. omega (arith, same, both.1)) ∙ both.0)
        (each_both (λ x. at x.0 es ≡ Some x.1) (λ x. suc e.0 ≤ x.0) es (each_entry (suc e.0) es r.1) (rises_above (suc e.0) es r.1)),
  )

-- ---- words
-- what is not there has no chunk
pub no_chunks : (b k : ℕ) (items : List (ℕ × List ℕ)) → is_in b items ≡ false → has (chunks_of b items) k ≡ false
no_chunks b k items h = ap (λ o. has (unwrap_or o []) k) (none_item (at b items) h)

-- and is not cancelled
pub no_item : (b : ℕ) (items : List (ℕ × List ℕ)) → is_in b items ≡ false → is_cancel b items ≡ false
no_item b items h = and_left (is_in b items) (length (chunks_of b items) == 0) h

-- what no flight has is to be as it landed
pub coming_other : (o : Option Flight) (d : Disks) (b k : ℕ) → is_in b (flight_items o) ≡ false → next_image o d b k ≡ d.landed b k
coming_other None d b k h = refl
coming_other (Some f) d b k h =
    second_if (is_cancel b f.items) (d.home b k) (if is_in b f.items then chunk (d.snapshot b) k else d.landed b k) (no_item b f.items h)
    ∙ second_if (is_in b f.items) (chunk (d.snapshot b) k) (d.landed b k) h

-- a block that is not cancelled does not hang on the home image
pub coming_home : (o : Option Flight) (d e : Disks) (b k : ℕ) → e.landed ≡ d.landed → e.snapshot ≡ d.snapshot → is_cancel b (flight_items o) ≡ false → next_image o e b k ≡ next_image o d b k
coming_home None d e b k same flew h = ap (λ i. i b k) same
coming_home (Some f) d e b k same flew h =
    second_if (is_cancel b f.items) (e.home b k) (if is_in b f.items then chunk (e.snapshot b) k else e.landed b k) h
    ∙ ap (λ i. if is_in b f.items then chunk (e.snapshot b) k else i b k) same
    ∙ ap (λ c. if is_in b f.items then chunk (c b) k else d.landed b k) flew
    ∙ sym (second_if (is_cancel b f.items) (d.home b k) (if is_in b f.items then chunk (d.snapshot b) k else d.landed b k) h)

three_parts : (c f a : Bool) → (c || f || a) ≡ false → (c ≡ false) × (f ≡ false)
three_parts false false false h = (refl, refl)
three_parts true f a h = absurd (cc)
three_parts false true a h = absurd (cc)
three_parts false false true h = absurd (cc)

-- not busy: no owner, and on no list
pub idle_parts : (s : State) (b : ℕ) → is_busy s b ≡ false → (is_in b s.items.cil ≡ false) × (is_in b (flight_items s.items.flight) ≡ false)
idle_parts s b h =
    let listed : is_listed s.items b ≡ false = (or_parts (is_in b s.owners) (is_listed s.items b) h).1 in
    three_parts (is_in b s.items.cil) (is_in b (flight_items s.items.flight)) (is_in b s.items.ail) listed

-- ---- a settle
module _ (dropped : Dropped) (d : Disks) (s : State) (rises : IsRising s.frames.committed) (h : MatchesDisks d s) where
  -- what stays has its content
  pub content_stays : (b : ℕ) → is_busy s b ≡ true → is_in b s.frames.committed ≡ true → at b (filter (λ e. is_busy s e.0) s.frames.committed) ≡ at b s.frames.committed
  content_stays b busy there =
      let v = some_of (at b s.frames.committed) there in
      at_filter b v.0 (λ e. is_busy s e.0) s.frames.committed v.1 busy ∙ sym v.1

  -- what is there after it was there and is busy
  pub stayed : (b : ℕ) → is_in b (filter (λ e. is_busy s e.0) s.frames.committed) ≡ true → (is_busy s b ≡ true) × (is_in b s.frames.committed ≡ true)
  stayed b there = (
    each_in (λ q. is_busy s q ≡ true) b (filter (λ e. is_busy s e.0) s.frames.committed) there (each_passes (λ e. is_busy s e.0) s.frames.committed),
    is_in_filter b (λ e. is_busy s e.0) s.frames.committed there,
  )

  bare_still : (b : ℕ) → is_in b s.frames.committed ≡ false → is_in b (filter (λ e. is_busy s e.0) s.frames.committed) ≡ false
  bare_still b bare = false_from_ne_true (is_in b (filter (λ e. is_busy s e.0) s.frames.committed)) (λ there. false≢true (sym bare ∙ is_in_filter b (λ e. is_busy s e.0) s.frames.committed there))

  -- a content that leaves is the landed one
  left_entry : (e : ℕ × List ℕ) → (not (is_busy s e.0) && not (has dropped e.0)) ≡ true → at e.0 s.frames.committed ≡ Some e.1 → IsIdleLanded d s e
  left_entry e leaves there =
      let off : is_busy s e.0 ≡ false = not-true (is_busy s e.0) (and_parts (not (is_busy s e.0)) (not (has dropped e.0)) leaves).0 in
      let parts = idle_parts s e.0 off in (
        off,
        λ k small.
            ap (λ o. chunk (unwrap_or o (zeros s.form.size)) k) (sym there)
            ∙ h.marked e.0 k small (ap is_some there) (no_chunks e.0 k s.items.cil parts.0) ∙ coming_other s.items.flight d e.0 k parts.1,
      )

  left_all : Each (IsIdleLanded d s) (leaving dropped s)
  left_all =
      each_map (λ e. (at e.0 s.frames.committed ≡ Some e.1) × ((not (is_busy s e.0) && not (has dropped e.0)) ≡ true)) (IsIdleLanded d s) (leaving dropped s) (λ e both. left_entry e both.1 both.0)
      (each_both (λ e. at e.0 s.frames.committed ≡ Some e.1) (λ e. (not (is_busy s e.0) && not (has dropped e.0)) ≡ true) (leaving dropped s)
      (each_filter (λ e. at e.0 s.frames.committed ≡ Some e.1) (λ e. not (is_busy s e.0) && not (has dropped e.0)) s.frames.committed (each_entry 0 s.frames.committed rises))
      (each_passes (λ e. not (is_busy s e.0) && not (has dropped e.0)) s.frames.committed))

  rest_if : (live : Bool) → Each (IsIdleLanded d s) (if live then rested (leaving dropped s) s.frames.idle else s.frames.idle)
  rest_if true = each_take (IsIdleLanded d s) 64 (reverse (leaving dropped s) ++ s.frames.idle) (each_append (IsIdleLanded d s) (reverse (leaving dropped s)) s.frames.idle (each_reverse (IsIdleLanded d s) (leaving dropped s) left_all) h.idle)
  rest_if false = h.idle

  -- a settle keeps a mount matched with its disks
  pub matches_settled : MatchesDisks d (settled dropped s)
  matches_settled = record {
    marked = λ b k small there absent.
        let was = stayed b there in
        ap (λ o. chunk (unwrap_or o (zeros s.form.size)) k) (content_stays b was.0 was.1) ∙ h.marked b k small was.1 absent;
    given_up = λ b cancels. let g = h.given_up b cancels in record { waits = g.waits; bare = bare_still b g.bare };
    going = λ b cancels. let g = h.going b cancels in record { waits = g.waits; bare = bare_still b g.bare; once = g.once };
    idle = rest_if (is_none s.shut);
  }

-- ---- what is listed has a content
cancels_here : (b : ℕ) (items : List (ℕ × List ℕ)) → at b items ≡ Some [] → is_cancel b items ≡ true
cancels_here b items is = ap (λ o. is_some o && (length (unwrap_or o []) == 0)) is

cancels_in : (o : Option Flight) (cil : List (ℕ × List ℕ)) (b n : ℕ) → IsCancelledIn o cil b n → is_cancel b (flight_items o) ≡ true
cancels_in None cil b n h = absurd h
cancels_in (Some f) cil b n h = cancels_here b f.items h.1

-- a listed block that is not cancelled has a content
pub present_of : (b : ℕ) (s : State) → AreWritten s.owners s.frames.committed s.items → is_listed s.items b ≡ true → is_cancel b s.items.cil ≡ false → is_cancel b (flight_items s.items.flight) ≡ false → is_in b s.frames.committed ≡ true
present_of b s w listed here flies =
    elim (or_cases (is_in b s.frames.committed) (is_cancelled (at b s.owners)) (w.listed b listed)) [
      | inl there ↦ there
      | inr waits ↦
          let number = stale_number (at b s.owners) waits in
          elim (w.cancelled b number.0 number.1) [
            | inl now ↦ absurd (false≢true (sym here ∙ cancels_here b s.items.cil now.1))
            | inr soon ↦ absurd (false≢true (sym flies ∙ cancels_in s.items.flight s.items.cil b number.0 soon))
          ]
    ]
