-- What a sound mount hands to its devices was committed, and which landed checkpoints it counts.
use Rattle.std.proofs.Common.{◌≡◌, ◌∙◌, ◌+◌, ◌∷◌, Bool, List, None, Option, Some, [], ap, arith, cond, false, inl, inr, map, refl, suc, sym, take, true, zero, ℕ, ◌≤◌}
use Rattle.std.proofs.lemmas.Bool.{and_parts, cases_Bool, false≢true, not-true}
use Rattle.std.proofs.lemmas.Bool.Decides.{nat_tests}
use Rattle.std.specs.Prelude.{filter, if◌then◌else◌, is_none, is_some, length, nat_le, not, sum_by, ◌&&◌, ◌==◌, ◌||◌}
use Rattle.xt_base.proofs.BusyLemmas.{each_own}
use Rattle.xt_base.proofs.MapLemmas.{at_first, at_later, some_same}
use Rattle.xt_base.proofs.RisingLemmas.{each_both, each_filter, each_map, each_passes, filter_pass, rises_above}
use Rattle.xt_base.proofs.SoundSteps.{is_none_not}
use Rattle.xt_base.proofs.WrittenLemmas.{in_ail, in_cil, other_of, stale_number}
use Rattle.xt_base.specs.Jobs.{by_number, eligible, flush_plan, is_eligible, placed}
use Rattle.xt_base.specs.Laws.{is_since, landed_since}
use Rattle.xt_base.specs.Maps.{at, is_in}
use Rattle.xt_base.specs.Sound.{AreWritten, Each, IsCancelledIn, IsSound, RisesFrom, is_cancelled}
use Rattle.xt_base.specs.Space.{cost, flight_items, granted, is_needed, least_number, lesser, still_needed, used}
use Rattle.xt_base.specs.State.{Flight, State}
use Rattle.xt_base.specs.declared.steps.Owner.{Owner}

-- ---- lists
module _ {A : Type 0} where
  each_if : (P : A → Type 0) (b : Bool) (xs ys : List A) → Each P xs → Each P ys → Each P (if b then xs else ys)
  each_if P true xs ys hx hy = hx
  each_if P false xs ys hx hy = hy

  pub each_take : (P : A → Type 0) (n : ℕ) (xs : List A) → Each P xs → Each P (take n xs)
  each_take P zero xs all = tt
  each_take P (suc n) [] all = tt
  each_take P (suc n) (x ∷ xs) all = (all.0, each_take P n xs all.1)

  -- what passes everywhere is kept whole
  filter_whole : (p : A → Bool) (xs : List A) → Each (λ x. p x ≡ true) xs → filter p xs ≡ xs
  filter_whole p [] all = refl
  filter_whole p (x ∷ xs) all = filter_pass p x xs all.0 ∙ ap (λ ys. x ∷ ys) (filter_whole p xs all.1)

  filter_alike : (p q : A → Bool) (xs : List A) → ((x : A) → p x ≡ q x) → filter p xs ≡ filter q xs
  filter_alike p q [] same = refl
  filter_alike p q (x ∷ xs) same = ap (λ b. cond b (x ∷ filter p xs) (filter p xs)) (same x) ∙ ap (λ ys. cond (q x) (x ∷ ys) ys) (filter_alike p q xs same)

module _ {A B : Type 0} where
  each_mapped : (P : B → Type 0) (f : A → B) (xs : List A) → Each (λ x. P (f x)) xs → Each P (map f xs)
  each_mapped P f [] all = tt
  each_mapped P f (x ∷ xs) all = (all.0, each_mapped P f xs all.1)

module _ {V : Type 0} where
  -- a rising map has each of its entries at its key
  at_own : (n : ℕ) (es : List (ℕ × V)) → RisesFrom n es → Each (λ e. at e.0 es ≡ Some e.1) es
  at_own n [] r = tt
  at_own n (e ∷ es) r = (
    at_first e.0 e es refl,
    each_map (λ x. (at x.0 es ≡ Some x.1) × (suc e.0 ≤ x.0)) (λ x. at x.0 (e ∷ es) ≡ Some x.1) es
        (λ x both. let above = both.1 in at_later x.0 e es (λ same. omega (arith, same, above)) ∙ both.0)
        (each_both (λ x. at x.0 es ≡ Some x.1) (λ x. suc e.0 ≤ x.0) es (at_own (suc e.0) es r.1) (rises_above (suc e.0) es r.1)),
  )

-- ---- what a flush writes
each_placed : (P : ℕ × ℕ → Type 0) (e : ℕ × ℕ) (es : List (ℕ × ℕ)) → P e → Each P es → Each P (placed e es)
each_placed P e [] here all = (here, tt)
each_placed P e (x ∷ xs) here all = each_if P (nat_le e.1 x.1) (e ∷ x ∷ xs) (x ∷ placed e xs) (here, all) (all.0, each_placed P e xs here all.1)

each_by_number : (P : ℕ × ℕ → Type 0) (es : List (ℕ × ℕ)) → Each P es → Each P (by_number es)
each_by_number P [] all = tt
each_by_number P (e ∷ es) all = each_placed P e (by_number es) all.0 (each_by_number P es all.1)

left_of : (x y : Bool) → (x || y) ≡ true → y ≡ false → x ≡ true
left_of true y h off = refl
left_of false y h off = absurd (false≢true (sym off ∙ h))

none_cancelled : (o : Option Owner) → is_some o ≡ false → is_cancelled o ≡ false
none_cancelled None off = refl
none_cancelled (Some o) off = absurd (false≢true (sym off))

-- a block on the active list that nobody has was committed
active_committed : (s : State) (e : ℕ × ℕ) → AreWritten s.owners s.frames.committed s.items → is_in e.0 s.items.ail ≡ true → is_eligible s e ≡ true → is_in e.0 s.frames.committed ≡ true
active_committed s e w active free =
    let away = and_parts (not (is_in e.0 s.items.cil) && not (is_in e.0 (flight_items s.items.flight))) (not (is_in e.0 s.owners)) free in
    left_of (is_in e.0 s.frames.committed) (is_cancelled (at e.0 s.owners)) (w.listed e.0 (in_ail s.items e.0 active)) (none_cancelled (at e.0 s.owners) (not-true (is_in e.0 s.owners) away.1))

planned : (s : State) (shut : Bool) → (shut ≡ false → AreWritten s.owners s.frames.committed s.items)
    → Each (λ b. is_in b s.frames.committed ≡ true) (if shut then [] else map (λ e. e.0) (take 8 (by_number (eligible s))))
planned s true w = tt
planned s false w =
    each_mapped (λ b. is_in b s.frames.committed ≡ true) (λ (e : ℕ × ℕ). e.0) (take 8 (by_number (eligible s)))
    (each_take (λ e. is_in e.0 s.frames.committed ≡ true) 8 (by_number (eligible s))
    (each_by_number (λ e. is_in e.0 s.frames.committed ≡ true) (eligible s)
    (each_map (λ e. (is_in e.0 s.items.ail ≡ true) × (is_eligible s e ≡ true)) (λ e. is_in e.0 s.frames.committed ≡ true) (eligible s) (λ e both. active_committed s e (w refl) both.0 both.1)
    (each_both (λ e. is_in e.0 s.items.ail ≡ true) (λ e. is_eligible s e ≡ true) (eligible s) (each_filter (λ e. is_in e.0 s.items.ail ≡ true) (is_eligible s) s.items.ail (each_own s.items.ail))
    (each_passes (is_eligible s) s.items.ail)))))

-- what a flush writes home was committed
pub planned_committed : (s : State) → IsSound s → Each (λ b. is_in b s.frames.committed ≡ true) (flush_plan s)
planned_committed s h = planned s (is_some s.shut) (λ live. h.written (is_none_not s.shut live))

-- ---- what a text has
-- a block that the flight cancels is not on the commit list
flown_out : (o : Option Flight) (cil : List (ℕ × List ℕ)) (b n : ℕ) → IsCancelledIn o cil b n → is_in b cil ≡ false
flown_out None cil b n h = absurd h
flown_out (Some f) cil b n h = h.2

-- an item with a chunk was committed
item_committed : (s : State) (e : ℕ × List ℕ) → AreWritten s.owners s.frames.committed s.items → at e.0 s.items.cil ≡ Some e.1 → (length e.1 == 0) ≡ false → is_in e.0 s.frames.committed ≡ true
item_committed s e w is some =
    let there : is_in e.0 s.items.cil ≡ true = ap is_some is in
    elim (cases_Bool (is_in e.0 s.frames.committed)) [
      | inl has_content ↦ has_content
      | inr none ↦
          let out = stale_number (at e.0 s.owners) (other_of (is_in e.0 s.frames.committed) (is_cancelled (at e.0 s.owners)) (w.listed e.0 (in_cil s.items e.0 there)) none) in
          elim (w.cancelled e.0 out.0 out.1) [
            | inl opened ↦
                let bare : e.1 ≡ [] = some_same e.1 [] (sym is ∙ opened.1) in
                absurd (false≢true (sym some ∙ ap (λ (x : List ℕ). length x == 0) bare))
            | inr flying ↦ absurd (false≢true (sym (flown_out s.items.flight s.items.cil e.0 out.0 flying) ∙ there))
          ]
    ]

-- each item with a chunk of a live mount's commit list was committed
pub text_committed : (s : State) → IsSound s → is_none s.shut ≡ true → Each (λ e. (length e.1 == 0) ≡ false → is_in e.0 s.frames.committed ≡ true) s.items.cil
text_committed s h live =
    each_map (λ e. at e.0 s.items.cil ≡ Some e.1) (λ e. (length e.1 == 0) ≡ false → is_in e.0 s.frames.committed ≡ true) s.items.cil (λ e is. item_committed s e (h.written live) is)
    (at_own 0 s.items.cil h.parts.cil_rises)

-- ---- which landed checkpoints count
le_lesser : (n m k : ℕ) → (nat_le n k || nat_le m k) ≡ nat_le (if nat_le n m then n else m) k
le_lesser n m k = grind (arith, nat_tests)

or_none : (b : Bool) → (b || false) ≡ b
or_none true = refl
or_none false = refl

since_more : (n k : ℕ) (o : Option ℕ) → (nat_le n k || is_since o k) ≡ is_since (Some (lesser n o)) k
since_more n k None = or_none (nat_le n k)
since_more n k (Some m) = le_lesser n m k

-- a checkpoint is needed where it is no older than the oldest block on the active list
needed_since : (ail : List (ℕ × ℕ)) (k : ℕ) → is_needed ail k ≡ is_since (least_number ail) k
needed_since [] k = refl
needed_since (e ∷ es) k = ap (λ b. nat_le e.1 k || b) (needed_since es k) ∙ since_more e.1 k (least_number es)

-- the landed checkpoints that are kept
pub kept_since : (ail landed : List (ℕ × ℕ)) → still_needed ail landed ≡ landed_since (least_number ail) landed
kept_since ail landed = filter_alike (λ e. is_needed ail e.0) (λ e. is_since (least_number ail) e.0) landed (λ e. needed_since ail e.0)

-- the log space in use
pub used_since : (s : State) → IsSound s
    → used s ≡ granted s.transactions + cost s.form.ends s.items.cil + cost s.form.ends (flight_items s.items.flight) + sum_by (λ e. e.1) (landed_since (least_number s.items.ail) s.items.landed)
used_since s h =
    ap (λ xs. granted s.transactions + cost s.form.ends s.items.cil + cost s.form.ends (flight_items s.items.flight) + sum_by (λ e. e.1) xs)
    (sym (filter_whole (λ e. is_needed s.items.ail e.0) s.items.landed h.parts.landed_needed) ∙ kept_since s.items.ail s.items.landed)
