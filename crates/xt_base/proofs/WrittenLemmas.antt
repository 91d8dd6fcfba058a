-- Each step keeps it so that what is listed has a committed content, or was invalidated and waits for the checkpoint that cancels it.
use Rattle.std.proofs.Common.{◌≡◌, ◌≢◌, ◌∙◌, ◌⊎◌, ◌+◌, ◌<◌, ◌≤◌, ◌∷◌, Bool, List, None, Option, Some, [], ap, arith, false, inl, inr, length, refl, subst, suc, sym, true, ℕ}
use Rattle.std.proofs.lemmas.Bool.{cases_Bool, cases_eq, eq-eqb, false≢true, ne_eqb, or_left, or_right}
use Rattle.std.specs.List.{cons_option}
use Rattle.std.specs.Prelude.{IfSome, cond, filter, filter_map, if◌then◌else◌, is_none, is_some, not, unwrap_or, ◌&&◌, ◌==◌, ◌||◌}
use Rattle.xt_base.proofs.KeyLemmas.{at_filter, at_filter_kept, at_filter_map, is_in_filter}
use Rattle.xt_base.proofs.LegLemmas.{keeps_owner_aborted, keeps_owner_after, own_itself, own_trans}
use Rattle.xt_base.proofs.MapLemmas.{at_first, at_later, at_put_other, at_put_same, at_without_other, some_same, without_first, without_later}
use Rattle.xt_base.proofs.RisingLemmas.{each_at, each_map, filter_drop, filter_pass, none_below, rises_above, rises_filter, rises_filter_map}
use Rattle.xt_base.proofs.SoundParts.{activated_one, is_in_activated, rises_activated}
use Rattle.xt_base.specs.Chunks.{union}
use Rattle.xt_base.specs.Jobs.{activated, cleaned, landed_items, waits_on}
use Rattle.xt_base.specs.Legs.{is_lost, is_stale, joined_marks, own_count, owned_by, owner_aborted, owner_after, with_edit, with_edits, with_marks}
use Rattle.xt_base.specs.Maps.{at, has, is_in, put, without}
use Rattle.xt_base.specs.Sound.{AreWritten, Each, IsBetween, IsCancelled, IsCancelledIn, IsFair, IsRising, Owns, RisesFrom, is_cancelled}
use Rattle.xt_base.specs.Space.{flight_items, is_listed}
use Rattle.xt_base.specs.State.{Change, Flight, Items, Leg, Transaction}
use Rattle.xt_base.specs.declared.steps.Owner.{Owner}
use Rattle.xt_base.specs.declared.steps.Owner.TheVariants.{Held, Stale, Trans}

-- a value is not none
some_not_none : {V : Type 0} (v : V) → Some v ≡ None → ⊥
some_not_none v h = absurd (cc)

-- ---- owners
-- a block that a transaction has was not invalidated by a leg that ended
pub own_not_cancelled : (t : ℕ) (o : Option Owner) → is_some (own_count t o) ≡ true → is_cancelled o ≡ false
own_not_cancelled t None own = refl
own_not_cancelled t (Some Held) own = refl
own_not_cancelled t (Some (Stale n)) own = absurd (false≢true own)
own_not_cancelled t (Some (Trans u count)) own = refl

-- nor was one that no other has
pub free_not_cancelled : (t : ℕ) (o : Option Owner) → (is_some o && not (is_some (own_count t o))) ≡ false → is_cancelled o ≡ false
free_not_cancelled t None free = refl
free_not_cancelled t (Some Held) free = refl
free_not_cancelled t (Some (Stale n)) free = absurd (false≢true (sym free))
free_not_cancelled t (Some (Trans u count)) free = refl

pub stale_number : (o : Option Owner) → is_cancelled o ≡ true → (n : ℕ) × (o ≡ Some (Stale n))
stale_number None h = absurd (false≢true h)
stale_number (Some Held) h = absurd (false≢true h)
stale_number (Some (Stale n)) h = (n, refl)
stale_number (Some (Trans u count)) h = absurd (false≢true h)

trans_not_stale : (u count n : ℕ) → Some (Trans u count) ≡ Some (Stale n) → ⊥
trans_not_stale u count n h = absurd (cc)

held_not_stale : (n : ℕ) → Held ≡ Stale n → ⊥
held_not_stale n h = absurd (cc)

stale_same : (n k : ℕ) → Stale n ≡ Stale k → n ≡ k
stale_same n k h = cc

-- what is none of the one is the other
pub other_of : (x y : Bool) → (x || y) ≡ true → x ≡ false → y ≡ true
other_of true y h off = absurd (false≢true (sym off))
other_of false y h off = h

-- an edit or none
none_edit : (o : Option (List ℕ)) → is_some o ≡ false → is_none o ≡ true
none_edit None off = refl
none_edit (Some content) off = absurd (false≢true (sym off))

unlisted_by_three : (c f a : Bool) → c ≡ false → f ≡ false → a ≡ false → (c || f || a) ≡ false
unlisted_by_three c f a hc hf ha = ap (λ x. x || f || a) hc ∙ ap (λ x. x || a) hf ∙ ha

aborted_by : (own held : Bool) (e : ℕ × Owner) (b n : ℕ) → (if not own then Some e else (if held then Some (e.0, Held) else None)) ≡ Some (b, Stale n) → e.1 ≡ Stale n
aborted_by false held e b n h = ap (λ (x : ℕ × Owner). x.1) (some_same e (b, Stale n) h)
aborted_by true true e b n h = absurd (held_not_stale n (ap (λ (x : ℕ × Owner). x.1) (some_same (e.0, Held) (b, Stale n) h)))
aborted_by true false e b n h = absurd (cc)

-- a block that was invalidated once a leg was given up was so before
aborted_stale : (t b n : ℕ) (leg : Leg) (v : Owner) → owner_aborted t leg (b, v) ≡ Some (b, Stale n) → v ≡ Stale n
aborted_stale t b n leg v h = aborted_by (owned_by t v) (has leg.holds b) (b, v) b n h

after_by : (own stale held : Bool) (e : ℕ × Owner) (b k number : ℕ)
    → (if not own then Some e else (if stale then Some (e.0, Stale number) else (if held then Some (e.0, Held) else None))) ≡ Some (b, Stale k) → (e.1 ≡ Stale k) ⊎ ((k ≡ number) × (stale ≡ true))
after_by false stale held e b k number h = inl (ap (λ (x : ℕ × Owner). x.1) (some_same e (b, Stale k) h))
after_by true true held e b k number h = inr (sym (stale_same number k (ap (λ (x : ℕ × Owner). x.1) (some_same (e.0, Stale number) (b, Stale k) h))), refl)
after_by true false true e b k number h = absurd (held_not_stale k (ap (λ (x : ℕ × Owner). x.1) (some_same (e.0, Held) (b, Stale k) h)))
after_by true false false e b k number h = absurd (cc)

-- a block that is invalidated once a leg was committed was so before, or by the leg
after_cases : (t b k number : ℕ) (leg : Leg) (v : Owner) → owner_after t leg number (b, v) ≡ Some (b, Stale k) → (v ≡ Stale k) ⊎ ((k ≡ number) × (is_stale b leg ≡ true))
after_cases t b k number leg v h = after_by (owned_by t v) (is_stale b leg) (has leg.holds b) (b, v) b k number h

stale_by : (o : Option Change) → (is_some o && is_none (unwrap_or o (record { edit = None; marks = []; charged = [] })).edit) ≡ true → (c : Change) × ((o ≡ Some c) × (is_none c.edit ≡ true))
stale_by None h = absurd (false≢true h)
stale_by (Some c) h = (c, (refl, h))

-- the change by which a leg invalidated a block
stale_change : (b : ℕ) (leg : Leg) → is_stale b leg ≡ true → (c : Change) × ((at b leg.changes ≡ Some c) × (is_none c.edit ≡ true))
stale_change b leg h = stale_by (at b leg.changes) h

-- a block that its leg invalidated waits for the checkpoint
after_stale : (t b count number : ℕ) (leg : Leg) (c : Change) → at b leg.changes ≡ Some c → is_none c.edit ≡ true → owner_after t leg number (b, Trans t count) ≡ Some (b, Stale number)
after_stale t b count number leg c is none =
    let own : owned_by t (Trans t count) ≡ true = ap is_some (own_itself t count) in
    let stale : is_stale b leg ≡ true = ap (λ o. is_some o && is_none (unwrap_or o (record { edit = None; marks = []; charged = [] })).edit) is ∙ none in
    let rest : Option (ℕ × Owner) = if has leg.holds b then Some (b, Held) else None in
    ap (λ x. if not x then Some (b, Trans t count) else (if is_stale b leg then Some (b, Stale number) else rest)) own ∙ ap (λ x. if x then Some (b, Stale number) else rest) stale

-- ---- maps
module _ {V : Type 0} where
  -- what a rising map has at a key that a filter keeps, it had
  at_filter_back : (n k : ℕ) (v : V) (p : ℕ × V → Bool) (es : List (ℕ × V)) → RisesFrom n es → at k (filter p es) ≡ Some v → (at k es ≡ Some v) × (p (k, v) ≡ true)
  at_filter_back n k v p [] r h = absurd (cc)
  at_filter_back n k v p (e ∷ es) r h =
      elim (cases_eq k e.0) [
        | inl same ↦
            elim (cases_Bool (p e)) [
              | inl passes ↦
                  let value : v ≡ e.1 = some_same v e.1 (sym h ∙ ap (at k) (filter_pass p e es passes) ∙ at_first k e (filter p es) same) in
                  (at_first k e es same ∙ ap Some (sym value), ap (λ (x : V). p (k, x)) value ∙ ap (λ (x : ℕ). p (x, e.1)) same ∙ passes)
              | inr drops ↦
                  let gone : at k (filter p es) ≡ None = none_below k (suc e.0) (filter p es) (omega (arith, same)) (rises_filter (suc e.0) p es r.1) in
                  absurd (some_not_none v (sym h ∙ ap (at k) (filter_drop p e es drops) ∙ gone))
            ]
        | inr other ↦
            elim (cases_Bool (p e)) [
              | inl passes ↦
                  let back = at_filter_back (suc e.0) k v p es r.1 (sym (ap (at k) (filter_pass p e es passes) ∙ at_later k e (filter p es) other) ∙ h) in
                  (at_later k e es other ∙ back.0, back.1)
              | inr drops ↦
                  let back = at_filter_back (suc e.0) k v p es r.1 (sym (ap (at k) (filter_drop p e es drops)) ∙ h) in
                  (at_later k e es other ∙ back.0, back.1)
            ]
      ]

  past_option : (k n : ℕ) (o : Option (ℕ × V)) (rest : List (ℕ × V)) → k ≢ n → IfSome o (λ x. x.0 ≡ n) → at k (cons_option o rest) ≡ at k rest
  past_option k n None rest other same = refl
  past_option k n (Some x) rest other same = at_later k x rest (λ s. other (s ∙ same))

  -- an entry that a map of entries makes another
  at_filter_map_to : (k : ℕ) (v w : V) (f : ℕ × V → Option (ℕ × V)) (es : List (ℕ × V)) → ((e : ℕ × V) → IfSome (f e) (λ x. x.0 ≡ e.0))
      → at k es ≡ Some v → f (k, v) ≡ Some (k, w) → at k (filter_map f es) ≡ Some w
  at_filter_map_to k v w f [] keeps h there = absurd (cc)
  at_filter_map_to k v w f (e ∷ es) keeps h there =
      elim (cases_eq k e.0) [
        | inl same ↦
            let value : v ≡ e.1 = some_same v e.1 (sym h ∙ at_first k e es same) in
            let becomes : f e ≡ Some (k, w) = sym (ap (λ (x : V). f (e.0, x)) value) ∙ sym (ap (λ (x : ℕ). f (x, v)) same) ∙ there in
            ap (λ o. at k (cons_option o (filter_map f es))) becomes ∙ at_first k (k, w) (filter_map f es) refl
        | inr other ↦ past_option k e.0 (f e) (filter_map f es) other (keeps e) ∙ at_filter_map_to k v w f es keeps (sym (at_later k e es other) ∙ h) there
      ]

  option_back : (k : ℕ) (w : V) (o : Option (ℕ × V)) (rest : List (ℕ × V)) → IfSome o (λ x. x.0 ≡ k) → at k rest ≡ None → at k (cons_option o rest) ≡ Some w → o ≡ Some (k, w)
  option_back k w None rest same none h = absurd (some_not_none w (sym h ∙ none))
  option_back k w (Some x) rest same none h =
      let value : w ≡ x.1 = some_same w x.1 (sym h ∙ at_first k x rest (sym same)) in
      ap (λ (y : ℕ). Some (y, x.1)) same ∙ ap (λ (y : V). Some (k, y)) (sym value)

  -- what a rising map has after a map of entries comes from what it had
  at_filter_map_back : (n k : ℕ) (w : V) (f : ℕ × V → Option (ℕ × V)) (es : List (ℕ × V)) → RisesFrom n es → ((e : ℕ × V) → IfSome (f e) (λ x. x.0 ≡ e.0))
      → at k (filter_map f es) ≡ Some w → (v : V) × ((at k es ≡ Some v) × (f (k, v) ≡ Some (k, w)))
  at_filter_map_back n k w f [] r keeps h = absurd (cc)
  at_filter_map_back n k w f (e ∷ es) r keeps h =
      elim (cases_eq k e.0) [
        | inl same ↦
            let gone : at k (filter_map f es) ≡ None = none_below k (suc e.0) (filter_map f es) (omega (arith, same)) (rises_filter_map (suc e.0) f es keeps r.1) in
            let made : f e ≡ Some (k, w) = option_back k w (f e) (filter_map f es) (subst (λ (x : ℕ). IfSome (f e) (λ y. y.0 ≡ x)) (sym same) (keeps e)) gone h in
            (e.1, (at_first k e es same, ap (λ (x : ℕ). f (x, e.1)) same ∙ made))
        | inr other ↦
            let back = at_filter_map_back (suc e.0) k w f es r.1 keeps (sym (past_option k e.0 (f e) (filter_map f es) other (keeps e)) ∙ h) in
            (back.0, (at_later k e es other ∙ back.1.0, back.1.1))
      ]

  -- a rising map has nothing at a key that was taken out
  pub at_without_same : (n k : ℕ) (es : List (ℕ × V)) → RisesFrom n es → at k (without k es) ≡ None
  at_without_same n k [] r = refl
  at_without_same n k (e ∷ es) r =
      elim (cases_eq k e.0) [
        | inl same ↦ ap (at k) (without_first k e es same) ∙ none_below k (suc e.0) es (omega (arith, same)) r.1
        | inr other ↦ ap (at k) (without_later k e es other) ∙ at_later k e (without k es) other ∙ at_without_same (suc e.0) k es r.1
      ]

  -- the keys after the first of a rising map are others
  others_after : (k n : ℕ) (es : List (ℕ × V)) → k < n → RisesFrom n es → Each (λ e. e.0 ≢ k) es
  others_after k n es less r = each_map (λ e. n ≤ e.0) (λ e. e.0 ≢ k) es (λ e above same. omega (arith, above, same, less)) (rises_above n es r)

  -- what is not there is at no entry
  unlike_each : (k : ℕ) (es : List (ℕ × V)) → at k es ≡ None → Each (λ e. e.0 ≢ k) es
  unlike_each k [] none = tt
  unlike_each k (e ∷ es) none =
      elim (cases_eq k e.0) [
        | inl same ↦ absurd (some_not_none e.1 (sym (at_first k e es same) ∙ none))
        | inr other ↦ ((λ same. other (sym same)), unlike_each k es (sym (at_later k e es other) ∙ none))
      ]

-- ---- a leg's changes
-- an edit of another block leaves a content
at_with_edit : (b c : ℕ) (edit : Option (List ℕ)) (m : List (ℕ × List ℕ)) → c ≢ b → at b (with_edit c edit m) ≡ at b m
at_with_edit b c None m other = at_without_other c b m (λ same. other (sym same))
at_with_edit b c (Some content) m other = at_put_other c b content m (λ same. other (sym same))

at_with_edits : (b : ℕ) (cs : List (ℕ × Change)) (m : List (ℕ × List ℕ)) → Each (λ c. c.0 ≢ b) cs → at b (with_edits cs m) ≡ at b m
at_with_edits b [] m apart = refl
at_with_edits b (c ∷ cs) m apart = at_with_edits b cs (with_edit c.0 c.1.edit m) apart.1 ∙ at_with_edit b c.0 c.1.edit m apart.0

edited_there : (b : ℕ) (edit : Option (List ℕ)) (m : List (ℕ × List ℕ)) → is_some edit ≡ true → is_in b (with_edit b edit m) ≡ true
edited_there b None m some = absurd (false≢true some)
edited_there b (Some content) m some = ap is_some (at_put_same b content m)

-- an edited block has a content after the edits
edit_there : (n b : ℕ) (c : Change) (cs : List (ℕ × Change)) (m : List (ℕ × List ℕ)) → RisesFrom n cs → at b cs ≡ Some c → is_some c.edit ≡ true → is_in b (with_edits cs m) ≡ true
edit_there n b c [] m r is some = absurd (cc)
edit_there n b c (e ∷ cs) m r is some =
    elim (cases_eq b e.0) [
      | inl same ↦
          let value : c ≡ e.1 = some_same c e.1 (sym is ∙ at_first b e cs same) in
          let apart : Each (λ d. d.0 ≢ b) cs = others_after b (suc e.0) cs (omega (arith, same)) r.1 in
          ap is_some (at_with_edits b cs (with_edit e.0 e.1.edit m) apart) ∙ ap (λ (x : ℕ). is_in x (with_edit e.0 e.1.edit m)) same
          ∙ edited_there e.0 e.1.edit m (ap (λ (x : Change). is_some x.edit) (sym value) ∙ some)
      | inr other ↦ edit_there (suc e.0) b c cs (with_edit e.0 e.1.edit m) r.1 (sym (at_later b e cs other) ∙ is) some
    ]

-- marks of other blocks leave an item
at_with_marks : (b : ℕ) (cs : List (ℕ × Change)) (m : List (ℕ × List ℕ)) → Each (λ c. c.0 ≢ b) cs → at b (with_marks cs m) ≡ at b m
at_with_marks b [] m apart = refl
at_with_marks b (c ∷ cs) m apart =
    at_with_marks b cs (put c.0 (joined_marks (at c.0 m) c.1) m) apart.1 ∙ at_put_other c.0 b (joined_marks (at c.0 m) c.1) m (λ same. apart.0 (sym same))

joined_none : (old : Option (List ℕ)) (c : Change) → is_none c.edit ≡ true → joined_marks old c ≡ []
joined_none old c none = ap (λ b. cond b [] (union (unwrap_or old []) c.marks)) none

-- an invalidated block is a cancelled item
stale_there : (n b : ℕ) (c : Change) (cs : List (ℕ × Change)) (m : List (ℕ × List ℕ)) → RisesFrom n cs → at b cs ≡ Some c → is_none c.edit ≡ true → at b (with_marks cs m) ≡ Some []
stale_there n b c [] m r is none = absurd (cc)
stale_there n b c (e ∷ cs) m r is none =
    let j : List ℕ = joined_marks (at e.0 m) e.1 in
    elim (cases_eq b e.0) [
      | inl same ↦
          let value : c ≡ e.1 = some_same c e.1 (sym is ∙ at_first b e cs same) in
          let apart : Each (λ d. d.0 ≢ b) cs = others_after b (suc e.0) cs (omega (arith, same)) r.1 in
          at_with_marks b cs (put e.0 j m) apart ∙ ap (λ (x : ℕ). at x (put e.0 j m)) same ∙ at_put_same e.0 j m
          ∙ ap Some (joined_none (at e.0 m) e.1 (ap (λ (x : Change). is_none x.edit) (sym value) ∙ none))
      | inr other ↦ stale_there (suc e.0) b c cs (put e.0 j m) r.1 (sym (at_later b e cs other) ∙ is) none
    ]

-- ---- a cancelled item leaves the active list
by_kind : (gone there : Bool) (b k number : ℕ) (ail : List (ℕ × ℕ)) → is_in b (without k ail) ≡ false → is_in b ail ≡ false → is_in b (put k number ail) ≡ false
    → is_in b (if gone then without k ail else (if there then ail else put k number ail)) ≡ false
by_kind true there b k number ail x y z = x
by_kind false true b k number ail x y z = y
by_kind false false b k number ail x y z = z

one_gone : (b number : ℕ) (e : ℕ × List ℕ) (ail : List (ℕ × ℕ)) → e.0 ≢ b → is_in b ail ≡ false → is_in b (activated_one number e ail) ≡ false
one_gone b number e ail other absent =
    by_kind (length e.1 == 0) (is_in e.0 ail) b e.0 number ail (ap is_some (at_without_other e.0 b ail (λ same. other (sym same))) ∙ absent) absent
    (ap is_some (at_put_other e.0 b number ail (λ same. other (sym same))) ∙ absent)

still_gone : (b number : ℕ) (es : List (ℕ × List ℕ)) (ail : List (ℕ × ℕ)) → Each (λ e. e.0 ≢ b) es → is_in b ail ≡ false → is_in b (activated number es ail) ≡ false
still_gone b number [] ail apart absent = absent
still_gone b number (e ∷ es) ail apart absent = still_gone b number es (activated_one number e ail) apart.1 (one_gone b number e ail apart.0 absent)

cancelled_gone : (n b number : ℕ) (es : List (ℕ × List ℕ)) (ail : List (ℕ × ℕ)) → RisesFrom n es → IsRising ail → at b es ≡ Some [] → is_in b (activated number es ail) ≡ false
cancelled_gone n b number [] ail r active is = absurd (cc)
cancelled_gone n b number (e ∷ es) ail r active is =
    elim (cases_eq b e.0) [
      | inl same ↦
          let value : [] ≡ e.1 = some_same [] e.1 (sym is ∙ at_first b e es same) in
          let apart : Each (λ d. d.0 ≢ b) es = others_after b (suc e.0) es (omega (arith, same)) r.1 in
          let out : activated_one number e ail ≡ without e.0 ail = ap (λ (x : List ℕ). if length x == 0 then without e.0 ail else (if is_in e.0 ail then ail else put e.0 number ail)) (sym value) in
          let absent : is_in b (activated_one number e ail) ≡ false = ap (is_in b) out ∙ ap (λ (x : ℕ). is_in x (without e.0 ail)) same ∙ ap is_some (at_without_same 0 e.0 ail active) in
          still_gone b number es (activated_one number e ail) apart absent
      | inr other ↦ cancelled_gone (suc e.0) b number es (activated_one number e ail) r.1 (rises_activated number (e ∷ []) ail active) (sym (at_later b e es other) ∙ is)
    ]

-- ---- the lists
pub in_cil : (l : Items) (b : ℕ) → is_in b l.cil ≡ true → is_listed l b ≡ true
in_cil l b h = or_left (is_in b l.cil || is_in b (flight_items l.flight)) (is_in b l.ail) (or_left (is_in b l.cil) (is_in b (flight_items l.flight)) h)

in_flight : (l : Items) (b : ℕ) → is_in b (flight_items l.flight) ≡ true → is_listed l b ≡ true
in_flight l b h = or_left (is_in b l.cil || is_in b (flight_items l.flight)) (is_in b l.ail) (or_right (is_in b l.cil) (is_in b (flight_items l.flight)) h)

pub in_ail : (l : Items) (b : ℕ) → is_in b l.ail ≡ true → is_listed l b ≡ true
in_ail l b h = or_right (is_in b l.cil || is_in b (flight_items l.flight)) (is_in b l.ail) h

by_three : (c f a x : Bool) → (c ≡ true → x ≡ true) → (f ≡ true → x ≡ true) → (a ≡ true → x ≡ true) → (c || f || a) ≡ true → x ≡ true
by_three true f a x hc hf ha h = hc refl
by_three false true a x hc hf ha h = hf refl
by_three false false true x hc hf ha h = ha refl
by_three false false false x hc hf ha h = absurd (false≢true h)

-- a new mount
pub written_none : AreWritten [] [] (record { open_number = 1; cil = []; flight = None; ail = []; landed = [] })
written_none = record { listed = λ b h. absurd (false≢true h); cancelled = λ b n h. absurd (some_not_none (Stale n) (sym h)) }

not_flying : (o : Option Flight) (cil : List (ℕ × List ℕ)) (b n : ℕ) → is_none o ≡ true → IsCancelledIn o cil b n → ⊥
not_flying None cil b n none h = h
not_flying (Some f) cil b n none h = false≢true none

-- the flight of other commit lists that lack the block too
flying_with : (o : Option Flight) (cil more : List (ℕ × List ℕ)) (b n : ℕ) → (is_in b cil ≡ false → is_in b more ≡ false) → IsCancelledIn o cil b n → IsCancelledIn o more b n
flying_with None cil more b n still h = h
flying_with (Some f) cil more b n still h = (h.0, h.1, still h.2)

module _ (owners : List (ℕ × Owner)) (committed : List (ℕ × List ℕ)) (l : Items) (w : AreWritten owners committed l) where
  -- contents of blocks that are not listed may go
  pub written_less : (p : ℕ → Bool) → ((b : ℕ) → is_listed l b ≡ true → p b ≡ true) → AreWritten owners (filter (λ e. p e.0) committed) l
  written_less p keeps = record {
    listed = λ b there. ap (λ o. is_some o || is_cancelled (at b owners)) (at_filter_kept b (λ e. p e.0) committed (λ v. keeps b there)) ∙ w.listed b there;
    cancelled = w.cancelled;
  }

  -- a block that was not invalidated goes to a transaction, and contents come
  pub written_locked : (t b count : ℕ) (contents : List (ℕ × List ℕ)) → is_cancelled (at b owners) ≡ false → ((q : ℕ) → is_in q committed ≡ true → is_in q contents ≡ true)
      → AreWritten (put b (Trans t count) owners) contents l
  written_locked t b count contents live more = record {
    listed = λ q there.
        elim (cases_Bool (is_in q committed)) [
          | inl has_content ↦ or_left (is_in q contents) (is_cancelled (at q (put b (Trans t count) owners))) (more q has_content)
          | inr none ↦
              let out : is_cancelled (at q owners) ≡ true = other_of (is_in q committed) (is_cancelled (at q owners)) (w.listed q there) none in
              let other : q ≢ b = λ same. false≢true (sym live ∙ sym (ap (λ (x : ℕ). is_cancelled (at x owners)) same) ∙ out) in
              or_right (is_in q contents) (is_cancelled (at q (put b (Trans t count) owners))) (ap is_cancelled (at_put_other b q (Trans t count) owners other) ∙ out)
        ];
    cancelled = λ q n h.
        elim (cases_eq q b) [
          | inl same ↦ absurd (trans_not_stale t count n (sym (ap (λ (x : ℕ). at x (put b (Trans t count) owners)) same ∙ at_put_same b (Trans t count) owners) ∙ h))
          | inr other ↦ w.cancelled q n (sym (at_put_other b q (Trans t count) owners other) ∙ h)
        ];
  }

  -- a block that was not invalidated loses its owner
  pub written_unowned : (b : ℕ) → IsRising owners → is_cancelled (at b owners) ≡ false → AreWritten (without b owners) committed l
  written_unowned b rises live = record {
    listed = λ q there.
        elim (cases_Bool (is_in q committed)) [
          | inl has_content ↦ or_left (is_in q committed) (is_cancelled (at q (without b owners))) has_content
          | inr none ↦
              let out : is_cancelled (at q owners) ≡ true = other_of (is_in q committed) (is_cancelled (at q owners)) (w.listed q there) none in
              let other : q ≢ b = λ same. false≢true (sym live ∙ sym (ap (λ (x : ℕ). is_cancelled (at x owners)) same) ∙ out) in
              or_right (is_in q committed) (is_cancelled (at q (without b owners))) (ap is_cancelled (at_without_other b q owners other) ∙ out)
        ];
    cancelled = λ q n h.
        elim (cases_eq q b) [
          | inl same ↦ absurd (some_not_none (Stale n) (sym h ∙ ap (λ (x : ℕ). at x (without b owners)) same ∙ at_without_same 0 b owners rises))
          | inr other ↦ w.cancelled q n (sym (at_without_other b q owners other) ∙ h)
        ];
  }

  -- blocks leave the active list
  pub written_cleaned : (blocks : List ℕ) → AreWritten owners committed (cleaned blocks l)
  written_cleaned blocks = record {
    listed = λ b there.
        w.listed b
        (by_three (is_in b l.cil) (is_in b (flight_items l.flight)) (is_in b (cleaned blocks l).ail) (is_listed l b) (in_cil l b) (in_flight l b)
        (λ active. in_ail l b (is_in_filter b (λ e. not (has blocks e.0)) l.ail active)) there);
    cancelled = w.cancelled;
  }

  -- a checkpoint begins
  pub written_flown : (pieces : List (List ℕ)) → is_none l.flight ≡ true
      → AreWritten owners committed (record l { open_number = l.open_number + 1; cil = []; flight = Some (record { number = l.open_number; items = l.cil; pieces = pieces }) })
  written_flown pieces none = record {
    listed = λ b there. w.listed b (by_three false (is_in b l.cil) (is_in b l.ail) (is_listed l b) (λ h. absurd (false≢true h)) (in_cil l b) (in_ail l b) there);
    cancelled = λ b n h.
        elim (w.cancelled b n h) [
          | inl opened ↦ inr (opened.0, opened.1, refl)
          | inr flying ↦ absurd (not_flying l.flight l.cil b n none flying)
        ];
  }

  -- the flight is on the log
  pub written_landed : (ends : ℕ) (f : Flight) → l.flight ≡ Some f → f.number < l.open_number → IsRising owners → IsRising f.items → IsRising l.ail
      → AreWritten (filter (λ e. not (waits_on f.number e.1)) owners) committed (landed_items ends f l)
  written_landed ends f is below rises flew active =
      let ns : List (ℕ × Owner) = filter (λ e. not (waits_on f.number e.1)) owners in
      let n : Items = landed_items ends f l in
      let was : (b : ℕ) → is_listed n b ≡ true → is_listed l b ≡ true =
      λ b there.
      by_three (is_in b l.cil) false (is_in b n.ail) (is_listed l b) (in_cil l b) (λ h. absurd (false≢true h))
      (λ now.
      elim (is_in_activated b f.number f.items l.ail now) [
        | inl flying ↦ in_flight l b (ap (λ o. is_in b (flight_items o)) is ∙ flying)
        | inr old ↦ in_ail l b old
      ])
      there in
      let flies : (b k : ℕ) → IsCancelledIn l.flight l.cil b k → IsCancelledIn (Some f) l.cil b k = λ b k h. subst (λ o. IsCancelledIn o l.cil b k) is h in
      let stays : (b k : ℕ) → k ≢ f.number → at b owners ≡ Some (Stale k) → at b ns ≡ Some (Stale k) =
      λ b k other h. at_filter b (Stale k) (λ e. not (waits_on f.number e.1)) owners h (ap not (ne_eqb k f.number other)) in
      record {
        listed = λ b there.
            elim (cases_Bool (is_in b committed)) [
              | inl has_content ↦ or_left (is_in b committed) (is_cancelled (at b ns)) has_content
              | inr none ↦
                  let out = stale_number (at b owners) (other_of (is_in b committed) (is_cancelled (at b owners)) (w.listed b (was b there)) none) in
                  elim (w.cancelled b out.0 out.1) [
                    | inl opened ↦
                        let same = opened.0 in
                        or_right (is_in b committed) (is_cancelled (at b ns)) (ap is_cancelled (stays b out.0 (λ e. omega (arith, same, e, below)) out.1))
                    | inr flying ↦
                        let it = flies b out.0 flying in
                        let gone : is_in b n.ail ≡ false = cancelled_gone 0 b f.number f.items l.ail flew active it.1 in
                        absurd (false≢true (sym (unlisted_by_three (is_in b l.cil) false (is_in b n.ail) it.2 refl gone) ∙ there))
                  ]
            ];
        cancelled = λ b k h.
            let back = at_filter_back 0 b (Stale k) (λ e. not (waits_on f.number e.1)) owners rises h in
            elim (w.cancelled b k back.0) [
              | inl opened ↦ inl opened
              | inr flying ↦ absurd (false≢true (sym (ap not (eq-eqb k f.number (flies b k flying).0)) ∙ back.1))
            ];
      }

  -- ---- the end of a leg
  module _ {ends : ℕ} (t : ℕ) (trans : Transaction) (rises : IsRising owners) (fair : IsFair ends owners (t, trans)) where
    stale_stays : (b n number : ℕ) → at b owners ≡ Some (Stale n) → at b (filter_map (owner_after t trans.leg number) owners) ≡ Some (Stale n)
    stale_stays b n number h = at_filter_map b (Stale n) (owner_after t trans.leg number) owners (keeps_owner_after t trans.leg number) h refl

    -- a block that was invalidated before was not changed
    by_change : (b n : ℕ) → at b owners ≡ Some (Stale n) → (o : Option Change) → at b trans.leg.changes ≡ o → o ≡ None
    by_change b n h None is = refl
    by_change b n h (Some c) is =
        let own : Owns owners t b = each_at (λ x. Owns owners t x.0) b c trans.leg.changes is fair.owned in
        absurd (false≢true (ap (λ o. is_some (own_count t o)) (sym h) ∙ own))

    unchanged_stale : (b n : ℕ) → at b owners ≡ Some (Stale n) → at b trans.leg.changes ≡ None
    unchanged_stale b n h = by_change b n h (at b trans.leg.changes) refl

    -- a leg is given up that changed nothing
    pub written_clean : trans.leg.changes ≡ [] → AreWritten (filter_map (owner_aborted t trans.leg) owners) (filter (λ e. not (is_lost trans.leg e.0)) committed) l
    written_clean clean = record {
      listed = λ b there.
          let kept : at b (filter (λ e. not (is_lost trans.leg e.0)) committed) ≡ at b committed =
          at_filter_kept b (λ e. not (is_lost trans.leg e.0)) committed (λ v. ap (λ (cs : List (ℕ × Change)). not (is_in b cs && has trans.leg.holds b)) clean) in
          elim (cases_Bool (is_in b committed)) [
            | inl has_content ↦
                or_left (is_in b (filter (λ e. not (is_lost trans.leg e.0)) committed)) (is_cancelled (at b (filter_map (owner_aborted t trans.leg) owners))) (ap is_some kept ∙ has_content)
            | inr none ↦
                let out = stale_number (at b owners) (other_of (is_in b committed) (is_cancelled (at b owners)) (w.listed b there) none) in
                or_right (is_in b (filter (λ e. not (is_lost trans.leg e.0)) committed)) (is_cancelled (at b (filter_map (owner_aborted t trans.leg) owners)))
                (ap is_cancelled (at_filter_map b (Stale out.0) (owner_aborted t trans.leg) owners (keeps_owner_aborted t trans.leg) out.1 refl))
          ];
      cancelled = λ b n h.
          let back = at_filter_map_back 0 b (Stale n) (owner_aborted t trans.leg) owners rises (keeps_owner_aborted t trans.leg) h in
          w.cancelled b n (back.1.0 ∙ ap Some (aborted_stale t b n trans.leg back.0 back.1.1));
    }

    was_listed : (b : ℕ) → at b trans.leg.changes ≡ None → is_listed (record l { cil = with_marks trans.leg.changes l.cil }) b ≡ true → is_listed l b ≡ true
    was_listed b none there =
        by_three (is_in b (with_marks trans.leg.changes l.cil)) (is_in b (flight_items l.flight)) (is_in b l.ail) (is_listed l b)
        (λ marked. in_cil l b (ap is_some (sym (at_with_marks b trans.leg.changes l.cil (unlike_each b trans.leg.changes none))) ∙ marked)) (in_flight l b) (in_ail l b) there

    ended_listed : (b : ℕ) → is_listed (record l { cil = with_marks trans.leg.changes l.cil }) b ≡ true → (o : Option Change) → at b trans.leg.changes ≡ o
        → (is_in b (with_edits trans.leg.changes committed) || is_cancelled (at b (filter_map (owner_after t trans.leg l.open_number) owners))) ≡ true
    ended_listed b there None none =
        elim (cases_Bool (is_in b committed)) [
          | inl has_content ↦
              or_left (is_in b (with_edits trans.leg.changes committed)) (is_cancelled (at b (filter_map (owner_after t trans.leg l.open_number) owners)))
              (ap is_some (at_with_edits b trans.leg.changes committed (unlike_each b trans.leg.changes none)) ∙ has_content)
          | inr off ↦
              let out = stale_number (at b owners) (other_of (is_in b committed) (is_cancelled (at b owners)) (w.listed b (was_listed b none there)) off) in
              or_right (is_in b (with_edits trans.leg.changes committed)) (is_cancelled (at b (filter_map (owner_after t trans.leg l.open_number) owners)))
              (ap is_cancelled (stale_stays b out.0 l.open_number out.1))
        ]
    ended_listed b there (Some c) is =
        elim (cases_Bool (is_some c.edit)) [
          | inl edited ↦
              or_left (is_in b (with_edits trans.leg.changes committed)) (is_cancelled (at b (filter_map (owner_after t trans.leg l.open_number) owners)))
              (edit_there 0 b c trans.leg.changes committed fair.rising is edited)
          | inr gone ↦
              let own = own_trans t (at b owners) (each_at (λ x. Owns owners t x.0) b c trans.leg.changes is fair.owned) in
              or_right (is_in b (with_edits trans.leg.changes committed)) (is_cancelled (at b (filter_map (owner_after t trans.leg l.open_number) owners)))
              (ap is_cancelled
              (at_filter_map_to b (Trans t own.0) (Stale l.open_number) (owner_after t trans.leg l.open_number) owners (keeps_owner_after t trans.leg l.open_number) own.1
              (after_stale t b own.0 l.open_number trans.leg c is (none_edit c.edit gone))))
        ]

    ended_cancelled : (b k : ℕ) (v : Owner) → at b owners ≡ Some v → owner_after t trans.leg l.open_number (b, v) ≡ Some (b, Stale k)
        → IsCancelled (record l { cil = with_marks trans.leg.changes l.cil }) b k
    ended_cancelled b k v is made =
        elim (after_cases t b k l.open_number trans.leg v made) [
          | inl was ↦
              let before : at b owners ≡ Some (Stale k) = is ∙ ap Some was in
              let apart : Each (λ c. c.0 ≢ b) trans.leg.changes = unlike_each b trans.leg.changes (unchanged_stale b k before) in
              let same : at b (with_marks trans.leg.changes l.cil) ≡ at b l.cil = at_with_marks b trans.leg.changes l.cil apart in
              elim (w.cancelled b k before) [
                | inl opened ↦ inl (opened.0, same ∙ opened.1)
                | inr flying ↦ inr (flying_with l.flight l.cil (with_marks trans.leg.changes l.cil) b k (λ off. ap is_some same ∙ off) flying)
              ]
          | inr now ↦
              let there = stale_change b trans.leg now.1 in
              inl (now.0, stale_there 0 b there.0 trans.leg.changes l.cil fair.rising there.1.0 there.1.1)
        ]

    -- a leg is committed
    pub written_ended : IsBetween l.flight l
        → AreWritten (filter_map (owner_after t trans.leg l.open_number) owners) (with_edits trans.leg.changes committed) (record l { cil = with_marks trans.leg.changes l.cil })
    written_ended between =
        let cs : List (ℕ × Change) = trans.leg.changes in
        let ns : List (ℕ × Owner) = filter_map (owner_after t trans.leg l.open_number) owners in
        let n : Items = record l { cil = with_marks cs l.cil } in
        record {
          listed = λ b there. ended_listed b there (at b cs) refl;
          cancelled = λ b k h.
              let back = at_filter_map_back 0 b (Stale k) (owner_after t trans.leg l.open_number) owners rises (keeps_owner_after t trans.leg l.open_number) h in
              ended_cancelled b k back.0 back.1.0 back.1.1;
        }
