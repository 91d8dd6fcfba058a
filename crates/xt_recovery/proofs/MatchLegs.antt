-- The commit of a leg keeps a live mount matched with its disks.
use Rattle.std.proofs.Common.{◌≡◌, ◌≢◌, ◌∙◌, ◌⊎◌, ◌∷◌, ◌≤◌, List, None, Option, Some, [], ap, arith, cond, false, inl, inr, length, refl, subst, suc, sym, true, ℕ}
use Rattle.std.proofs.lemmas.Bool.{and_from, and_parts, cases_eq, false≢true, ne_eqb, or_left, or_parts, or_right}
use Rattle.std.specs.List.{cons_option}
use Rattle.std.specs.Prelude.{IfSome, filter_map, if◌then◌else◌, is_none, is_some, not, unwrap_or, ◌&&◌, ◌/◌, ◌<◌, ◌==◌, ◌||◌}
use Rattle.xt_base.proofs.ChunkCounts.{has-chunks_where}
use Rattle.xt_base.proofs.KeyLemmas.{at_filter_map, is_in_filter_map}
use Rattle.xt_base.proofs.LegLemmas.{is_in_with_marks, keeps_owner_after, own_itself, own_trans, owned_there, rises_with_edits}
use Rattle.xt_base.proofs.MapLemmas.{at_first, at_later, at_put_other, at_put_same, at_without_other, some_none, some_same}
use Rattle.xt_base.proofs.RisingLemmas.{each_in, each_map, none_below}
use Rattle.xt_base.specs.Chunks.{union}
use Rattle.xt_base.specs.Legs.{change_of, ended, is_stale, joined_marks, own_count, owned_by, owner_after, with_edit, with_edits, with_marks}
use Rattle.xt_base.specs.Maps.{at, has, is_in, put}
use Rattle.xt_base.specs.Sound.{IsFair, IsRising, Owns, RisesFrom}
use Rattle.xt_base.specs.Space.{flight_items, is_busy, is_listed}
use Rattle.xt_base.specs.State.{Change, State, Transaction}
use Rattle.xt_base.specs.Text.{chunk, zeros}
use Rattle.xt_base.specs.declared.steps.Owner.TheVariants.{Held, Stale, Trans}
use Rattle.xt_recovery.proofs.MatchJobs.{at_without_same, less_busy, listed_cases, in_active, in_committed, in_flight}
use Rattle.xt_recovery.proofs.Consistent.{AreMarkedEdits}
use Rattle.xt_recovery.proofs.Matching.{IsCancelledInFlight, IsCancelledOpen, IsIdleLanded, MatchesDisks, next_image}
use Rattle.xt_recovery.specs.Disks.{Disks, content_of}
use Rattle.xt_recovery.specs.Log.{HasChunk, chunks_of, is_cancel}
use Rattle.xt_base.specs.Form.{Form, IsForm}

-- ---- lists
pub cases_option : {A : Type 0} (o : Option A) → (o ≡ None) ⊎ ((x : A) × (o ≡ Some x))
cases_option None = inl refl
cases_option (Some x) = inr (x, refl)

pub past_entry : {V : Type 0} (k n : ℕ) (o : Option (ℕ × V)) (rest : List (ℕ × V)) → k ≢ n → IfSome o (λ x. x.0 ≡ n) → at k (cons_option o rest) ≡ at k rest
past_entry k n None rest other same = refl
past_entry k n (Some x) rest other same = at_later k x rest (λ s. other (s ∙ same))

-- what a map of entries makes of the entry at a key
pub at_mapped : {V : Type 0} (k : ℕ) (v w : V) (f : ℕ × V → Option (ℕ × V)) (es : List (ℕ × V)) → ((e : ℕ × V) → IfSome (f e) (λ x. x.0 ≡ e.0)) → at k es ≡ Some v → f (k, v) ≡ Some (k, w) → at k (filter_map f es) ≡ Some w
at_mapped k v w f [] keeps h there = some_none v (at k (filter_map f []) ≡ Some w) (sym h)
at_mapped k v w f (e ∷ es) keeps h there =
    elim (cases_eq k e.0) [
      | inl same ↦
          let value : v ≡ e.1 = some_same v e.1 (sym h ∙ at_first k e es same) in
          let stays : f e ≡ Some (k, w) = sym (ap (λ x. f (e.0, x)) value) ∙ sym (ap (λ (x : ℕ). f (x, v)) same) ∙ there in
          ap (λ o. at k (cons_option o (filter_map f es))) stays ∙ at_first k (k, w) (filter_map f es) refl
      | inr other ↦ past_entry k e.0 (f e) (filter_map f es) other (keeps e) ∙ at_mapped k v w f es keeps (sym (at_later k e es other) ∙ h) there
    ]

edit_other : (q b : ℕ) (edit : Option (List ℕ)) (m : List (ℕ × List ℕ)) → q ≢ b → at q (with_edit b edit m) ≡ at q m
edit_other q b None m other = at_without_other b q m other
edit_other q b (Some content) m other = at_put_other b q content m other

edit_same : (b : ℕ) (edit : Option (List ℕ)) (m : List (ℕ × List ℕ)) → IsRising m → at b (with_edit b edit m) ≡ edit
edit_same b None m r = at_without_same 0 b m r
edit_same b (Some content) m r = at_put_same b content m

-- a block that a leg did not change keeps its content
pub at_edits_other : (b : ℕ) (cs : List (ℕ × Change)) (m : List (ℕ × List ℕ)) → at b cs ≡ None → at b (with_edits cs m) ≡ at b m
at_edits_other b [] m h = refl
at_edits_other b (e ∷ cs) m h =
    elim (cases_eq b e.0) [
      | inl same ↦ some_none e.1 (at b (with_edits (e ∷ cs) m) ≡ at b m) (sym (at_first b e cs same) ∙ h)
      | inr other ↦ at_edits_other b cs (with_edit e.0 e.1.edit m) (sym (at_later b e cs other) ∙ h) ∙ edit_other b e.0 e.1.edit m other
    ]

-- one that it did has its edit
pub at_edits_same : (n b : ℕ) (c : Change) (cs : List (ℕ × Change)) (m : List (ℕ × List ℕ)) → RisesFrom n cs → IsRising m → at b cs ≡ Some c → at b (with_edits cs m) ≡ c.edit
at_edits_same n b c [] m r mr h = some_none c (at b (with_edits [] m) ≡ c.edit) (sym h)
at_edits_same n b c (e ∷ cs) m r mr h =
    elim (cases_eq b e.0) [
      | inl same ↦
          let value : e.1 ≡ c = some_same e.1 c (sym (at_first b e cs same) ∙ h) in
          at_edits_other b cs (with_edit e.0 e.1.edit m) (none_below b (suc e.0) cs (omega (arith, same)) r.1)
          ∙ ap (λ (x : ℕ). at x (with_edit e.0 e.1.edit m)) same ∙ edit_same e.0 e.1.edit m mr ∙ ap (λ (x : Change). x.edit) value
      | inr other ↦ at_edits_same (suc e.0) b c cs (with_edit e.0 e.1.edit m) r.1 (rises_with_edits (e ∷ []) m mr) (sym (at_later b e cs other) ∙ h)
    ]

-- the items of a block that a leg did not change stay
pub at_marks_other : (b : ℕ) (cs : List (ℕ × Change)) (m : List (ℕ × List ℕ)) → at b cs ≡ None → at b (with_marks cs m) ≡ at b m
at_marks_other b [] m h = refl
at_marks_other b (e ∷ cs) m h =
    elim (cases_eq b e.0) [
      | inl same ↦ some_none e.1 (at b (with_marks (e ∷ cs) m) ≡ at b m) (sym (at_first b e cs same) ∙ h)
      | inr other ↦
          at_marks_other b cs (put e.0 (joined_marks (at e.0 m) e.1) m) (sym (at_later b e cs other) ∙ h)
          ∙ at_put_other e.0 b (joined_marks (at e.0 m) e.1) m other
    ]

-- that of one that it did has its marks joined
pub at_marks_same : (n b : ℕ) (c : Change) (cs : List (ℕ × Change)) (m : List (ℕ × List ℕ)) → RisesFrom n cs → at b cs ≡ Some c → at b (with_marks cs m) ≡ Some (joined_marks (at b m) c)
at_marks_same n b c [] m r h = some_none c (at b (with_marks [] m) ≡ Some (joined_marks (at b m) c)) (sym h)
at_marks_same n b c (e ∷ cs) m r h =
    elim (cases_eq b e.0) [
      | inl same ↦
          let value : e.1 ≡ c = some_same e.1 c (sym (at_first b e cs same) ∙ h) in
          at_marks_other b cs (put e.0 (joined_marks (at e.0 m) e.1) m) (none_below b (suc e.0) cs (omega (arith, same)) r.1)
          ∙ ap (λ (x : ℕ). at x (put e.0 (joined_marks (at e.0 m) e.1) m)) same ∙ at_put_same e.0 (joined_marks (at e.0 m) e.1) m
          ∙ ap (λ (x : ℕ). Some (joined_marks (at x m) e.1)) (sym same) ∙ ap (λ (x : Change). Some (joined_marks (at b m) x)) value
      | inr other ↦
          at_marks_same (suc e.0) b c cs (put e.0 (joined_marks (at e.0 m) e.1) m) r.1 (sym (at_later b e cs other) ∙ h)
          ∙ ap (λ o. Some (joined_marks o c)) (at_put_other e.0 b (joined_marks (at e.0 m) e.1) m other)
    ]

-- a block has no more than 32 chunks
pub chunk_small : (form : Form) → IsForm form → (k : ℕ) → HasChunk form.size k → k < 32
chunk_small form fits k there =
    let most : form.size ≤ 4096 = fits.small in
    let one : k < form.size / 128 = there in
    omega (arith, most, one)

-- a chunk of a union is of either
pub has_union : (a b : List ℕ) (k : ℕ) → k < 32 → has (union a b) k ≡ (has a k || has b k)
has_union a b k small = has-chunks_where (λ q. has a q || has b q) k small

some_chunk : (xs : List ℕ) (k : ℕ) → has xs k ≡ true → (length xs == 0) ≡ false
some_chunk [] k h = absurd (false≢true h)
some_chunk (x ∷ xs) k h = ne_eqb (length (x ∷ xs)) 0 (λ same. omega (arith, same))

-- ---- the commit of a leg
module _ (t : ℕ) (trans : Transaction) (d : Disks) (s : State) (fits : IsForm s.form) (form : s.form ≡ d.form) (fair : IsFair s.form.ends s.owners (t, trans)) (rises : IsRising s.frames.committed) (edits : AreMarkedEdits s.form.size s.frames.committed trans.leg.changes) (h : MatchesDisks d s) where
  abbrev pub cs : List (ℕ × Change)
  cs = trans.leg.changes

  -- the mount after it, before it settles
  abbrev pub ended_state : State
  ended_state = ended t trans.leg s

  content_other : (b : ℕ) → at b cs ≡ None → at b ended_state.frames.committed ≡ at b s.frames.committed
  content_other b none = at_edits_other b cs s.frames.committed none

  content_same : (b : ℕ) (c : Change) → at b cs ≡ Some c → at b ended_state.frames.committed ≡ c.edit
  content_same b c is = at_edits_same 0 b c cs s.frames.committed fair.rising rises is

  item_other : (b : ℕ) → at b cs ≡ None → at b ended_state.items.cil ≡ at b s.items.cil
  item_other b none = at_marks_other b cs s.items.cil none

  item_same : (b : ℕ) (c : Change) → at b cs ≡ Some c → at b ended_state.items.cil ≡ Some (joined_marks (at b s.items.cil) c)
  item_same b c is = at_marks_same 0 b c cs s.items.cil fair.rising is

  -- a changed block was the transaction's own
  changed_own : (b : ℕ) (c : Change) → at b cs ≡ Some c → Owns s.owners t b
  changed_own b c is = each_in (λ q. Owns s.owners t q) b cs (ap is_some is) fair.owned

  chunks_edit : (b : ℕ) (c : Change) (content : List ℕ) → at b cs ≡ Some c → c.edit ≡ Some content → chunks_of b ended_state.items.cil ≡ union (chunks_of b s.items.cil) c.marks
  chunks_edit b c content is edit = ap (λ o. unwrap_or o []) (item_same b c is) ∙ ap (λ o. cond (is_none o) [] (union (chunks_of b s.items.cil) c.marks)) edit

  chunks_stale : (b : ℕ) (c : Change) → at b cs ≡ Some c → c.edit ≡ None → chunks_of b ended_state.items.cil ≡ []
  chunks_stale b c is stale = ap (λ o. unwrap_or o []) (item_same b c is) ∙ ap (λ o. cond (is_none o) [] (union (chunks_of b s.items.cil) c.marks)) stale

  cancel_other : (b : ℕ) → at b cs ≡ None → is_cancel b ended_state.items.cil ≡ is_cancel b s.items.cil
  cancel_other b none = ap (λ o. is_some o && (length (unwrap_or o []) == 0)) (item_other b none)

  cancel_stale : (b : ℕ) (c : Change) → at b cs ≡ Some c → c.edit ≡ None → is_cancel b ended_state.items.cil ≡ true
  cancel_stale b c is stale = and_from (is_in b ended_state.items.cil) (length (chunks_of b ended_state.items.cil) == 0) (ap is_some (item_same b c is)) (ap (λ (x : List ℕ). length x == 0) (chunks_stale b c is stale))

  cancel_edit : (b : ℕ) (c : Change) (content : List ℕ) → at b cs ≡ Some c → c.edit ≡ Some content → is_cancel b ended_state.items.cil ≡ true → ⊥
  cancel_edit b c content is edit cancels =
      let consistent_edit = edits b c is in
      let one = consistent_edit.marks content edit in
      let there : has (chunks_of b ended_state.items.cil) one.0 ≡ true =
      ap (λ (x : List ℕ). has x one.0) (chunks_edit b c content is edit) ∙ has_union (chunks_of b s.items.cil) c.marks one.0 (chunk_small s.form fits one.0 one.1) ∙ or_right (has (chunks_of b s.items.cil) one.0) (has c.marks one.0) one.2 in
      false≢true (sym (some_chunk (chunks_of b ended_state.items.cil) one.0 there) ∙ (and_parts (is_in b ended_state.items.cil) (length (chunks_of b ended_state.items.cil) == 0) cancels).1)

  ended_marked : (b k : ℕ) → HasChunk d.form.size k → is_in b ended_state.frames.committed ≡ true → has (chunks_of b ended_state.items.cil) k ≡ false → chunk (content_of ended_state b) k ≡ next_image s.items.flight d b k
  ended_marked b k small there absent =
      elim (cases_option (at b cs)) [
        | inl none ↦
            ap (λ o. chunk (unwrap_or o (zeros s.form.size)) k) (content_other b none)
            ∙ h.marked b k small (sym (ap is_some (content_other b none)) ∙ there) (sym (ap (λ o. has (unwrap_or o []) k) (item_other b none)) ∙ absent)
        | inr changed ↦
            let c : Change = changed.0 in
            elim (cases_option c.edit) [
              | inl stale ↦ absurd (false≢true (sym (ap is_some (content_same b c changed.1 ∙ stale)) ∙ there))
              | inr edit ↦
                  let consistent_edit = edits b c changed.1 in
                  let own : HasChunk s.form.size k = subst (λ (x : Form). HasChunk x.size k) (sym form) small in
                  let neither = or_parts (has (chunks_of b s.items.cil) k) (has c.marks k)
                  (sym (has_union (chunks_of b s.items.cil) c.marks k (chunk_small s.form fits k own)) ∙ sym (ap (λ (x : List ℕ). has x k) (chunks_edit b c edit.0 changed.1 edit.1)) ∙ absent) in
                  let agrees = consistent_edit.agrees edit.0 k edit.1 own neither.1 in
                  ap (λ o. chunk (unwrap_or o (zeros s.form.size)) k) (content_same b c changed.1 ∙ edit.1) ∙ agrees.1 ∙ h.marked b k small agrees.0 neither.0
            ]
      ]

  stale_stays : (b n : ℕ) → at b s.owners ≡ Some (Stale n) → at b ended_state.owners ≡ Some (Stale n)
  stale_stays b n waits = at_filter_map b (Stale n) (owner_after t trans.leg s.items.open_number) s.owners (keeps_owner_after t trans.leg s.items.open_number) waits refl

  ended_given_up : (b : ℕ) → is_cancel b ended_state.items.cil ≡ true → IsCancelledOpen ended_state b
  ended_given_up b cancels =
      elim (cases_option (at b cs)) [
        | inl none ↦
            let g = h.given_up b (sym (cancel_other b none) ∙ cancels) in
            record { waits = stale_stays b s.items.open_number g.waits; bare = ap is_some (content_other b none) ∙ g.bare }
        | inr changed ↦
            let c : Change = changed.0 in
            elim (cases_option c.edit) [
              | inl stale ↦
                  let own = own_trans t (at b s.owners) (changed_own b c changed.1) in
                  let number : ℕ = s.items.open_number in
                  let mine : owned_by t (Trans t own.0) ≡ true = ap is_some (own_itself t own.0) in
                  let is : is_stale b trans.leg ≡ true =
                  and_from (is_in b cs) (is_none (change_of b trans.leg).edit) (ap is_some changed.1) (ap (λ o. is_none (unwrap_or {T = Change} o (record { edit = None; marks = []; charged = [] })).edit) changed.1 ∙ ap is_none stale) in
                  let becomes : owner_after t trans.leg number (b, Trans t own.0) ≡ Some (b, Stale number) =
                  ap (λ x. if not x then Some (b, Trans t own.0) else (if is_stale b trans.leg then Some (b, Stale number) else (if has trans.leg.holds b then Some (b, Held) else None))) mine
                  ∙ ap (λ x. if x then Some (b, Stale number) else (if has trans.leg.holds b then Some (b, Held) else None)) is in
                  record {
                    waits = at_mapped b (Trans t own.0) (Stale number) (owner_after t trans.leg number) s.owners (keeps_owner_after t trans.leg number) own.1 becomes;
                    bare = ap is_some (content_same b c changed.1 ∙ stale);
                  }
              | inr edit ↦ absurd (cancel_edit b c edit.0 changed.1 edit.1 cancels)
            ]
      ]

  ended_going : (b : ℕ) → is_cancel b (flight_items s.items.flight) ≡ true → IsCancelledInFlight ended_state b
  ended_going b cancels =
      let g = h.going b cancels in
      let waits = g.waits in
      elim (cases_option (at b cs)) [
        | inl none ↦
            record { waits = (waits.0, stale_stays b waits.0 waits.1); bare = ap is_some (content_other b none) ∙ g.bare; once = ap is_some (item_other b none) ∙ g.once }
        | inr changed ↦ absurd (false≢true (sym (ap (λ o. is_some (own_count t o)) waits.1) ∙ changed_own b changed.0 changed.1))
      ]

  busy_before : (b : ℕ) → is_busy ended_state b ≡ true → is_busy s b ≡ true
  busy_before b busy =
      listed_cases (is_in b ended_state.owners) (is_listed ended_state.items b) false (is_busy s b)
      (λ owned. or_left (is_in b s.owners) (is_listed s.items b) (is_in_filter_map b (owner_after t trans.leg s.items.open_number) s.owners (keeps_owner_after t trans.leg s.items.open_number) owned))
      (λ listed.
      listed_cases (is_in b ended_state.items.cil) (is_in b (flight_items s.items.flight)) (is_in b s.items.ail) (is_busy s b)
      (λ item.
      elim (is_in_with_marks b cs s.items.cil item) [
        | inl changed ↦ or_left (is_in b s.owners) (is_listed s.items b) (owned_there t b s.owners (each_in (λ q. Owns s.owners t q) b cs changed fair.owned))
        | inr old ↦ or_right (is_in b s.owners) (is_listed s.items b) (in_committed (is_in b s.items.cil) (is_in b (flight_items s.items.flight)) (is_in b s.items.ail) old)
      ])
      (λ flies. or_right (is_in b s.owners) (is_listed s.items b) (in_flight (is_in b s.items.cil) (is_in b (flight_items s.items.flight)) (is_in b s.items.ail) flies))
      (λ active. or_right (is_in b s.owners) (is_listed s.items b) (in_active (is_in b s.items.cil) (is_in b (flight_items s.items.flight)) (is_in b s.items.ail) active)) listed)
      (λ bad. absurd (false≢true bad)) (or_left (is_in b ended_state.owners || is_listed ended_state.items b) false busy)

  -- the commit of a leg keeps a mount matched with its disks
  pub matches_ended : MatchesDisks d ended_state
  matches_ended = record {
    marked = ended_marked;
    given_up = ended_given_up;
    going = ended_going;
    idle = each_map (IsIdleLanded d s) (IsIdleLanded d ended_state) s.frames.idle (λ e rest. (less_busy (is_busy s e.0) (is_busy ended_state e.0) (busy_before e.0) rest.0, rest.1)) h.idle;
  }
