-- What the end of a leg, and one more edit, do to owners, contents and item lists.
use Rattle.std.proofs.Common.{◌≡◌, ◌≢◌, ◌∙◌, ◌⊎◌, ◌≤◌, ◌∷◌, Bool, List, None, Option, Some, [], ap, arith, false, inl, inr, length, refl, sym, true, ℕ}
use Rattle.std.proofs.lemmas.Bool.{false≢true, cases_eq, eq-eqb, ne_eqb}
use Rattle.std.specs.Prelude.{IfSome, filter_map, if◌then◌else◌, is_some, not, unwrap_or}
use Rattle.xt_base.proofs.ChunkCounts.{has-union_within}
use Rattle.xt_base.proofs.CostLemmas.{charge_logged}
use Rattle.xt_base.proofs.KeyLemmas.{at_filter_map, is_in_first, is_in_later, is_in_put_cases, rises_keys_with}
use Rattle.xt_base.proofs.MapLemmas.{length_put_ge, some_same}
use Rattle.xt_base.proofs.RisingLemmas.{each_at, rises_put, rises_without}
use Rattle.xt_base.specs.Calls.{edited}
use Rattle.xt_base.specs.Chunks.{union}
use Rattle.xt_base.specs.Legs.{change_of, is_stale, joined_marks, own_count, owned_by, owner_aborted, owner_after, with_edit, with_edits, with_lost, with_marks}
use Rattle.xt_base.specs.Maps.{at, has, is_in, put, with_member}
use Rattle.xt_base.specs.Sound.{Each, IsCovered, IsRising, Owns, RisesFromKeys}
use Rattle.xt_base.specs.Space.{charge}
use Rattle.xt_base.specs.State.{Change, Leg}
use Rattle.xt_base.specs.declared.steps.Owner.{Owner}
use Rattle.xt_base.specs.declared.steps.Owner.TheVariants.{Held, Stale, Trans}

-- ---- contents and item lists
rises_with_edit : (b : ℕ) (edit : Option (List ℕ)) (m : List (ℕ × List ℕ)) → IsRising m → IsRising (with_edit b edit m)
rises_with_edit b None m r = rises_without 0 b m r
rises_with_edit b (Some content) m r = rises_put 0 b content m (omega arith) r

-- contents rise after the edits of a leg
pub rises_with_edits : (cs : List (ℕ × Change)) (m : List (ℕ × List ℕ)) → IsRising m → IsRising (with_edits cs m)
rises_with_edits [] m r = r
rises_with_edits (e ∷ cs) m r = rises_with_edits cs (with_edit e.0 e.1.edit m) (rises_with_edit e.0 e.1.edit m r)

-- items rise after the marks of a leg
pub rises_with_marks : (cs : List (ℕ × Change)) (m : List (ℕ × List ℕ)) → IsRising m → IsRising (with_marks cs m)
rises_with_marks [] m r = r
rises_with_marks (e ∷ cs) m r = rises_with_marks cs (put e.0 (joined_marks (at e.0 m) e.1) m) (rises_put 0 e.0 (joined_marks (at e.0 m) e.1) m (omega arith) r)

-- a commit takes no item away
pub length_with_marks_ge : (cs : List (ℕ × Change)) (m : List (ℕ × List ℕ)) → length m ≤ length (with_marks cs m)
length_with_marks_ge [] m = omega arith
length_with_marks_ge (e ∷ cs) m =
    let j : List ℕ = joined_marks (at e.0 m) e.1 in
    omega (arith, length_put_ge e.0 j m, length_with_marks_ge cs (put e.0 j m))

-- each item was there or is of a changed block
pub is_in_with_marks : (q : ℕ) (cs : List (ℕ × Change)) (m : List (ℕ × List ℕ)) → is_in q (with_marks cs m) ≡ true → (is_in q cs ≡ true) ⊎ (is_in q m ≡ true)
is_in_with_marks q [] m h = inr h
is_in_with_marks q (e ∷ cs) m h =
    let j : List ℕ = joined_marks (at e.0 m) e.1 in
    elim (is_in_with_marks q cs (put e.0 j m) h) [
      | inl changed ↦ inl (is_in_later q e cs changed)
      | inr there ↦
          elim (is_in_put_cases q e.0 j m there) [
            | inl same ↦ inl (is_in_first q e cs same)
            | inr old ↦ inr old
          ]
    ]

rises_if : (held : Bool) (b : ℕ) (fresh : List ℕ) → RisesFromKeys 0 fresh → RisesFromKeys 0 (if held then with_member b fresh else fresh)
rises_if true b fresh r = rises_keys_with 0 b fresh (omega arith) r
rises_if false b fresh r = r

-- fresh blocks rise after those that a leg lost
pub rises_with_lost : (cs : List (ℕ × Change)) (leg : Leg) (fresh : List ℕ) → RisesFromKeys 0 fresh → RisesFromKeys 0 (with_lost cs leg fresh)
rises_with_lost [] leg fresh r = r
rises_with_lost (e ∷ cs) leg fresh r = rises_with_lost cs leg (if has leg.holds e.0 then with_member e.0 fresh else fresh) (rises_if (has leg.holds e.0) e.0 fresh r)

-- ---- owners
trans_same : (t u i j : ℕ) → Trans t i ≡ Trans u j → t ≡ u
trans_same t u i j h = cc

-- a block of a transaction has that owner
pub own_trans : (t : ℕ) (o : Option Owner) → is_some (own_count t o) ≡ true → (count : ℕ) × (o ≡ Some (Trans t count))
own_trans t None h = absurd (cc)
own_trans t (Some Held) h = absurd (cc)
own_trans t (Some (Stale n)) h = absurd (cc)
own_trans t (Some (Trans u count)) h =
    elim (cases_eq u t) [
      | inl same ↦ (count, ap (λ (x : ℕ). Some (Trans x count)) same)
      | inr other ↦ absurd (false≢true (sym (ap (λ b. is_some (if b then Some count else None)) (ne_eqb u t other)) ∙ h))
    ]

-- a transaction has the blocks that have it as owner
pub own_itself : (t count : ℕ) → own_count t (Some (Trans t count)) ≡ Some count
own_itself t count = ap (λ b. if b then Some count else None) (eq-eqb t t refl)

-- no block has two transactions
pub own_one : (t u : ℕ) (o : Option Owner) → is_some (own_count t o) ≡ true → is_some (own_count u o) ≡ true → t ≡ u
own_one t u o ht hu =
    let first = own_trans t o ht in
    let second = own_trans u o hu in
    trans_same t u first.0 second.0 (some_same (Trans t first.0) (Trans u second.0) (sym first.1 ∙ second.1))

-- a block of a transaction has an owner
pub owned_there : (t b : ℕ) (owners : List (ℕ × Owner)) → Owns owners t b → is_in b owners ≡ true
owned_there t b owners h = ap is_some (own_trans t (at b owners) h).1

keeps_if : (b : Bool) (k : ℕ) (x y : Option (ℕ × Owner)) → IfSome x (λ e. e.0 ≡ k) → IfSome y (λ e. e.0 ≡ k) → IfSome (if b then x else y) (λ e. e.0 ≡ k)
keeps_if true k x y hx hy = hx
keeps_if false k x y hx hy = hy

-- a block keeps its number as its leg is committed
pub keeps_owner_after : (t : ℕ) (leg : Leg) (number : ℕ) (e : ℕ × Owner) → IfSome (owner_after t leg number e) (λ x. x.0 ≡ e.0)
keeps_owner_after t leg number e =
    keeps_if (not (owned_by t e.1)) e.0 (Some e) (if is_stale e.0 leg then Some (e.0, Stale number) else (if has leg.holds e.0 then Some (e.0, Held) else None)) refl
    (keeps_if (is_stale e.0 leg) e.0 (Some (e.0, Stale number)) (if has leg.holds e.0 then Some (e.0, Held) else None) refl
    (keeps_if (has leg.holds e.0) e.0 (Some (e.0, Held)) None refl tt))

-- a block keeps its number as its leg is given up
pub keeps_owner_aborted : (t : ℕ) (leg : Leg) (e : ℕ × Owner) → IfSome (owner_aborted t leg e) (λ x. x.0 ≡ e.0)
keeps_owner_aborted t leg e =
    keeps_if (not (owned_by t e.1)) e.0 (Some e) (if has leg.holds e.0 then Some (e.0, Held) else None) refl (keeps_if (has leg.holds e.0) e.0 (Some (e.0, Held)) None refl tt)

-- another transaction does not own what this one has
pub other_trans : (t u count : ℕ) → u ≢ t → owned_by t (Trans u count) ≡ false
other_trans t u count other = ap (λ b. is_some (if b then Some count else None)) (ne_eqb u t other)

-- another transaction's blocks stay its own
owns_filter_map : (u b : ℕ) (f : ℕ × Owner → Option (ℕ × Owner)) (owners : List (ℕ × Owner)) → ((e : ℕ × Owner) → IfSome (f e) (λ x. x.0 ≡ e.0))
    → ((count : ℕ) → f (b, Trans u count) ≡ Some (b, Trans u count)) → Owns owners u b → Owns (filter_map f owners) u b
owns_filter_map u b f owners keeps stays h =
    let own = own_trans u (at b owners) h in
    ap (λ o. is_some (own_count u o)) (at_filter_map b (Trans u own.0) f owners keeps own.1 (stays own.0)) ∙ ap is_some (own_itself u own.0)

-- another transaction's blocks stay its own as a leg is committed
pub owns_after : (t u b : ℕ) (leg : Leg) (number : ℕ) (owners : List (ℕ × Owner)) → u ≢ t → Owns owners u b → Owns (filter_map (owner_after t leg number) owners) u b
owns_after t u b leg number owners other h =
    owns_filter_map u b (owner_after t leg number) owners (keeps_owner_after t leg number)
    (λ count. ap (λ x. if not x then Some (b, Trans u count) else (if is_stale b leg then Some (b, Stale number) else (if has leg.holds b then Some (b, Held) else None))) (other_trans t u count other)) h

-- another transaction's blocks stay its own as a leg is given up
pub owns_aborted : (t u b : ℕ) (leg : Leg) (owners : List (ℕ × Owner)) → u ≢ t → Owns owners u b → Owns (filter_map (owner_aborted t leg) owners) u b
owns_aborted t u b leg owners other h =
    owns_filter_map u b (owner_aborted t leg) owners (keeps_owner_aborted t leg)
    (λ count. ap (λ x. if not x then Some (b, Trans u count) else (if has leg.holds b then Some (b, Held) else None)) (other_trans t u count other)) h

-- ---- one more edit
covered_change : (b : ℕ) (leg : Leg) (o : Option Change) → at b leg.changes ≡ o → Each IsCovered leg.changes
    → (k : ℕ) → has (unwrap_or o (record { edit = None; marks = []; charged = [] })).marks k ≡ true → has (unwrap_or o (record { edit = None; marks = []; charged = [] })).charged k ≡ true
covered_change b leg None is all k h = h
covered_change b leg (Some c) is all k h = each_at IsCovered b c leg.changes is all k h

-- what an edit marks was charged
pub covered_edit : (b : ℕ) (content marked : List ℕ) (leg : Leg) → Each IsCovered leg.changes
    → IsCovered (b, record { edit = Some content; marks = union (change_of b leg).marks marked; charged = union (change_of b leg).charged marked })
covered_edit b content marked leg all = has-union_within (change_of b leg).marks (change_of b leg).charged marked (covered_change b leg (at b leg.changes) refl all)

-- an edit is charged alike whatever it writes
pub charge_alike : (ends b : ℕ) (content other marked : List ℕ) (leg : Leg) → IsRising leg.changes → charge ends (edited b content marked leg).changes ≡ charge ends (edited b other marked leg).changes
charge_alike ends b content other marked leg r = omega (arith, charge_logged ends b content marked leg r, charge_logged ends b other marked leg r)
