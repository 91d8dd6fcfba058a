-- A settle and the end of a leg keep a mount's own contents, owners and edits consistent.
use Rattle.std.proofs.Common.{◌≡◌, ◌≢◌, ◌∙◌, ◌⊎◌, ◌∷◌, Bool, List, None, Option, Some, [], ap, arith, false, inl, inr, refl, subst, suc, sym, true, ℕ}
use Rattle.std.proofs.lemmas.Bool.{and_from, cases_eq, false_from_ne_true, false≢true, or_left, or_right}
use Rattle.std.specs.List.{cons_option}
use Rattle.std.specs.Prelude.{IfSome, filter, filter_map, if◌then◌else◌, is_none, is_some, not, unwrap_or, ◌&&◌, ◌||◌}
use Rattle.xt_base.proofs.KeyLemmas.{at_filter_kept, has_filter}
use Rattle.xt_base.proofs.LegLemmas.{keeps_owner_after, own_itself, own_one, own_trans, owned_there}
use Rattle.xt_base.proofs.MapLemmas.{at_first, at_later, some_none, some_same}
use Rattle.xt_base.proofs.RisingLemmas.{each_at, each_filter, each_in, each_map, none_below, rises_filter, rises_filter_map}
use Rattle.xt_base.specs.Legs.{change_of, ended, is_stale, own_count, owned_by, owner_after}
use Rattle.xt_base.specs.Maps.{at, has, is_in}
use Rattle.xt_base.specs.Settle.{Dropped, leaving, rested, settled}
use Rattle.xt_base.specs.Sound.{Each, IsFair, IsRising, IsSound, Owns, RisesFrom}
use Rattle.xt_base.specs.Space.{is_busy, is_listed}
use Rattle.xt_base.specs.State.{Change, State, Transaction}
use Rattle.xt_base.specs.declared.steps.Owner.{Owner}
use Rattle.xt_base.specs.declared.steps.Owner.TheVariants.{Held, Stale, Trans}
use Rattle.xt_recovery.proofs.DistinctLemmas.{apart_rested, apart_rising}
use Rattle.xt_recovery.proofs.MatchJobs.{busy_more}
use Rattle.xt_recovery.proofs.MatchLegs.{at_edits_other, at_edits_same, cases_option, past_entry}
use Rattle.xt_recovery.proofs.MatchLemmas.{each_entry, matches_settled, stayed}
use Rattle.xt_recovery.proofs.Consistent.{AreDistinct, AreMarkedEdits, IsConsistent, IsMarkedEdit, is_known}
use Rattle.xt_recovery.proofs.Matching.{IsIdleLanded, MatchesDisks}
use Rattle.xt_recovery.specs.Disks.{Disks}

-- a busy block is not idle
pub busy_not_idle : (b : ℕ) (d : Disks) (s : State) → MatchesDisks d s → is_busy s b ≡ true → is_in b s.frames.idle ≡ false
busy_not_idle b d s f busy =
    false_from_ne_true (is_in b s.frames.idle)
    (λ there. false≢true (sym (each_in (λ q. is_busy s q ≡ false) b s.frames.idle there (each_map (IsIdleLanded d s) (λ e. is_busy s e.0 ≡ false) s.frames.idle (λ e rest. rest.0) f.idle)) ∙ busy))

-- one that somebody has is busy
pub owned_busy : (b : ℕ) (o : Owner) (s : State) → at b s.owners ≡ Some o → is_busy s b ≡ true
owned_busy b o s is = or_left (is_in b s.owners) (is_listed s.items b) (ap is_some is)

-- ---- a settle
module _ (dropped : Dropped) (d : Disks) (s : State) (sound : IsSound (settled dropped s)) (rises : IsRising s.frames.committed) (f : MatchesDisks d s) (h : IsConsistent s) where
  keeps_known : (q : ℕ) → is_busy s q ≡ true → is_known s.frames q ≡ true → is_known (settled dropped s).frames q ≡ true
  keeps_known q busy =
      busy_more (has s.frames.fresh q) (has (filter (is_busy s) s.frames.fresh) q) (is_in q s.frames.committed) (is_in q (filter (λ e. is_busy s e.0) s.frames.committed))
      (λ k. has_filter q (is_busy s) s.frames.fresh busy ∙ k) (λ k. ap is_some (at_filter_kept q (λ e. is_busy s e.0) s.frames.committed (λ v. busy)) ∙ k)

  -- a block that a leg changed is busy
  changed_busy : (t q : ℕ) (trans : Transaction) (c : Change) → at t s.transactions ≡ Some trans → at q trans.leg.changes ≡ Some c → is_busy s q ≡ true
  changed_busy t q trans c is there =
      let fair : IsFair s.form.ends s.owners (t, trans) = each_at (IsFair s.form.ends s.owners) t trans s.transactions is sound.parts.fair in
      or_left (is_in q s.owners) (is_listed s.items q) (owned_there t q s.owners (each_in (λ x. Owns s.owners t x) q trans.leg.changes (ap is_some there) fair.owned))

  left_there : Each (λ e. at e.0 s.frames.committed ≡ Some e.1) (leaving dropped s)
  left_there = each_filter (λ e. at e.0 s.frames.committed ≡ Some e.1) (λ e. not (is_busy s e.0) && not (has dropped e.0)) s.frames.committed (each_entry 0 s.frames.committed rises)

  once_if : (live : Bool) → AreDistinct (if live then rested (leaving dropped s) s.frames.idle else s.frames.idle)
  once_if true =
      apart_rested (leaving dropped s) s.frames.idle (apart_rising 0 (leaving dropped s) (rises_filter 0 (λ e. not (is_busy s e.0) && not (has dropped e.0)) s.frames.committed rises)) h.idle_once
      (each_map (λ e. at e.0 s.frames.committed ≡ Some e.1) (λ e. is_in e.0 s.frames.idle ≡ false) (leaving dropped s) (λ e is. h.idle_apart e.0 (ap is_some is)) left_there)
  once_if false = h.idle_once

  -- a settle keeps a mount true
  pub consistent_settled : IsConsistent (settled dropped s)
  consistent_settled = record {
    idle_once = once_if (is_none s.shut);
    idle_apart = λ q there. busy_not_idle q d (settled dropped s) (matches_settled dropped d s rises f) (stayed dropped d s rises f q there).0;
    held = λ q is. keeps_known q (owned_busy q Held s is) (h.held q is);
    owned = λ q t count trans is open_is.
        busy_more (is_known s.frames q) (is_known (settled dropped s).frames q) (is_in q trans.leg.changes) (is_in q trans.leg.changes) (keeps_known q (owned_busy q (Trans t count) s is)) (λ c. c)
        (h.owned q t count trans is open_is);
    edits = λ t trans is q c there.
        subst (λ o. IsMarkedEdit s.form.size o c) (sym (at_filter_kept q (λ e. is_busy s e.0) s.frames.committed (λ v. changed_busy t q trans c is there))) (h.edits t trans is q c there);
  }

-- ---- the end of a leg
-- what a map of entries leaves at a key, it made of what stood there
pub at_mapped_back : {V : Type 0} (n k : ℕ) (w : V) (f : ℕ × V → Option (ℕ × V)) (es : List (ℕ × V)) → RisesFrom n es → ((e : ℕ × V) → IfSome (f e) (λ x. x.0 ≡ e.0)) → at k (filter_map f es) ≡ Some w
    → (v : V) × (at k es ≡ Some v) × (f (k, v) ≡ Some (k, w))
at_mapped_back n k w f [] r keeps h = some_none w ((v : _) × (at k [] ≡ Some v) × (f (k, v) ≡ Some (k, w))) (sym h)
at_mapped_back n k w f (e ∷ es) r keeps h =
    elim (cases_eq k e.0) [
      | inl same ↦
          elim (cases_option (f e)) [
            | inl none ↦
                let later : at k (filter_map f es) ≡ None = none_below k (suc e.0) (filter_map f es) (omega (arith, same)) (rises_filter_map (suc e.0) f es keeps r.1) in
                some_none w ((v : _) × (at k (e ∷ es) ≡ Some v) × (f (k, v) ≡ Some (k, w))) (sym h ∙ ap (λ o. at k (cons_option o (filter_map f es))) none ∙ later)
            | inr made ↦
                let key : made.0.0 ≡ e.0 = subst (λ o. IfSome o (λ x. x.0 ≡ e.0)) made.1 (keeps e) in
                let value : made.0.1 ≡ w = some_same made.0.1 w (sym (at_first k made.0 (filter_map f es) (same ∙ sym key)) ∙ sym (ap (λ o. at k (cons_option o (filter_map f es))) made.1) ∙ h) in
                (e.1, at_first k e es same, ap (λ (x : ℕ). f (x, e.1)) same ∙ made.1 ∙ ap (λ (x : ℕ). Some (x, made.0.1)) (key ∙ sym same) ∙ ap (λ v. Some (k, v)) value)
          ]
      | inr other ↦
          let rest = at_mapped_back (suc e.0) k w f es r.1 keeps (sym (past_entry k e.0 (f e) (filter_map f es) other (keeps e)) ∙ h) in
          (rest.0, at_later k e es other ∙ rest.1, rest.2)
    ]

abbrev entry : ℕ → Owner → ℕ × Owner
entry k o = (k, o)

second_same : (k : ℕ) (x y : Owner) → Some (entry k x) ≡ Some (entry k y) → x ≡ y
second_same k x y h = ap (λ (e : ℕ × Owner). e.1) (some_same (entry k x) (entry k y) h)

no_owner : (k : ℕ) (y : Owner) (P : Type 0) → None ≡ Some (entry k y) → P
no_owner k y P h = some_none (entry k y) P (sym h)

-- what the end of a leg leaves of an owner: it was another's; or the block was the transaction's, and waits or is held
after_cases : (mine stale holds : Bool) (q number : ℕ) (v o : Owner) → (if not mine then Some (entry q v) else (if stale then Some (entry q (Stale number)) else (if holds then Some (entry q Held) else None))) ≡ Some (entry q o)
    → ((mine ≡ false) × (v ≡ o)) ⊎ ((o ≡ Stale number) ⊎ ((o ≡ Held) × (mine ≡ true) × (stale ≡ false)))
after_cases false stale holds q number v o h = inl (refl, second_same q v o h)
after_cases true true holds q number v o h = inr (inl (sym (second_same q (Stale number) o h)))
after_cases true false true q number v o h = inr (inr (sym (second_same q Held o h), refl, refl))
after_cases true false false q number v o h = no_owner q o (((true ≡ false) × (v ≡ o)) ⊎ ((o ≡ Stale number) ⊎ ((o ≡ Held) × (true ≡ true) × (false ≡ false)))) h

or_none : (x y : Bool) → y ≡ false → (x || y) ≡ x
or_none true y h = refl
or_none false y h = h

stays_held : (u count : ℕ) → Trans u count ≡ Held → ⊥
stays_held u count h = absurd (cc)

module _ (t : ℕ) (trans : Transaction) (d : Disks) (s : State) (sound : IsSound s) (is : at t s.transactions ≡ Some trans) (f : MatchesDisks d s) (h : IsConsistent s) (ts : List (ℕ × Transaction))
    (rest : (u : ℕ) (x : Transaction) → at u ts ≡ Some x → ((u ≡ t) × (x.leg.changes ≡ [])) ⊎ ((u ≢ t) × (at u s.transactions ≡ Some x))) where
  -- the mount after it, before it settles
  abbrev pub after_state : State
  after_state = record (ended t trans.leg s) { transactions = ts }

  fair_of : (u : ℕ) (x : Transaction) → at u s.transactions ≡ Some x → IsFair s.form.ends s.owners (u, x)
  fair_of u x isx = each_at (IsFair s.form.ends s.owners) u x s.transactions isx sound.parts.fair

  owns_changed : (u q : ℕ) (x : Transaction) (c : Change) → at u s.transactions ≡ Some x → at q x.leg.changes ≡ Some c → Owns s.owners u q
  owns_changed u q x c isx there = each_in (λ b. Owns s.owners u b) q x.leg.changes (ap is_some there) (fair_of u x isx).owned

  -- a block that is another's was not changed
  not_changed : (q : ℕ) → is_some (own_count t (at q s.owners)) ≡ false → at q trans.leg.changes ≡ None
  not_changed q other =
      elim (cases_option (at q trans.leg.changes)) [
        | inl none ↦ none
        | inr c ↦ absurd (false≢true (sym other ∙ owns_changed t q trans c.0 is c.1))
      ]

  content_then : (q : ℕ) → at q trans.leg.changes ≡ None → at q after_state.frames.committed ≡ at q s.frames.committed
  content_then q none = at_edits_other q trans.leg.changes s.frames.committed none

  edit_then : (q : ℕ) (c : Change) → at q trans.leg.changes ≡ Some c → at q after_state.frames.committed ≡ c.edit
  edit_then q c there = at_edits_same 0 q c trans.leg.changes s.frames.committed (fair_of t trans is).rising sound.kept.committed_rises there

  known_then : (q : ℕ) → at q trans.leg.changes ≡ None → is_known after_state.frames q ≡ is_known s.frames q
  known_then q none = ap (λ o. has s.frames.fresh q || is_some o) (content_then q none)

  -- an owner after it
  owner_back : (q : ℕ) (o : Owner) → at q after_state.owners ≡ Some o
      → ((at q s.owners ≡ Some o) × (owned_by t o ≡ false)) ⊎ ((o ≡ Stale s.items.open_number) ⊎ ((o ≡ Held) × Owns s.owners t q × (is_stale q trans.leg ≡ false)))
  owner_back q o there =
      let old = at_mapped_back 0 q o (owner_after t trans.leg s.items.open_number) s.owners sound.parts.owners_rise (keeps_owner_after t trans.leg s.items.open_number) there in
      elim (after_cases (owned_by t old.0) (is_stale q trans.leg) (has trans.leg.holds q) q s.items.open_number old.0 o old.2) [
        | inl other ↦ inl (old.1 ∙ ap Some other.1, sym (ap (owned_by t) other.1) ∙ other.0)
        | inr (inl waits) ↦ inr (inl waits)
        | inr (inr stays) ↦ inr (inr (stays.0, ap (λ x. is_some (own_count t x)) old.1 ∙ stays.1, stays.2))
      ]

  -- a held block of the transaction that it did not give up has a content
  held_known : (q : ℕ) → Owns s.owners t q → is_stale q trans.leg ≡ false → is_known after_state.frames q ≡ true
  held_known q owns fresh_or =
      let own = own_trans t (at q s.owners) owns in
      elim (cases_option (at q trans.leg.changes)) [
        | inl none ↦
            let old = h.owned q t own.0 trans own.1 is in
            known_then q none ∙ sym (or_none (is_known s.frames q) (is_in q trans.leg.changes) (ap is_some none)) ∙ old
        | inr c ↦
            elim (cases_option c.0.edit) [
              | inl stale ↦
                  absurd (false≢true (sym fresh_or ∙ and_from (is_in q trans.leg.changes) (is_none (change_of q trans.leg).edit) (ap is_some c.1)
                  (ap (λ o. is_none (unwrap_or {T = Change} o (record { edit = None; marks = []; charged = [] })).edit) c.1 ∙ ap is_none stale)))
              | inr edit ↦ or_right (has s.frames.fresh q) (is_in q after_state.frames.committed) (ap is_some (edit_then q c.0 c.1 ∙ edit.1))
            ]
      ]

  ended_held : (q : ℕ) → at q after_state.owners ≡ Some Held → is_known after_state.frames q ≡ true
  ended_held q there =
      elim (owner_back q Held there) [
        | inl was ↦ known_then q (not_changed q (ap (λ x. is_some (own_count t x)) was.0 ∙ was.1)) ∙ h.held q was.0
        | inr (inl waits) ↦ absurd (cc)
        | inr (inr stays) ↦ held_known q stays.1 stays.2
      ]

  ended_owned : (q u count : ℕ) (x : Transaction) → at q after_state.owners ≡ Some (Trans u count) → at u ts ≡ Some x → (is_known after_state.frames q || is_in q x.leg.changes) ≡ true
  ended_owned q u count x there isx =
      elim (owner_back q (Trans u count) there) [
        | inl was ↦
            elim (rest u x isx) [
              | inl own ↦ absurd (false≢true (sym was.1 ∙ ap (λ (n : ℕ). is_some (own_count t (Some (Trans n count)))) own.0 ∙ ap is_some (own_itself t count)))
              | inr else_ ↦
                  ap (λ k. k || is_in q x.leg.changes) (known_then q (not_changed q (ap (λ o. is_some (own_count t o)) was.0 ∙ was.1))) ∙ h.owned q u count x was.0 else_.1
            ]
        | inr (inl waits) ↦ absurd (cc)
        | inr (inr stays) ↦ absurd (stays_held u count stays.0)
      ]

  ended_edits : (u : ℕ) (x : Transaction) → at u ts ≡ Some x → AreMarkedEdits s.form.size after_state.frames.committed x.leg.changes
  ended_edits u x isx q c there =
      elim (rest u x isx) [
        | inl own ↦ some_none c (IsMarkedEdit s.form.size (at q after_state.frames.committed) c) (sym there ∙ ap (at q) own.1)
        | inr else_ ↦
            let none : at q trans.leg.changes ≡ None =
            elim (cases_option (at q trans.leg.changes)) [
              | inl none ↦ none
              | inr mine ↦ absurd (else_.0 (own_one u t (at q s.owners) (owns_changed u q x c else_.1 there) (owns_changed t q trans mine.0 is mine.1)))
            ] in
            subst (λ o. IsMarkedEdit s.form.size o c) (sym (content_then q none)) (h.edits u x else_.1 q c there)
      ]

  -- the end of a leg keeps a mount true
  pub consistent_ended : IsConsistent after_state
  consistent_ended = record {
    idle_once = h.idle_once;
    idle_apart = λ q there.
        elim (cases_option (at q trans.leg.changes)) [
          | inl none ↦ h.idle_apart q (sym (ap is_some (content_then q none)) ∙ there)
          | inr c ↦ busy_not_idle q d s f (or_left (is_in q s.owners) (is_listed s.items q) (owned_there t q s.owners (owns_changed t q trans c.0 is c.1)))
        ];
    held = ended_held;
    owned = ended_owned;
    edits = ended_edits;
  }
