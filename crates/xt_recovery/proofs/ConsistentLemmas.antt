-- What keeps a mount's own contents, owners and edits consistent: another owner, a content that comes in, a change of a leg, a settle.
use Rattle.std.proofs.Common.{◌≡◌, ◌≢◌, ◌∙◌, ◌⊎◌, ◌∷◌, List, None, Some, [], ap, arith, false, inl, inr, refl, subst, sym, true, ℕ}
use Rattle.std.proofs.lemmas.Bool.{cases_eq, eq-eqb, false_from_ne_true, false≢true, ne_eqb, or_left, or_right}
use Rattle.std.proofs.lemmas.Bool.Decides.{nat_tests}
use Rattle.std.specs.Prelude.{is_some, not, ◌==◌, ◌||◌}
use Rattle.xt_base.proofs.KeyLemmas.{has_filter, has_with_member, is_in_put_old}
use Rattle.xt_base.proofs.LegLemmas.{own_itself, own_one, owned_there}
use Rattle.xt_base.proofs.MapLemmas.{at_put_other, at_put_same, at_set_other, at_set_same, some_same}
use Rattle.xt_base.proofs.RisingLemmas.{each_at, each_in}
use Rattle.xt_base.specs.Calls.{busied, is_own, made_fresh, not_fresh, unowned, with_leg, with_owner}
use Rattle.xt_base.specs.Legs.{own_count}
use Rattle.xt_base.specs.Maps.{at, has, is_in, put, set_at, with_member, without}
use Rattle.xt_base.specs.Sound.{IsFair, IsRising, IsSound, Owns}
use Rattle.xt_base.specs.State.{Change, Leg, State, Transaction}
use Rattle.xt_base.specs.declared.steps.Owner.{Owner}
use Rattle.xt_base.specs.declared.steps.Owner.TheVariants.{Held, Trans}
use Rattle.xt_recovery.proofs.DistinctLemmas.{apart_less, apart_without, not_left}
use Rattle.xt_recovery.proofs.MatchJobs.{busy_more}
use Rattle.xt_recovery.proofs.RecoverLemmas.{at_without_back}
use Rattle.xt_recovery.proofs.Consistent.{AreMarkedEdits, IsConsistent, IsMarkedEdit, is_known}

-- ---- owners
-- what a map has at its new key
pub put_value : {V : Type 0} (b q : ℕ) (u v : V) (es : List (ℕ × V)) → q ≡ b → at q (put b u es) ≡ Some v → u ≡ v
put_value b q u v es same is = some_same u v (sym (at_put_same b u es) ∙ sym (ap (λ x. at x (put b u es)) same) ∙ is)

-- another owner of a block, which has a content where it needs one
pub consistent_owner : (b : ℕ) (o : Owner) (s : State) → (o ≡ Held → is_known s.frames b ≡ true)
    → ((t count : ℕ) (trans : Transaction) → o ≡ Trans t count → at t s.transactions ≡ Some trans → (is_known s.frames b || is_in b trans.leg.changes) ≡ true) → IsConsistent s → IsConsistent (with_owner b o s)
consistent_owner b o s held owned h = record {
  idle_once = h.idle_once;
  idle_apart = h.idle_apart;
  held = λ q is.
      elim (cases_eq q b) [
        | inl same ↦ subst (λ (x : ℕ). is_known s.frames x ≡ true) (sym same) (held (put_value b q o Held s.owners same is))
        | inr other ↦ h.held q (sym (at_put_other b q o s.owners other) ∙ is)
      ];
  owned = λ q t count trans is open_is.
      elim (cases_eq q b) [
        | inl same ↦ subst (λ (x : ℕ). (is_known s.frames x || is_in x trans.leg.changes) ≡ true) (sym same) (owned t count trans (put_value b q o (Trans t count) s.owners same is) open_is)
        | inr other ↦ h.owned q t count trans (sym (at_put_other b q o s.owners other) ∙ is) open_is
      ];
  edits = h.edits;
}

-- a known block for a transaction
pub consistent_lock : (b t count : ℕ) (s : State) → is_known s.frames b ≡ true → IsConsistent s → IsConsistent (with_owner b (Trans t count) s)
consistent_lock b t count s known h = consistent_owner b (Trans t count) s (λ bad. known) (λ u c trans is open_is. or_left (is_known s.frames b) (is_in b trans.leg.changes) known) h

trans_number : (t u c d : ℕ) → Trans t c ≡ Trans u d → t ≡ u
trans_number t u c d h = cc

-- another count of the same owner
pub consistent_count : (b t old count : ℕ) (s : State) → at b s.owners ≡ Some (Trans t old) → IsConsistent s → IsConsistent (with_owner b (Trans t count) s)
consistent_count b t old count s was h =
    consistent_owner b (Trans t count) s (λ bad. absurd (cc)) (λ u c trans is open_is. h.owned b u old trans (was ∙ ap (λ (x : ℕ). Some (Trans x old)) (trans_number t u count c is)) open_is) h

-- no owner
pub consistent_unowned : (b : ℕ) (s : State) → IsRising s.owners → IsConsistent s → IsConsistent (unowned b s)
consistent_unowned b s rises h = record {
  idle_once = h.idle_once;
  idle_apart = h.idle_apart;
  held = λ q is. h.held q (at_without_back 0 q b Held s.owners rises is);
  owned = λ q t count trans is open_is. h.owned q t count trans (at_without_back 0 q b (Trans t count) s.owners rises is) open_is;
  edits = h.edits;
}

-- fewer owners
pub consistent_fewer : (owners : List (ℕ × Owner)) (s : State) → ((b : ℕ) (o : Owner) → at b owners ≡ Some o → at b s.owners ≡ Some o) → IsConsistent s → IsConsistent (record s { owners = owners })
consistent_fewer owners s back h = record {
  idle_once = h.idle_once;
  idle_apart = h.idle_apart;
  held = λ q is. h.held q (back q Held is);
  owned = λ q t count trans is open_is. h.owned q t count trans (back q (Trans t count) is) open_is;
  edits = h.edits;
}

-- ---- contents that come in
-- a block that nobody has is changed by no leg
pub unchanged : (b t : ℕ) (s : State) (trans : Transaction) → IsSound s → is_in b s.owners ≡ false → at t s.transactions ≡ Some trans → is_in b trans.leg.changes ≡ false
unchanged b t s trans sound free is =
    let fair : IsFair s.form.ends s.owners (t, trans) = each_at (IsFair s.form.ends s.owners) t trans s.transactions is sound.parts.fair in
    false_from_ne_true (is_in b trans.leg.changes) (λ there. false≢true (sym free ∙ owned_there t b s.owners (each_in (λ q. Owns s.owners t q) b trans.leg.changes there fair.owned)))

-- what is not changed is another block than one that is
changed_apart : (b q : ℕ) (c : Change) (cs : List (ℕ × Change)) → is_in b cs ≡ false → at q cs ≡ Some c → q ≢ b
changed_apart b q c cs absent is same = false≢true (sym absent ∙ ap is_some (sym (ap (λ (x : ℕ). at x cs) same) ∙ is))

-- a content of a block that nobody has
pub consistent_busied : (b : ℕ) (content : List ℕ) (s : State) → IsSound s → is_in b s.owners ≡ false → IsConsistent s → IsConsistent (busied b content s)
consistent_busied b content s sound free h =
    let more : (q : ℕ) → is_known s.frames q ≡ true → is_known (busied b content s).frames q ≡ true =
    λ q. busy_more (has s.frames.fresh q) (has s.frames.fresh q) (is_in q s.frames.committed) (is_in q (put b content s.frames.committed)) (λ f. f) (is_in_put_old q b content s.frames.committed) in
    record {
      idle_once = apart_less b s.frames.idle h.idle_once;
      idle_apart = λ q there.
          elim (cases_eq q b) [
            | inl same ↦ ap (λ (x : ℕ). is_in x (without b s.frames.idle)) same ∙ apart_without b s.frames.idle h.idle_once
            | inr other ↦ not_left q b s.frames.idle (h.idle_apart q (sym (ap is_some (at_put_other b q content s.frames.committed other)) ∙ there))
          ];
      held = λ q is. more q (h.held q is);
      owned = λ q t count trans is open_is.
          busy_more (is_known s.frames q) (is_known (busied b content s).frames q) (is_in q trans.leg.changes) (is_in q trans.leg.changes) (more q) (λ c. c) (h.owned q t count trans is open_is);
      edits = λ t trans is q c there.
          let other = changed_apart b q c trans.leg.changes (unchanged b t s trans sound free is) there in
          subst (λ o. IsMarkedEdit s.form.size o c) (sym (at_put_other b q content s.frames.committed other)) (h.edits t trans is q c there);
    }

-- a set with one more number has it
pub member_there : (n : ℕ) (ks : List ℕ) → has (with_member n ks) n ≡ true
member_there n [] = or_left (n == n) false (eq-eqb n n refl)
member_there n (k ∷ ks) = grind (arith, nat_tests, member_there n ks)

more_fresh : (b q : ℕ) (fresh : List ℕ) → has fresh q ≡ true → has (with_member b fresh) q ≡ true
more_fresh b q fresh h =
    elim (cases_eq q b) [
      | inl same ↦ ap (has (with_member b fresh)) same ∙ member_there b fresh
      | inr other ↦ has_with_member q b fresh other ∙ h
    ]

-- a fresh block
pub consistent_fresh : (b : ℕ) (s : State) → IsConsistent s → IsConsistent (made_fresh b s)
consistent_fresh b s h =
    let more : (q : ℕ) → is_known s.frames q ≡ true → is_known (made_fresh b s).frames q ≡ true =
    λ q. busy_more (has s.frames.fresh q) (has (with_member b s.frames.fresh) q) (is_in q s.frames.committed) (is_in q s.frames.committed) (more_fresh b q s.frames.fresh) (λ c. c) in
    record {
      idle_once = h.idle_once;
      idle_apart = h.idle_apart;
      held = λ q is. more q (h.held q is);
      owned = λ q t count trans is open_is.
          busy_more (is_known s.frames q) (is_known (made_fresh b s).frames q) (is_in q trans.leg.changes) (is_in q trans.leg.changes) (more q) (λ c. c) (h.owned q t count trans is open_is);
      edits = h.edits;
    }

-- ---- legs
-- another leg with the same changes
pub consistent_leg : (t : ℕ) (trans : Transaction) (leg : Leg) (s : State) → at t s.transactions ≡ Some trans → leg.changes ≡ trans.leg.changes → IsConsistent s → IsConsistent (with_leg t trans leg s)
consistent_leg t trans leg s is same h =
    let now : Transaction = record trans { leg = leg } in
    let place : at t (set_at t now s.transactions) ≡ Some now = at_set_same t trans now s.transactions is in
    let changes : (u : ℕ) (x : Transaction) → at u (set_at t now s.transactions) ≡ Some x → (y : Transaction) × (at u s.transactions ≡ Some y) × (y.leg.changes ≡ x.leg.changes) =
    λ u x there.
    elim (cases_eq u t) [
      | inl first ↦ (
        trans,
        ap (λ (n : ℕ). at n s.transactions) first ∙ is,
        sym same ∙ ap (λ (y : Transaction). y.leg.changes) (some_same now x (sym place ∙ sym (ap (λ (n : ℕ). at n (set_at t now s.transactions)) first) ∙ there)),
      )
      | inr other ↦ (x, sym (at_set_other t u now s.transactions other) ∙ there, refl)
    ] in
    record {
      idle_once = h.idle_once;
      idle_apart = h.idle_apart;
      held = h.held;
      owned = λ q u count x isq there.
          let old = changes u x there in
          subst (λ (cs : List (ℕ × Change)). (is_known s.frames q || is_in q cs) ≡ true) old.2 (h.owned q u count old.0 isq old.1);
      edits = λ u x there.
          let old = changes u x there in
          subst (AreMarkedEdits s.form.size s.frames.committed) old.2 (h.edits u old.0 old.1);
    }

-- one more change of a block that the transaction has, which is fresh no more
module _ (t b : ℕ) (trans : Transaction) (c : Change) (leg : Leg) (s : State) (is : at t s.transactions ≡ Some trans) (mine : is_own s t b ≡ true) (puts : leg.changes ≡ put b c trans.leg.changes)
    (tells : IsMarkedEdit s.form.size (at b s.frames.committed) c) (h : IsConsistent s) where
  abbrev pub changed_state : State
  changed_state = not_fresh b (with_leg t trans leg s)

  now_trans : Transaction
  now_trans = record trans { leg = leg }

  -- an owner of another kind has another block
  other_owner : (q : ℕ) (o : Owner) → at q s.owners ≡ Some o → own_count t (Some o) ≡ None → q ≢ b
  other_owner q o isq none same = false≢true (sym (ap (λ x. is_some (own_count t x)) (sym (ap (λ (x : ℕ). at x s.owners) same) ∙ isq) ∙ ap is_some none) ∙ mine)

  same_known : (q : ℕ) → q ≢ b → is_known changed_state.frames q ≡ is_known s.frames q
  same_known q other = ap (λ x. x || is_in q s.frames.committed) (has_filter q (λ k. not (k == b)) s.frames.fresh (ap not (ne_eqb q b other)))

  -- its own leg, or another that stays
  leg_then : (u : ℕ) (x : Transaction) → at u changed_state.transactions ≡ Some x → ((u ≡ t) × (x.leg.changes ≡ put b c trans.leg.changes)) ⊎ ((u ≢ t) × (at u s.transactions ≡ Some x))
  leg_then u x there =
      elim (cases_eq u t) [
        | inl first ↦
            let value : record trans { leg = leg } ≡ x = some_same (record trans { leg = leg }) x (sym (at_set_same t trans (record trans { leg = leg }) s.transactions is) ∙ sym (ap (λ (n : ℕ). at n changed_state.transactions) first) ∙ there) in
            inl (first, sym (ap (λ (y : Transaction). y.leg.changes) value) ∙ puts)
        | inr other ↦ inr (other, sym (at_set_other t u (record trans { leg = leg }) s.transactions other) ∙ there)
      ]

  changed_owned : (q u count : ℕ) (x : Transaction) → at q s.owners ≡ Some (Trans u count) → at u changed_state.transactions ≡ Some x → (is_known changed_state.frames q || is_in q x.leg.changes) ≡ true
  changed_owned q u count x isq there =
      elim (cases_eq q b) [
        | inl same ↦
            let owns : is_some (own_count u (at b s.owners)) ≡ true = ap (λ o. is_some (own_count u o)) (sym (ap (λ (x : ℕ). at x s.owners) same) ∙ isq) ∙ ap is_some (own_itself u count) in
            let one : u ≡ t = own_one u t (at b s.owners) owns mine in
            elim (leg_then u x there) [
              | inl own ↦ or_right (is_known changed_state.frames q) (is_in q x.leg.changes) (ap (is_in q) own.1 ∙ ap is_some (ap (λ (y : ℕ). at y (put b c trans.leg.changes)) same ∙ at_put_same b c trans.leg.changes))
              | inr else_ ↦ absurd (else_.0 one)
            ]
        | inr other ↦
            busy_more (is_known s.frames q) (is_known changed_state.frames q) (is_in q x.leg.changes) (is_in q x.leg.changes) (λ k. same_known q other ∙ k) (λ k. k)
            (elim (leg_then u x there) [
              | inl own ↦
                  subst (λ z. (is_known s.frames q || z) ≡ true) (sym (ap is_some (at_put_other b q c trans.leg.changes other)) ∙ sym (ap (is_in q) own.1))
                  (h.owned q u count trans isq (ap (λ (n : ℕ). at n s.transactions) own.0 ∙ is))
              | inr else_ ↦ h.owned q u count x isq else_.1
            ])
      ]

  changed_edits : (u : ℕ) (x : Transaction) → at u changed_state.transactions ≡ Some x → AreMarkedEdits s.form.size s.frames.committed x.leg.changes
  changed_edits u x there =
      elim (leg_then u x there) [
        | inl own ↦
            subst (AreMarkedEdits s.form.size s.frames.committed) (sym own.1)
            (λ q d isq.
            elim (cases_eq q b) [
              | inl same ↦ subst (λ (y : ℕ). IsMarkedEdit s.form.size (at y s.frames.committed) d) (sym same) (subst (IsMarkedEdit s.form.size (at b s.frames.committed)) (put_value b q c d trans.leg.changes same isq) tells)
              | inr other ↦ h.edits t trans is q d (sym (at_put_other b q c trans.leg.changes other) ∙ isq)
            ])
        | inr else_ ↦ h.edits u x else_.1
      ]

  -- a change that tells the truth keeps a mount true
  pub consistent_changed : IsConsistent changed_state
  consistent_changed = record {
    idle_once = h.idle_once;
    idle_apart = h.idle_apart;
    held = λ q isq. same_known q (other_owner q Held isq refl) ∙ h.held q isq;
    owned = changed_owned;
    edits = changed_edits;
  }
