-- What open transactions have changed: each such block is its transaction's own, so it is busy, and no other one has changed it.
use Rattle.std.proofs.Common.{◌≡◌, ◌≢◌, ◌∙◌, ◌⊎◌, Bool, List, [], Option, Some, ap, false, filter, filter_map, not, None, refl, inl, inr, subst, sym, true, ℕ}
use Rattle.std.proofs.lemmas.Bool.{cases_Bool, false≢true}
use Rattle.std.specs.Prelude.{IfSome, is_some, ◌||◌}
use Rattle.xt_base.proofs.BusyLemmas.{each_own}
use Rattle.xt_base.proofs.KeyLemmas.{at_filter}
use Rattle.xt_base.proofs.LegLemmas.{own_one, own_trans, owned_there, owns_aborted, owns_after}
use Rattle.xt_base.proofs.MapLemmas.{at_without_other, set_at_same}
use Rattle.xt_base.proofs.RisingLemmas.{each_at, each_both, each_in, each_map, each_other, each_set_at, each_set_other}
use Rattle.xt_base.proofs.SoundParts.{busy_owned}
use Rattle.xt_base.specs.Calls.{closed, is_held, is_own, unowned, with_leg, with_legs, without_hold}
use Rattle.xt_base.specs.Jobs.{waits_on}
use Rattle.xt_base.specs.Legs.{aborted, ended, own_count, owner_aborted, owner_after}
use Rattle.xt_base.specs.Maps.{at, is_in, set_at, without}
use Rattle.xt_base.specs.Sound.{Each, IsFair, IsRising, IsSound, Owns}
use Rattle.xt_base.specs.Space.{is_busy, is_listed}
use Rattle.xt_base.specs.State.{Change, Flight, Items, State, Transaction}
use Rattle.xt_base.specs.declared.steps.Owner.{Owner}
use Rattle.xt_base.specs.declared.steps.Owner.TheVariants.{Held, Stale, Trans}
use Rattle.xt_items.specs.Lists.{flight_number}
use Rattle.xt_mount.proofs.EndLemmas.{some_if}
use Rattle.xt_mount.proofs.StayLemmas.{accounts_in}
use Rattle.xt_mount.specs.Accounts.{AccountsState, AreAlone, IsAlone, IsUnchanged, landed_in}
use Rattle.xt_mount.specs.Settling.{AreChangedBusy, is_busy_in}

-- what is not so is not true
not_so : (b : Bool) → (b ≡ true → ⊥) → b ≡ false
not_so b none =
    elim (cases_Bool b) [
      | inl is ↦ absurd (none is)
      | inr not ↦ not
    ]

first_fails : (a b : Bool) → (a || b) ≡ false → a ≡ false
first_fails false b h = refl
first_fails true b h = h

module _ (ends : ℕ) (owners : List (ℕ × Owner)) where
  -- a transaction has what its leg changed
  changed_own : (b : ℕ) (e : ℕ × Transaction) → IsFair ends owners e → is_in b e.1.leg.changes ≡ true → Owns owners e.0 b
  changed_own b e fair there = each_in (λ q. Owns owners e.0 q) b e.1.leg.changes there fair.owned

  module _ (ts : List (ℕ × Transaction)) (fair : Each (IsFair ends owners) ts) where
    -- each changed block is busy
    pub fair_busy : (l : Items) → AreChangedBusy (is_busy_in owners l) ts
    fair_busy l =
        each_map (IsFair ends owners) (λ e. Each (λ c. is_busy_in owners l c.0 ≡ true) e.1.leg.changes) ts
        (λ e f. each_map (λ c. Owns owners e.0 c.0) (λ c. is_busy_in owners l c.0 ≡ true) e.1.leg.changes (λ c own. busy_owned owners l c.0 (owned_there e.0 c.0 owners own)) f.owned)
        fair

    -- what a transaction has, no other one has changed
    pub alone_own : (t b : ℕ) → Owns owners t b → IsAlone t b ts
    alone_own t b own =
        each_map (IsFair ends owners) (λ e. (e.0 ≡ t) ⊎ (is_in b e.1.leg.changes ≡ false)) ts
        (λ e f.
        elim (cases_Bool (is_in b e.1.leg.changes)) [
          | inl changed ↦ inl (own_one e.0 t (at b owners) (changed_own b e f changed) own)
          | inr unchanged ↦ inr unchanged
        ])
        fair

    -- nor what it has changed
    pub alone_changed : (t : ℕ) (u : Transaction) → at t ts ≡ Some u → AreAlone t u.leg.changes ts
    alone_changed t u is b changed = alone_own t b (changed_own b (t, u) (each_at (IsFair ends owners) t u ts is fair) changed)

    -- what no transaction has, none has changed
    pub unchanged_unowned : (b : ℕ) → ((t : ℕ) → Owns owners t b → ⊥) → IsUnchanged b ts
    unchanged_unowned b none =
        each_map (IsFair ends owners) (λ e. is_in b e.1.leg.changes ≡ false) ts (λ e f. not_so (is_in b e.1.leg.changes) (λ changed. none e.0 (changed_own b e f changed))) fair

    -- what nobody owns, none has changed
    pub unchanged_free : (b : ℕ) → is_in b owners ≡ false → IsUnchanged b ts
    unchanged_free b free = unchanged_unowned b (λ t own. false≢true (sym free ∙ owned_there t b owners own))

    -- where a block that none has changed loses its owner, each changed block is busy
    pub busy_without : (l : Items) (b : ℕ) → IsUnchanged b ts → AreChangedBusy (is_busy_in (without b owners) l) ts
    busy_without l b unchanged =
        let busy : ℕ → Bool = is_busy_in (without b owners) l in
        each_map (λ e. IsFair ends owners e × (is_in b e.1.leg.changes ≡ false)) (λ e. Each (λ c. busy c.0 ≡ true) e.1.leg.changes) ts
        (λ e both.
        each_map (λ c. Owns owners e.0 c.0 × (is_in c.0 e.1.leg.changes ≡ true)) (λ c. busy c.0 ≡ true) e.1.leg.changes
        (λ c own.
        let other : c.0 ≢ b = λ same. false≢true (sym both.1 ∙ subst (λ q. is_in q e.1.leg.changes ≡ true) same own.1) in
        busy_owned (without b owners) l c.0 (ap is_some (at_without_other b c.0 owners other) ∙ owned_there e.0 c.0 owners own.0))
        (each_both (λ c. Owns owners e.0 c.0) (λ c. is_in c.0 e.1.leg.changes ≡ true) e.1.leg.changes both.0.owned (each_own e.1.leg.changes)))
        (each_both (IsFair ends owners) (λ e. is_in b e.1.leg.changes ≡ false) ts fair unchanged)

    module _ (rises : IsRising ts) where
      -- what a transaction has and has not changed, none has changed
      pub unchanged_own : (t b : ℕ) (u : Transaction) → at t ts ≡ Some u → Owns owners t b → is_in b u.leg.changes ≡ false → IsUnchanged b ts
      unchanged_own t b u is own unchanged =
          subst (IsUnchanged b) (set_at_same t u ts is)
          (each_set_other (λ e. is_in b e.1.leg.changes ≡ false) 0 t u ts rises unchanged
          (each_map (λ e. (e.0 ≡ t) ⊎ (is_in b e.1.leg.changes ≡ false)) (λ e. e.0 ≢ t → is_in b e.1.leg.changes ≡ false) ts
          (λ e either other.
          elim either [
            | inl same ↦ absurd (other same)
            | inr free ↦ free
          ])
          (alone_own t b own)))

      -- where all other transactions keep what they have, and one ends or has a clean leg
      module _ (t : ℕ) (busy : ℕ → Bool) (still : (u b : ℕ) → u ≢ t → Owns owners u b → busy b ≡ true) where
        kept_busy : (e : ℕ × Transaction) → IsFair ends owners e → e.0 ≢ t → Each (λ c. busy c.0 ≡ true) e.1.leg.changes
        kept_busy e f other = each_map (λ c. Owns owners e.0 c.0) (λ c. busy c.0 ≡ true) e.1.leg.changes (λ c own. still e.0 c.0 other own) f.owned

        pub busy_closed : AreChangedBusy busy (without t ts)
        busy_closed =
            each_map (λ e. IsFair ends owners e × (e.0 ≢ t)) (λ e. Each (λ c. busy c.0 ≡ true) e.1.leg.changes) (without t ts) (λ e both. kept_busy e both.0 both.1) (each_other (IsFair ends owners) 0 t ts rises fair)

        pub busy_clean : (v : Transaction) → v.leg.changes ≡ [] → AreChangedBusy busy (set_at t v ts)
        busy_clean v clean =
            each_set_other (λ e. Each (λ c. busy c.0 ≡ true) e.1.leg.changes) 0 t v ts rises (subst (Each (λ (c : ℕ × Change). busy c.0 ≡ true)) (sym clean) tt)
            (each_map (IsFair ends owners) (λ e. e.0 ≢ t → Each (λ c. busy c.0 ≡ true) e.1.leg.changes) ts kept_busy fair)

  -- what a transaction has stays, where a checkpoint frees what waits for it
  owns_freed : (number t b : ℕ) → Owns owners t b → is_in b (filter (λ e. not (waits_on number e.1)) owners) ≡ true
  owns_freed number t b own =
      let mine = own_trans t (at b owners) own in
      ap is_some (at_filter b (Trans t mine.0) (λ e. not (waits_on number e.1)) owners mine.1 refl)

  pub busy_freed : (ts : List (ℕ × Transaction)) (l : Items) (number : ℕ) → Each (IsFair ends owners) ts → AreChangedBusy (is_busy_in (filter (λ e. not (waits_on number e.1)) owners) l) ts
  busy_freed ts l number fair =
      let left : List (ℕ × Owner) = filter (λ e. not (waits_on number e.1)) owners in
      each_map (IsFair ends owners) (λ e. Each (λ c. is_busy_in left l c.0 ≡ true) e.1.leg.changes) ts
      (λ e f. each_map (λ c. Owns owners e.0 c.0) (λ c. is_busy_in left l c.0 ≡ true) e.1.leg.changes (λ c own. busy_owned left l c.0 (owns_freed number e.0 c.0 own)) f.owned)
      fair

-- ---- of a sound mount
module _ (s : State) (sound : IsSound s) where
  -- no other transaction has changed what one has
  pub own_alone : (t b : ℕ) → is_own s t b ≡ true → IsAlone t b s.transactions
  own_alone t b own = alone_own s.form.ends s.owners s.transactions sound.parts.fair t b own

  -- or what it has changed
  pub leg_alone : (t n : ℕ) (u : Transaction) → Some u ≡ at t s.transactions → t ≡ n → IfSome (at n s.transactions) (λ x. AreAlone n x.leg.changes s.transactions)
  leg_alone t n u there same =
      subst (λ k. IfSome (at k s.transactions) (λ x. AreAlone k x.leg.changes s.transactions)) same
      (subst (λ o. IfSome o (λ x. AreAlone t x.leg.changes s.transactions)) there (alone_changed s.form.ends s.owners s.transactions sound.parts.fair t u (sym there)))

  -- a block that nobody has is unchanged
  pub free_unchanged : (b : ℕ) → is_in b s.owners ≡ false → IsUnchanged b s.transactions
  free_unchanged b free = unchanged_free s.form.ends s.owners s.transactions sound.parts.fair b free

  -- so is one that is not busy
  pub idle_unchanged : (b : ℕ) → is_busy s b ≡ false → IsUnchanged b s.transactions
  idle_unchanged b idle = free_unchanged b (first_fails (is_in b s.owners) (is_listed s.items b) idle)

  -- each changed block is busy in a mount with the same owners and transactions
  pub busy_alike : (n : State) → n.owners ≡ s.owners → n.transactions ≡ s.transactions → AreChangedBusy (is_busy n) n.transactions
  busy_alike n owners transactions =
      subst (λ os. AreChangedBusy (is_busy_in os n.items) n.transactions) (sym owners)
      (subst (AreChangedBusy (is_busy_in s.owners n.items)) (sym transactions) (fair_busy s.form.ends s.owners s.transactions sound.parts.fair n.items))

  -- a held block that is released
  held_other : (t : ℕ) (o : Option Owner) → is_held o ≡ true → is_some (own_count t o) ≡ true → ⊥
  held_other t None held own = false≢true held
  held_other t (Some (Trans u count)) held own = false≢true held
  held_other t (Some Held) held own = false≢true own
  held_other t (Some (Stale n)) held own = false≢true held

  pub busy_released : (b : ℕ) → is_held (at b s.owners) ≡ true → AreChangedBusy (is_busy (unowned b s)) s.transactions
  busy_released b held = busy_without s.form.ends s.owners s.transactions sound.parts.fair s.items b (unchanged_unowned s.form.ends s.owners s.transactions sound.parts.fair b (λ t own. held_other t (at b s.owners) held own))

  -- a block that is given back
  pub busy_given_back : (t b : ℕ) (n : State) (o : Option Transaction) → at t s.transactions ≡ o → is_some o ≡ true → is_own s t b ≡ true → IfSome o (λ u. is_in b u.leg.changes ≡ false)
      → IfSome o (λ u. n ≡ with_leg t u (without_hold b u.leg) s) → AreChangedBusy (is_busy (unowned b n)) n.transactions
  busy_given_back t b n None is there own unchanged ends = absurd (false≢true there)
  busy_given_back t b n (Some u) is there own unchanged ends =
      let busy : ℕ → Bool = is_busy_in (without b s.owners) s.items in
      let changed : ℕ × Transaction → Type 0 = λ e. Each (λ c. busy c.0 ≡ true) e.1.leg.changes in
      let all : AreChangedBusy busy s.transactions =
      busy_without s.form.ends s.owners s.transactions sound.parts.fair s.items b (unchanged_own s.form.ends s.owners s.transactions sound.parts.fair sound.parts.transactions_rise t b u is own unchanged) in
      subst (λ (x : State). AreChangedBusy (is_busy (unowned b x)) x.transactions) (sym ends)
      (each_set_at changed t (record u { leg = without_hold b u.leg }) s.transactions (each_at changed t u s.transactions is all) all)

  -- after a landing
  landed_by : (o : Option Flight) (number : ℕ) (owners : List (ℕ × Owner)) (accounts : AccountsState) → flight_number o ≡ Some number → owners ≡ filter (λ e. not (waits_on number e.1)) s.owners
      → IfSome o (λ f. accounts ≡ landed_in f (accounts_in s)) → AreChangedBusy (is_busy_in owners accounts.items) accounts.transactions
  landed_by None number owners accounts flying freed landed = absurd (cc flying)
  landed_by (Some f) number owners accounts flying freed landed =
      subst (λ os. AreChangedBusy (is_busy_in os accounts.items) accounts.transactions) (sym freed)
      (subst (AreChangedBusy (is_busy_in (filter (λ e. not (waits_on number e.1)) s.owners) accounts.items)) (sym (ap (λ (a : AccountsState). a.transactions) landed)) (busy_freed s.form.ends s.owners s.transactions accounts.items number sound.parts.fair))

  pub busy_landed : (number : ℕ) (owners : List (ℕ × Owner)) (accounts : AccountsState) → flight_number s.items.flight ≡ Some number → owners ≡ filter (λ e. not (waits_on number e.1)) s.owners
      → IfSome s.items.flight (λ f. accounts ≡ landed_in f (accounts_in s)) → AreChangedBusy (is_busy_in owners accounts.items) accounts.transactions
  busy_landed number owners accounts flying freed landed = landed_by s.items.flight number owners accounts flying freed landed

  -- ---- after the end of a leg
  module _ (t : ℕ) (u : Transaction) (there : Some u ≡ at t s.transactions) (n : State) where
    aborted_still : (v b : ℕ) → v ≢ t → Owns s.owners v b → is_busy_in (filter_map (owner_aborted t u.leg) s.owners) s.items b ≡ true
    aborted_still v b other own =
        let left : List (ℕ × Owner) = filter_map (owner_aborted t u.leg) s.owners in
        busy_owned left s.items b (owned_there v b left (owns_aborted t v b u.leg s.owners other own))

    ended_still : (v b : ℕ) → v ≢ t → Owns s.owners v b → is_busy (ended t u.leg s) b ≡ true
    ended_still v b other own =
        let left : List (ℕ × Owner) = filter_map (owner_after t u.leg s.items.open_number) s.owners in
        busy_owned left (ended t u.leg s).items b (owned_there v b left (owns_after t v b u.leg s.items.open_number s.owners other own))

    pub busy_aborted : IfSome (at t s.transactions) (λ x. n ≡ closed t (aborted t x.leg s)) → AreChangedBusy (is_busy n) n.transactions
    busy_aborted ends =
        subst (λ (x : State). AreChangedBusy (is_busy x) x.transactions) (sym (some_if (at t s.transactions) (λ x. n ≡ closed t (aborted t x.leg s)) u there ends))
        (busy_closed s.form.ends s.owners s.transactions sound.parts.fair sound.parts.transactions_rise t (is_busy (aborted t u.leg s)) aborted_still)

    pub busy_given_up : IfSome (at t s.transactions) (λ x. n ≡ with_legs t 0 x (aborted t x.leg s)) → AreChangedBusy (is_busy n) n.transactions
    busy_given_up ends =
        subst (λ (x : State). AreChangedBusy (is_busy x) x.transactions) (sym (some_if (at t s.transactions) (λ x. n ≡ with_legs t 0 x (aborted t x.leg s)) u there ends))
        (busy_clean s.form.ends s.owners s.transactions sound.parts.fair sound.parts.transactions_rise t (is_busy (aborted t u.leg s)) aborted_still _ refl)

    pub busy_ended : IfSome (at t s.transactions) (λ x. n ≡ closed t (ended t x.leg s)) → AreChangedBusy (is_busy n) n.transactions
    busy_ended ends =
        subst (λ (x : State). AreChangedBusy (is_busy x) x.transactions) (sym (some_if (at t s.transactions) (λ x. n ≡ closed t (ended t x.leg s)) u there ends))
        (busy_closed s.form.ends s.owners s.transactions sound.parts.fair sound.parts.transactions_rise t (is_busy (ended t u.leg s)) ended_still)

    pub busy_rolled : (legs : Transaction → ℕ) → IfSome (at t s.transactions) (λ x. n ≡ with_legs t (legs x) x (ended t x.leg s)) → AreChangedBusy (is_busy n) n.transactions
    busy_rolled legs ends =
        subst (λ (x : State). AreChangedBusy (is_busy x) x.transactions) (sym (some_if (at t s.transactions) (λ x. n ≡ with_legs t (legs x) x (ended t x.leg s)) u there ends))
        (busy_clean s.form.ends s.owners s.transactions sound.parts.fair sound.parts.transactions_rise t (is_busy (ended t u.leg s)) ended_still _ refl)
