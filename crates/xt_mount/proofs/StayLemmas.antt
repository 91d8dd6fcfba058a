-- Where a leg was committed or a checkpoint has landed and each block stays busy.
use Rattle.std.proofs.Common.{◌≡◌, ◌≢◌, ◌∙◌, ◌⊎◌, ◌<◌, ◌∷◌, Bool, List, None, Option, Some, [], ap, arith, false, inl, inr, length, refl, subst, sym, true, ℕ}
use Rattle.std.proofs.lemmas.Bool.{cases_Bool, eqb-true, false≢true, ne_eqb}
use Rattle.std.specs.List.{list_any}
use Rattle.std.specs.Prelude.{IfSome, filter, filter_map, if◌then◌else◌, is_none, is_some, not, ◌&&◌, ◌==◌, ◌||◌}
use Rattle.xt_base.proofs.KeyLemmas.{at_filter, at_filter_map, is_in_cons_cases, is_in_put_old}
use Rattle.xt_base.proofs.LegLemmas.{keeps_owner_aborted, keeps_owner_after, owned_there, rises_with_edits}
use Rattle.xt_base.proofs.MapLemmas.{at_put_same}
use Rattle.xt_base.proofs.RisingLemmas.{each_at, each_filter, each_map, rises_filter}
use Rattle.xt_base.proofs.SoundBounds.{each_with_edits}
use Rattle.xt_base.proofs.SoundParts.{activated_one, busy_active, busy_by, busy_committed, busy_flying, busy_owned}
use Rattle.xt_base.specs.Calls.{closed}
use Rattle.xt_base.specs.Jobs.{activated, landed_items, waits_on}
use Rattle.xt_base.specs.Legs.{aborted, ended, is_dirty, is_lost, is_stale, joined_marks, owned_by, owner_aborted, owner_after, with_edits, with_lost, with_marks}
use Rattle.xt_base.specs.Maps.{at, has, is_in, put, without}
use Rattle.xt_base.specs.Sound.{AllBelow, Each, IsBetween, IsCancelledIn, IsFair, IsRising, IsSound, Owns}
use Rattle.xt_base.specs.Space.{flight_items, is_busy}
use Rattle.xt_base.specs.State.{Change, Flight, Frames, Items, Leg, State, Transaction}
use Rattle.xt_base.specs.declared.steps.Owner.{Owner}
use Rattle.xt_base.specs.declared.steps.Owner.TheVariants.{Held, Stale, Trans}
use Rattle.xt_frames.specs.Settling.{AreOthersBusy}
use Rattle.xt_items.specs.Lists.{flight_number}
use Rattle.xt_mount.proofs.EndLemmas.{some_if}
use Rattle.xt_mount.specs.Accounts.{AccountsState, landed_in}
use Rattle.xt_mount.specs.Settling.{OfRest, has_cancel, has_unchanged, has_unchanged_beside, is_busy_in}
use Rattle.xt_mount.specs.declared.settle.MayRest.{MayRest}
use Rattle.xt_base.proofs.MapLemmas.{some_same}

-- ---- tests that no element passes
or_first : (a b : Bool) → (a || b) ≡ false → a ≡ false
or_first false b h = refl
or_first true b h = h

or_second : (a b : Bool) → (a || b) ≡ false → b ≡ false
or_second false b h = h
or_second true b h = absurd (false≢true (sym h))

module _ {A : Type 0} (p : A → Bool) where
  each_fails : (xs : List A) → list_any p xs ≡ false → Each (λ x. p x ≡ false) xs
  each_fails [] h = tt
  each_fails (x ∷ xs) h = (or_first (p x) (list_any p xs) h, each_fails xs (or_second (p x) (list_any p xs) h))

-- three tests of which the first passes and some other does not
second_or_third : (a b c : Bool) → (a && not b && not c) ≡ false → a ≡ true → (b ≡ true) ⊎ (c ≡ true)
second_or_third true true c h is = inl refl
second_or_third true false true h is = inr refl
second_or_third true false false h is = absurd (false≢true (sym h))
second_or_third false b c h is = absurd (false≢true is)

-- three tests of which the first two don't both pass
three_fail : (a b c : Bool) → (a && b) ≡ false → (a && b && c) ≡ false
three_fail true true c h = absurd (false≢true (sym h))
three_fail true false c h = refl
three_fail false b c h = refl

or_fails : (a b : Bool) → a ≡ false → b ≡ false → (a || b) ≡ false
or_fails true b ha hb = absurd (false≢true (sym ha))
or_fails false b ha hb = hb

or_left : (a b : Bool) → a ≡ true → (a || b) ≡ true
or_left true b h = refl
or_left false b h = absurd (false≢true h)

or_right : (a b : Bool) → b ≡ true → (a || b) ≡ true
or_right true b h = refl
or_right false b h = h

-- a number is this one, or what was said of it holds
this_or : (q b : ℕ) (x : Bool) → ((q == b) || x) ≡ true → (q ≡ b) ⊎ (x ≡ true)
this_or q b x h =
    elim (cases_Bool (q == b)) [
      | inl same ↦ inl (eqb-true q b same)
      | inr other ↦ inr (sym (ap (λ y. y || x) other) ∙ h)
    ]

-- a transaction whose leg changed each block that it has has none beside this one
pub none_beside : (b t : ℕ) (leg : Leg) (owners : List (ℕ × Owner)) → has_unchanged t leg owners ≡ false → has_unchanged_beside b t leg owners ≡ false
none_beside b t leg [] h = refl
none_beside b t leg (e ∷ es) h =
    let here : Bool = owned_by t e.1 && not (is_in e.0 leg.changes) in
    or_fails _ (has_unchanged_beside b t leg es)
    (three_fail (owned_by t e.1) (not (is_in e.0 leg.changes)) (not (e.0 == b)) (or_first here (has_unchanged t leg es) h))
    (none_beside b t leg es (or_second here (has_unchanged t leg es) h))

-- the first of two, where the test fails
first_of_two : (x : Bool) (v w : Option (ℕ × Owner)) → x ≡ false → (if not x then v else w) ≡ v
first_of_two false v w is = refl
first_of_two true v w is = absurd (false≢true (sym is))

-- ---- the lists after a landing that cancels nothing
one_active : (gone there : Bool) (q b number : ℕ) (ail : List (ℕ × ℕ)) → gone ≡ false → there ≡ is_in b ail → (q ≡ b) ⊎ (is_in q ail ≡ true)
    → is_in q (if gone then without b ail else (if there then ail else put b number ail)) ≡ true
one_active true there q b number ail stays is h = absurd (false≢true (sym stays))
one_active false true q b number ail stays is (inl same) = ap (λ k. is_in k ail) same ∙ sym is
one_active false true q b number ail stays is (inr old) = old
one_active false false q b number ail stays is (inl same) = ap (λ k. is_in k (put b number ail)) same ∙ ap is_some (at_put_same b number ail)
one_active false false q b number ail stays is (inr old) = is_in_put_old q b number ail old

-- what flew or was active is active
all_active : (q number : ℕ) (es : List (ℕ × List ℕ)) (ail : List (ℕ × ℕ)) → Each (λ e. (length e.1 == 0) ≡ false) es → (is_in q es ≡ true) ⊎ (is_in q ail ≡ true) → is_in q (activated number es ail) ≡ true
all_active q number [] ail stay (inl none) = absurd (false≢true none)
all_active q number [] ail stay (inr old) = old
all_active q number (e ∷ es) ail stay (inl there) =
    all_active q number es (activated_one number e ail) stay.1
    (elim (is_in_cons_cases q e es there) [
      | inl same ↦ inr (one_active (length e.1 == 0) (is_in e.0 ail) q e.0 number ail stay.0 refl (inl same))
      | inr later ↦ inl later
    ])
all_active q number (e ∷ es) ail stay (inr old) =
    all_active q number es (activated_one number e ail) stay.1 (inr (one_active (length e.1 == 0) (is_in e.0 ail) q e.0 number ail stay.0 refl (inr old)))

-- an owner that does not wait for the checkpoint stays
owner_stays : (b number : ℕ) (owners : List (ℕ × Owner)) (o : Option Owner) → at b owners ≡ o → is_some o ≡ true → ((n : ℕ) → o ≡ Some (Stale n) → n ≢ number)
    → is_in b (filter (λ e. not (waits_on number e.1)) owners) ≡ true
owner_stays b number owners None is there other = absurd (false≢true there)
owner_stays b number owners (Some (Trans u count)) is there other = ap is_some (at_filter b (Trans u count) (λ e. not (waits_on number e.1)) owners is refl)
owner_stays b number owners (Some Held) is there other = ap is_some (at_filter b Held (λ e. not (waits_on number e.1)) owners is refl)
owner_stays b number owners (Some (Stale n)) is there other =
    ap is_some (at_filter b (Stale n) (λ e. not (waits_on number e.1)) owners is (ap not (ne_eqb n number (other n refl))))

module _ (s : State) (f : Flight) (sound : IsSound s) (flies : s.items.flight ≡ Some f) (live : is_none s.shut ≡ true) (plain : has_cancel f.items ≡ false) where
  none_cancelled : Each (λ e. (length e.1 == 0) ≡ false) f.items
  none_cancelled = each_fails (λ (e : ℕ × List ℕ). length e.1 == 0) f.items plain

  -- no block waits for this checkpoint
  none_waits : (b n : ℕ) → at b s.owners ≡ Some (Stale n) → n ≢ f.number
  none_waits b n waits =
      let between : (f.number < s.items.open_number) × AllBelow f.number s.items.landed = subst (λ o. IsBetween o s.items) flies sound.parts.flying in
      elim ((sound.written live).cancelled b n waits) [
        | inl opened ↦ λ same. omega (arith, opened.0, same, between.0)
        | inr flown ↦
            let there : IsCancelledIn (Some f) s.items.cil b n = subst (λ o. IsCancelledIn o s.items.cil b n) flies flown in
            λ same. false≢true (sym (each_at (λ e. (length e.1 == 0) ≡ false) b [] f.items there.1 none_cancelled))
      ]

  landed_owners : List (ℕ × Owner)
  landed_owners = filter (λ e. not (waits_on f.number e.1)) s.owners

  -- each busy block is busy after the landing
  busy_landed : (b : ℕ) → is_busy s b ≡ true → is_busy_in (filter (λ e. not (waits_on f.number e.1)) s.owners) (landed_items s.form.ends f s.items) b ≡ true
  busy_landed b busy =
      let ns : List (ℕ × Owner) = filter (λ e. not (waits_on f.number e.1)) s.owners in
      let n : Items = landed_items s.form.ends f s.items in
      busy_by s.owners s.items b (is_busy_in ns n b)
      (λ owned. busy_owned ns n b (owner_stays b f.number s.owners (at b s.owners) refl owned (none_waits b)))
      (busy_committed ns n b)
      (λ flew. busy_active ns n b (all_active b f.number f.items s.items.ail none_cancelled (inl (sym (ap (λ o. is_in b (flight_items o)) flies) ∙ flew))))
      (λ old. busy_active ns n b (all_active b f.number f.items s.items.ail none_cancelled (inr old)))
      busy

  others_at_landing : AreOthersBusy (is_busy_in (filter (λ e. not (waits_on f.number e.1)) s.owners) (landed_items s.form.ends f s.items)) 0 s.frames
  others_at_landing =
      let busy : ℕ → Bool = is_busy_in (filter (λ e. not (waits_on f.number e.1)) s.owners) (landed_items s.form.ends f s.items) in
      record {
        contents = each_map (λ e. is_busy s e.0 ≡ true) (λ e. (e.0 ≡ 0) ⊎ (busy e.0 ≡ true)) s.frames.committed (λ e was. inr (busy_landed e.0 was)) sound.kept.committed_busy;
        marks = each_map (λ b. is_busy s b ≡ true) (λ b. (b ≡ 0) ⊎ (busy b ≡ true)) s.frames.fresh (λ b was. inr (busy_landed b was)) sound.kept.fresh_busy;
      }

-- the accounts of a state
abbrev pub accounts_in : State → AccountsState
accounts_in s = record { log_bytes = s.log_bytes; form = s.form; transactions = s.transactions; items = s.items; frames = s.frames; shut = s.shut }

others_by : (s : State) (o : Option Flight) (number : ℕ) (owners : List (ℕ × Owner)) (accounts : AccountsState) → IsSound s → s.items.flight ≡ o → flight_number o ≡ Some number
    → owners ≡ filter (λ e. not (waits_on number e.1)) s.owners → IfSome o (λ f. accounts ≡ landed_in f (accounts_in s)) → is_none s.shut ≡ true → has_cancel (flight_items o) ≡ false
    → AreOthersBusy (is_busy_in owners accounts.items) 0 accounts.frames
others_by s None number owners accounts sound is flying freed landed live plain = absurd (cc flying)
others_by s (Some f) number owners accounts sound is flying freed landed live plain =
    let left : owners ≡ filter (λ e. not (waits_on f.number e.1)) s.owners = freed ∙ ap (λ k. filter (λ e. not (waits_on k e.1)) s.owners) (sym (some_same f.number number flying)) in
    subst (λ os. AreOthersBusy (is_busy_in os accounts.items) 0 accounts.frames) (sym left)
    (subst (λ (a : AccountsState). AreOthersBusy (is_busy_in (filter (λ e. not (waits_on f.number e.1)) s.owners) a.items) 0 a.frames) (sym landed) (others_at_landing s f sound is live plain))

-- each block that has a content is busy after the flight of this number has landed
pub others_landed : (s : State) (number : ℕ) (owners : List (ℕ × Owner)) (accounts : AccountsState) → IsSound s → flight_number s.items.flight ≡ Some number
    → owners ≡ filter (λ e. not (waits_on number e.1)) s.owners → IfSome s.items.flight (λ f. accounts ≡ landed_in f (accounts_in s)) → is_none s.shut ≡ true → has_cancel (flight_items s.items.flight) ≡ false
    → AreOthersBusy (is_busy_in owners accounts.items) 0 accounts.frames
others_landed s number owners accounts sound flying freed landed live plain = others_by s s.items.flight number owners accounts sound refl flying freed landed live plain

rising_by : (s : State) (o : Option Flight) (number : ℕ) (accounts : AccountsState) → IsSound s → flight_number o ≡ Some number → IfSome o (λ f. accounts ≡ landed_in f (accounts_in s)) → IsRising accounts.frames.committed
rising_by s None number accounts sound flying landed = absurd (cc flying)
rising_by s (Some f) number accounts sound flying landed = subst (λ (a : AccountsState). IsRising a.frames.committed) (sym landed) sound.kept.committed_rises

-- the contents rise after the flight has landed
pub rising_landed : (s : State) (number : ℕ) (accounts : AccountsState) → IsSound s → flight_number s.items.flight ≡ Some number → IfSome s.items.flight (λ f. accounts ≡ landed_in f (accounts_in s))
    → IsRising accounts.frames.committed
rising_landed s number accounts sound flying landed = rising_by s s.items.flight number accounts sound flying landed

-- ---- the lists after a commit
-- what was changed or listed is listed
all_marked : (q : ℕ) (cs : List (ℕ × Change)) (m : List (ℕ × List ℕ)) → (is_in q cs ≡ true) ⊎ (is_in q m ≡ true) → is_in q (with_marks cs m) ≡ true
all_marked q [] m (inl none) = absurd (false≢true none)
all_marked q [] m (inr old) = old
all_marked q (e ∷ cs) m (inl there) =
    let marks : List ℕ = joined_marks (at e.0 m) e.1 in
    all_marked q cs (put e.0 marks m)
    (elim (is_in_cons_cases q e cs there) [
      | inl same ↦ inr (ap (λ k. is_in k (put e.0 marks m)) same ∙ ap is_some (at_put_same e.0 marks m))
      | inr later ↦ inl later
    ])
all_marked q (e ∷ cs) m (inr old) =
    let marks : List ℕ = joined_marks (at e.0 m) e.1 in
    all_marked q cs (put e.0 marks m) (inr (is_in_put_old q e.0 marks m old))

module _ (s : State) (t block : ℕ) (trans : Transaction) (sound : IsSound s) (there : at t s.transactions ≡ Some trans) (changed : has_unchanged_beside block t trans.leg s.owners ≡ false) where
  owned_changed : Each (λ e. (owned_by t e.1 && not (is_in e.0 trans.leg.changes) && not (e.0 == block)) ≡ false) s.owners
  owned_changed = each_fails (λ (e : ℕ × Owner). owned_by t e.1 && not (is_in e.0 trans.leg.changes) && not (e.0 == block)) s.owners changed

  -- a block that somebody has is busy after the commit, but perhaps this one
  busy_had : (b : ℕ) (o : Option Owner) → at b s.owners ≡ o → is_some o ≡ true
      → ((b == block) || is_busy_in (filter_map (owner_after t trans.leg s.items.open_number) s.owners) (record s.items { cil = with_marks trans.leg.changes s.items.cil }) b) ≡ true
  busy_had b None is had = absurd (false≢true had)
  busy_had b (Some o) is had =
      let ns : List (ℕ × Owner) = filter_map (owner_after t trans.leg s.items.open_number) s.owners in
      let n : Items = record s.items { cil = with_marks trans.leg.changes s.items.cil } in
      elim (cases_Bool (owned_by t o)) [
        | inl own ↦
            elim (second_or_third (owned_by t o) (is_in b trans.leg.changes) (b == block) (each_at (λ e. (owned_by t e.1 && not (is_in e.0 trans.leg.changes) && not (e.0 == block)) ≡ false) b o s.owners is owned_changed) own) [
              | inl marked ↦ or_right (b == block) (is_busy_in ns n b) (busy_committed ns n b (all_marked b trans.leg.changes s.items.cil (inl marked)))
              | inr same ↦ or_left (b == block) (is_busy_in ns n b) same
            ]
        | inr other ↦
            or_right (b == block) (is_busy_in ns n b)
            (busy_owned ns n b (ap is_some (at_filter_map b o (owner_after t trans.leg s.items.open_number) s.owners (keeps_owner_after t trans.leg s.items.open_number) is (first_of_two (owned_by t o) (Some (b, o)) (if is_stale b trans.leg then Some (b, Stale s.items.open_number) else (if has trans.leg.holds b then Some (b, Held) else None)) other))))
      ]

  -- each busy block is busy after the commit, but perhaps this one
  busy_ended : (b : ℕ) → is_busy s b ≡ true
      → (b ≡ block) ⊎ (is_busy_in (filter_map (owner_after t trans.leg s.items.open_number) s.owners) (record s.items { cil = with_marks trans.leg.changes s.items.cil }) b ≡ true)
  busy_ended b busy =
      let ns : List (ℕ × Owner) = filter_map (owner_after t trans.leg s.items.open_number) s.owners in
      let n : Items = record s.items { cil = with_marks trans.leg.changes s.items.cil } in
      this_or b block (is_busy_in ns n b)
      (busy_by s.owners s.items b ((b == block) || is_busy_in ns n b)
      (λ owned. busy_had b (at b s.owners) refl owned)
      (λ listed. or_right (b == block) (is_busy_in ns n b) (busy_committed ns n b (all_marked b trans.leg.changes s.items.cil (inr listed))))
      (λ flies. or_right (b == block) (is_busy_in ns n b) (busy_flying ns n b flies))
      (λ active. or_right (b == block) (is_busy_in ns n b) (busy_active ns n b active)) busy)

  -- each block that has a content is busy after the commit, but perhaps this one
  pub others_ended : AreOthersBusy (is_busy_in (filter_map (owner_after t trans.leg s.items.open_number) s.owners) (record s.items { cil = with_marks trans.leg.changes s.items.cil })) block (record s.frames { committed = with_edits trans.leg.changes s.frames.committed })
  others_ended =
      let busy : ℕ → Bool = is_busy_in (filter_map (owner_after t trans.leg s.items.open_number) s.owners) (record s.items { cil = with_marks trans.leg.changes s.items.cil }) in
      let fair : IsFair s.form.ends s.owners (t, trans) = each_at (IsFair s.form.ends s.owners) t trans s.transactions there sound.parts.fair in
      record {
        contents =
            each_with_edits (λ b. (b ≡ block) ⊎ (busy b ≡ true)) trans.leg.changes s.frames.committed
            (each_map (λ (c : ℕ × Change). Owns s.owners t c.0) (λ (c : ℕ × Change). (c.0 ≡ block) ⊎ (busy c.0 ≡ true)) trans.leg.changes
            (λ c own. busy_ended c.0 (busy_owned s.owners s.items c.0 (owned_there t c.0 s.owners own))) fair.owned)
            (each_map (λ (e : ℕ × List ℕ). is_busy s e.0 ≡ true) (λ (e : ℕ × List ℕ). (e.0 ≡ block) ⊎ (busy e.0 ≡ true)) s.frames.committed (λ e was. busy_ended e.0 was) sound.kept.committed_busy);
        marks = each_map (λ b. is_busy s b ≡ true) (λ b. (b ≡ block) ⊎ (busy b ≡ true)) s.frames.fresh (λ b was. busy_ended b was) sound.kept.fresh_busy;
      }

-- a state whose owners, lists and frames are those after a commit
module _ (s new : State) (t : ℕ) (trans : Transaction) (rest : Transaction → State → State) (sound : IsSound s) (there : Some trans ≡ at t s.transactions)
    (ends : IfSome (at t s.transactions) (λ u. new ≡ rest u (ended t u.leg s))) where
  new_is : new ≡ rest trans (ended t trans.leg s)
  new_is = some_if (at t s.transactions) (λ u. new ≡ rest u (ended t u.leg s)) trans there ends

  others_but : (b : ℕ) → ((b : ℕ) (u : Transaction) (x : State) → AreOthersBusy (is_busy x) b x.frames → AreOthersBusy (is_busy (rest u x)) b (rest u x).frames)
      → IfSome (at t s.transactions) (λ u. has_unchanged_beside b t u.leg s.owners ≡ false) → AreOthersBusy (is_busy new) b new.frames
  others_but b keeps tells =
      let changed : has_unchanged_beside b t trans.leg s.owners ≡ false = some_if (at t s.transactions) (λ u. has_unchanged_beside b t u.leg s.owners ≡ false) trans there tells in
      subst (λ (x : State). AreOthersBusy (is_busy x) b x.frames) (sym new_is) (keeps b trans (ended t trans.leg s) (others_ended s t b trans sound (sym there) changed))

  -- each block that has a content is busy, but perhaps the one that is said
  pub others_committed : (only : MayRest) → ((b : ℕ) (u : Transaction) (x : State) → AreOthersBusy (is_busy x) b x.frames → AreOthersBusy (is_busy (rest u x)) b (rest u x).frames)
      → OfRest only (λ b. IfSome (at t s.transactions) (λ u. has_unchanged_beside b t u.leg s.owners ≡ false)) → OfRest only (λ b. AreOthersBusy (is_busy new) b new.frames)
  others_committed MayRest.Each keeps tells = tt
  others_committed (MayRest.One b) keeps tells = others_but b keeps tells
  others_committed MayRest.Nothing keeps tells = λ b. others_but b keeps (tells b)

  -- the contents rise
  pub rising_committed : ((u : Transaction) (x : State) → (rest u x).frames ≡ x.frames) → IsRising new.frames.committed
  rising_committed keeps =
      subst (λ (x : State). IsRising x.frames.committed) (sym new_is)
      (subst (λ (f : Frames). IsRising f.committed) (sym (keeps trans (ended t trans.leg s))) (rises_with_edits trans.leg.changes s.frames.committed sound.kept.committed_rises))

-- ---- a clean leg that is given up
none_by : (cs : List (ℕ × Change)) → not (length cs == 0) ≡ false → cs ≡ []
none_by [] h = refl
none_by (c ∷ cs) h = absurd (false≢true (sym h ∙ ap not (ne_eqb (length (c ∷ cs)) 0 (λ same. omega (arith, same)))))

module _ (s : State) (t block : ℕ) (trans : Transaction) (sound : IsSound s) (there : at t s.transactions ≡ Some trans) (clean : is_dirty trans.leg ≡ false) (lone : has_unchanged_beside block t trans.leg s.owners ≡ false) where
  no_change : trans.leg.changes ≡ []
  no_change = none_by trans.leg.changes clean

  owned_alone : Each (λ e. (owned_by t e.1 && not (is_in e.0 trans.leg.changes) && not (e.0 == block)) ≡ false) s.owners
  owned_alone = each_fails (λ (e : ℕ × Owner). owned_by t e.1 && not (is_in e.0 trans.leg.changes) && not (e.0 == block)) s.owners lone

  -- a block that somebody has stays busy, but perhaps this one
  had_aborted : (b : ℕ) (o : Option Owner) → at b s.owners ≡ o → is_some o ≡ true → ((b == block) || is_busy_in (filter_map (owner_aborted t trans.leg) s.owners) s.items b) ≡ true
  had_aborted b None is had = absurd (false≢true had)
  had_aborted b (Some o) is had =
      let ns : List (ℕ × Owner) = filter_map (owner_aborted t trans.leg) s.owners in
      elim (cases_Bool (owned_by t o)) [
        | inl own ↦
            elim (second_or_third (owned_by t o) (is_in b trans.leg.changes) (b == block) (each_at (λ e. (owned_by t e.1 && not (is_in e.0 trans.leg.changes) && not (e.0 == block)) ≡ false) b o s.owners is owned_alone) own) [
              | inl changed ↦ absurd (false≢true (sym (ap (λ cs. is_in b cs) no_change) ∙ changed))
              | inr same ↦ or_left (b == block) (is_busy_in ns s.items b) same
            ]
        | inr other ↦
            or_right (b == block) (is_busy_in ns s.items b)
            (busy_owned ns s.items b (ap is_some (at_filter_map b o (owner_aborted t trans.leg) s.owners (keeps_owner_aborted t trans.leg) is (first_of_two (owned_by t o) (Some (b, o)) (if has trans.leg.holds b then Some (b, Held) else None) other))))
      ]

  -- each busy block stays busy, but perhaps this one
  busy_aborted : (b : ℕ) → is_busy s b ≡ true → (b ≡ block) ⊎ (is_busy_in (filter_map (owner_aborted t trans.leg) s.owners) s.items b ≡ true)
  busy_aborted b busy =
      let ns : List (ℕ × Owner) = filter_map (owner_aborted t trans.leg) s.owners in
      this_or b block (is_busy_in ns s.items b)
      (busy_by s.owners s.items b ((b == block) || is_busy_in ns s.items b)
      (λ owned. had_aborted b (at b s.owners) refl owned)
      (λ listed. or_right (b == block) (is_busy_in ns s.items b) (busy_committed ns s.items b listed))
      (λ flies. or_right (b == block) (is_busy_in ns s.items b) (busy_flying ns s.items b flies))
      (λ active. or_right (b == block) (is_busy_in ns s.items b) (busy_active ns s.items b active)) busy)

  -- each block that has a content stays busy, but perhaps this one
  others_aborted : AreOthersBusy (is_busy (aborted t trans.leg s)) block (aborted t trans.leg s).frames
  others_aborted =
      let busy : ℕ → Bool = is_busy (aborted t trans.leg s) in
      record {
        contents =
            each_filter (λ (e : ℕ × List ℕ). (e.0 ≡ block) ⊎ (busy e.0 ≡ true)) (λ e. not (is_lost trans.leg e.0)) s.frames.committed
            (each_map (λ (e : ℕ × List ℕ). is_busy s e.0 ≡ true) (λ (e : ℕ × List ℕ). (e.0 ≡ block) ⊎ (busy e.0 ≡ true)) s.frames.committed (λ e was. busy_aborted e.0 was) sound.kept.committed_busy);
        marks =
            subst (λ cs. Each (λ b. (b ≡ block) ⊎ (busy b ≡ true)) (with_lost cs trans.leg s.frames.fresh)) (sym no_change)
            (each_map (λ b. is_busy s b ≡ true) (λ b. (b ≡ block) ⊎ (busy b ≡ true)) s.frames.fresh (λ b was. busy_aborted b was) sound.kept.fresh_busy);
      }

-- a state after a leg was given up and its transaction closed
module _ (s new : State) (t : ℕ) (trans : Transaction) (sound : IsSound s) (there : Some trans ≡ at t s.transactions) (ends : IfSome (at t s.transactions) (λ u. new ≡ closed t (aborted t u.leg s))) where
  given_up : new ≡ closed t (aborted t trans.leg s)
  given_up = some_if (at t s.transactions) (λ u. new ≡ closed t (aborted t u.leg s)) trans there ends

  alone_but : (b : ℕ) → IfSome (at t s.transactions) (λ u. is_dirty u.leg ≡ false) → IfSome (at t s.transactions) (λ u. has_unchanged_beside b t u.leg s.owners ≡ false) → AreOthersBusy (is_busy new) b new.frames
  alone_but b clean lone =
      subst (λ (x : State). AreOthersBusy (is_busy x) b x.frames) (sym given_up)
      (others_aborted s t b trans sound (sym there) (some_if (at t s.transactions) (λ u. is_dirty u.leg ≡ false) trans there clean)
      (some_if (at t s.transactions) (λ u. has_unchanged_beside b t u.leg s.owners ≡ false) trans there lone))

  -- each block that has a content is busy, but perhaps the one that is said
  pub others_cancelled : (only : MayRest) → OfRest only (λ b. IfSome (at t s.transactions) (λ u. is_dirty u.leg ≡ false)) → OfRest only (λ b. IfSome (at t s.transactions) (λ u. has_unchanged_beside b t u.leg s.owners ≡ false))
      → OfRest only (λ b. AreOthersBusy (is_busy new) b new.frames)
  others_cancelled MayRest.Each clean lone = tt
  others_cancelled (MayRest.One b) clean lone = alone_but b clean lone
  others_cancelled MayRest.Nothing clean lone = λ b. alone_but b (clean b) (lone b)

  -- the contents rise
  pub rising_cancelled : IsRising new.frames.committed
  rising_cancelled =
      subst (λ (x : State). IsRising x.frames.committed) (sym given_up) (rises_filter 0 (λ e. not (is_lost trans.leg e.0)) s.frames.committed sound.kept.committed_rises)
