-- A transaction that only looks leaves no trace when it is cancelled.
use Rattle.std.proofs.Common.{◌≡◌, ◌∙◌, ◌+◌, ◌-◌, ◌*◌, ◌<◌, ◌≤◌, ◌∷◌, Bool, List, None, Option, Some, [], ap, arith, cond, false, inl, inr, refl, subst, sym, true, ℕ}
use Rattle.std.proofs.lemmas.Bool.{and_parts, cases_Bool, cases_eq, cases_order, eqb-true, false_from_ne_true, false≢true, not-true, or_parts, or_right}
use Rattle.std.specs.List.{cons_option}
use Rattle.std.specs.Prelude.{filter, filter_map, if◌then◌else◌, is_some, nat_le, nat_lt, not, ◌&&◌, ◌==◌, ◌||◌}
use Rattle.xt_base.proofs.BusyLemmas.{is_busy_in}
use Rattle.xt_base.proofs.KeyLemmas.{each_has, filter_with_member, is_in_filter_map, is_in_first}
use Rattle.xt_base.proofs.LegLemmas.{keeps_owner_aborted, own_itself}
use Rattle.xt_base.proofs.MapLemmas.{at_first, at_later, at_put_same, put_less, put_more, put_same, set_at_same, without_first, without_later}
use Rattle.xt_base.proofs.OwnerNumbers.{none_given}
use Rattle.xt_base.proofs.RisingLemmas.{each_map, filter_drop, filter_pass}
use Rattle.xt_base.proofs.SoundBuffers.{own_here}
use Rattle.xt_base.proofs.SoundCalls.{sound_call}
use Rattle.xt_base.proofs.SoundParts.{busy_owned, mine_if}
use Rattle.xt_base.proofs.SoundSteps.{is_none_not, passes_first}
use Rattle.xt_base.proofs.StillLemmas.{fact_either, fact_if, fact_unless}
use Rattle.xt_base.specs.Calls.{Outcome, alloc, alloc_refusals, allocated, alone_with, answered, asks_ckpt, asks_flush, at_end, brought, cancel, first_of, get, get_refusals, gives, is_absent, is_elsewhere, is_fresh, is_own, is_resident, locked, new_trans, read, read_refusals, released, relse, seen, unless, unowned, view, with_leg, with_owner, with_trans, without_hold}
use Rattle.xt_base.specs.Laws.{after_calls, is_look}
use Rattle.xt_base.specs.Legs.{clean_leg, is_stale, own_count, owned_by, owner_aborted}
use Rattle.xt_base.specs.Maps.{at, is_in, put, without}
use Rattle.xt_base.specs.Settle.{settled}
use Rattle.xt_base.specs.Sound.{Each, IsSound, IsUnwritten}
use Rattle.xt_base.specs.Space.{busy_count, is_busy, is_listed, used}
use Rattle.xt_base.specs.State.{Items, IsWithoutTrace, State, Transaction}
use Rattle.xt_base.specs.declared.steps.Answer.{Answer}
use Rattle.xt_base.specs.declared.steps.Errno.{Errno}
use Rattle.xt_base.specs.declared.steps.Errno.TheVariants.{Again, Invalid, Io, NoBufs}
use Rattle.xt_base.specs.declared.steps.Owner.{Owner}
use Rattle.xt_base.specs.declared.steps.Owner.TheVariants.{Trans}
use Rattle.xt_base.specs.declared.steps.Reply.{Reply}
use Rattle.xt_base.specs.declared.steps.Reply.TheVariants.{Free, Kept, Okay, Refused}
use Rattle.xt_base.specs.declared.steps.Request.{Request}

-- ---- filters
module _ {A : Type 0} where
  -- a filter within another
  filter_within : (p q : A → Bool) (xs : List A) → ((x : A) → p x ≡ true → q x ≡ true) → filter p (filter q xs) ≡ filter p xs
  filter_within p q [] h = refl
  filter_within p q (x ∷ xs) h =
      elim (cases_Bool (q x)) [
        | inl on ↦ ap (filter p) (filter_pass q x xs on) ∙ ap (λ zs. cond (p x) (x ∷ zs) zs) (filter_within p q xs h)
        | inr off ↦
            let drops : p x ≡ false = false_from_ne_true (p x) (λ passes. false≢true (sym off ∙ h x passes)) in
            ap (filter p) (filter_drop q x xs off) ∙ filter_within p q xs h ∙ sym (filter_drop p x xs drops)
      ]

  -- what passes each keeps all
  filter_all : (p : A → Bool) (xs : List A) → Each (λ x. p x ≡ true) xs → filter p xs ≡ xs
  filter_all p [] all = refl
  filter_all p (x ∷ xs) all = filter_pass p x xs all.0 ∙ ap (λ zs. x ∷ zs) (filter_all p xs all.1)

  filter_every : (xs : List A) → filter (λ x. true) xs ≡ xs
  filter_every [] = refl
  filter_every (x ∷ xs) = ap (λ zs. x ∷ zs) (filter_every xs)

module _ {V : Type 0} where
  -- a filter that does not keep a key keeps the same after its put
  filter_put : (p : ℕ → Bool) (b : ℕ) (v : V) (es : List (ℕ × V)) → p b ≡ false → filter (λ e. p e.0) (put b v es) ≡ filter (λ e. p e.0) es
  filter_put p b v [] h = filter_drop (λ (e : ℕ × V). p e.0) (b, v) [] h
  filter_put p b v (e ∷ es) h =
      elim (cases_order b e.0) [
        | inl same ↦
            let off : p e.0 ≡ false = sym (ap p same) ∙ h in
            ap (filter (λ (x : ℕ × V). p x.0)) (put_same b v e es same) ∙ filter_drop (λ (x : ℕ × V). p x.0) (e.0, v) es off ∙ sym (filter_drop (λ (x : ℕ × V). p x.0) e es off)
        | inr (inl lt) ↦ ap (filter (λ (x : ℕ × V). p x.0)) (put_less b v e es lt) ∙ filter_drop (λ (x : ℕ × V). p x.0) (b, v) (e ∷ es) h
        | inr (inr lt) ↦ ap (filter (λ (x : ℕ × V). p x.0)) (put_more b v e es lt) ∙ ap (λ zs. cond (p e.0) (e ∷ zs) zs) (filter_put p b v es h)
      ]

  -- a new greatest key goes as it came
  without_put : (k : ℕ) (v : V) (es : List (ℕ × V)) → Each (λ e. e.0 < k) es → without k (put k v es) ≡ es
  without_put k v [] all = without_first k (k, v) [] refl
  without_put k v (e ∷ es) all =
      let below = all.0 in
      ap (without k) (put_more k v e es below) ∙ without_later k e (put k v es) (λ same. omega (arith, same, below)) ∙ ap (λ zs. e ∷ zs) (without_put k v es all.1)

-- ---- owners without a transaction
-- the owners after a clean leg was given up
abbrev pub freed : ℕ → List (ℕ × Owner) → List (ℕ × Owner)
freed t owners = filter_map (owner_aborted t clean_leg) owners

freed_first : (t : ℕ) (e : ℕ × Owner) (es : List (ℕ × Owner)) → owned_by t e.1 ≡ true → freed t (e ∷ es) ≡ freed t es
freed_first t e es own = ap (λ x. cons_option (if not x then Some e else None) (freed t es)) own

-- owners of which none is the transaction
freed_none : (t : ℕ) (owners : List (ℕ × Owner)) → Each (λ e. owned_by t e.1 ≡ false) owners → freed t owners ≡ owners
freed_none t [] all = refl
freed_none t (e ∷ es) all = ap (λ x. cons_option (if not x then Some e else None) (freed t es)) all.0 ∙ ap (λ zs. e ∷ zs) (freed_none t es all.1)

-- a lock more
freed_put : (t b count : ℕ) (owners : List (ℕ × Owner)) → (is_in b owners && not (is_some (own_count t (at b owners)))) ≡ false → freed t (put b (Trans t count) owners) ≡ freed t owners
freed_put t b count [] free = freed_first t (b, Trans t count) [] (ap is_some (own_itself t count))
freed_put t b count (e ∷ es) free =
    let mine : owned_by t (Trans t count) ≡ true = ap is_some (own_itself t count) in
    elim (cases_order b e.0) [
      | inl same ↦
          let own : owned_by t e.1 ≡ true =
          sym (ap (λ o. is_some (own_count t o)) (at_first b e es same)) ∙ mine_if (is_in b (e ∷ es)) (is_some (own_count t (at b (e ∷ es)))) (is_in_first b e es same) free in
          ap (freed t) (put_same b (Trans t count) e es same) ∙ freed_first t (e.0, Trans t count) es mine ∙ sym (freed_first t e es own)
      | inr (inl lt) ↦ ap (freed t) (put_less b (Trans t count) e es lt) ∙ freed_first t (b, Trans t count) (e ∷ es) mine
      | inr (inr lt) ↦
          let later : at b (e ∷ es) ≡ at b es = at_later b e es (λ same. omega (arith, same, lt)) in
          ap (freed t) (put_more b (Trans t count) e es lt)
          ∙ ap (cons_option (owner_aborted t clean_leg e)) (freed_put t b count es (sym (ap (λ o. is_some o && not (is_some (own_count t o))) later) ∙ free))
    ]

-- a lock less
freed_without : (t b : ℕ) (owners : List (ℕ × Owner)) → is_some (own_count t (at b owners)) ≡ true → freed t (without b owners) ≡ freed t owners
freed_without t b [] own = refl
freed_without t b (e ∷ es) own =
    elim (cases_eq b e.0) [
      | inl same ↦ ap (freed t) (without_first b e es same) ∙ sym (freed_first t e es (sym (ap (λ o. is_some (own_count t o)) (at_first b e es same)) ∙ own))
      | inr other ↦
          ap (freed t) (without_later b e es other)
          ∙ ap (cons_option (owner_aborted t clean_leg e)) (freed_without t b es (sym (ap (λ o. is_some (own_count t o)) (at_later b e es other)) ∙ own))
    ]

-- ---- a state while a transaction looks
-- the state before, but for the transaction's record, its locks, and the contents and fresh marks of blocks that were not busy before
pub record IsLooked (t : ℕ) (its : Transaction) (s m : State) : Type 0 where
  pub rest : record m { frames = s.frames; owners = s.owners; transactions = s.transactions; last_trans = s.last_trans } ≡ s
  pub open_ones : m.transactions ≡ put t its s.transactions
  pub locks : freed t m.owners ≡ s.owners
  pub contents : filter (λ e. is_busy s e.0) m.frames.committed ≡ s.frames.committed
  pub fresh_ones : filter (is_busy s) m.frames.fresh ≡ s.frames.fresh

module _ (t unit count : ℕ) (perm : Bool) (s : State) where
  -- the transaction's record
  abbrev its : Transaction
  its = new_trans unit count perm

  busy_first : (owners : List (ℕ × Owner)) (l : Items) → freed t owners ≡ s.owners → l ≡ s.items → (q : ℕ) → is_busy s q ≡ true → is_busy_in owners l q ≡ true
  busy_first owners l locks same q busy =
      elim (cases_Bool (is_in q s.owners)) [
        | inl owned ↦ busy_owned owners l q (is_in_filter_map q (owner_aborted t clean_leg) owners (keeps_owner_aborted t clean_leg) (ap (is_in q) locks ∙ owned))
        | inr free ↦
            let listed : is_listed s.items q ≡ true = sym (ap (λ x. x || is_listed s.items q) free) ∙ busy in
            or_right (is_in q owners) (is_listed l q) (ap (λ x. is_listed x q) same ∙ listed)
      ]

  module _ (m : State) (k : IsLooked t (new_trans unit count perm) s m) (h : IsSound m) where
    same_items : m.items ≡ s.items
    same_items = ap (λ (x : State). x.items) k.rest

    there : at t m.transactions ≡ Some (new_trans unit count perm)
    there = ap (at t) k.open_ones ∙ at_put_same t (new_trans unit count perm) s.transactions

    not_busy : (b : ℕ) → is_busy m b ≡ false → is_busy s b ≡ false
    not_busy b off = false_from_ne_true (is_busy s b) (λ on. false≢true (sym off ∙ busy_first m.owners m.items k.locks same_items b on))

    locked_more : (b n : ℕ) → is_elsewhere m t b ≡ false → IsLooked t (new_trans unit count perm) s (with_owner b (Trans t n) m)
    locked_more b n free = record { rest = k.rest; open_ones = k.open_ones; locks = freed_put t b n m.owners free ∙ k.locks; contents = k.contents; fresh_ones = k.fresh_ones }

    brought_looked : (b : ℕ) (idle : Option (List ℕ)) → is_elsewhere m t b ≡ false → is_busy s b ≡ false → IsLooked t (new_trans unit count perm) s (with_owner b (Trans t 0) (brought b idle m))
    brought_looked b (Some content) free off = record {
      rest = k.rest;
      open_ones = k.open_ones;
      locks = freed_put t b 0 m.owners free ∙ k.locks;
      contents = filter_put (is_busy s) b content m.frames.committed off ∙ k.contents;
      fresh_ones = k.fresh_ones;
    }
    brought_looked b None free off = record {
      rest = k.rest;
      open_ones = k.open_ones;
      locks = freed_put t b 0 m.owners free ∙ k.locks;
      contents = k.contents;
      fresh_ones = filter_with_member (is_busy s) b m.frames.fresh off ∙ k.fresh_ones;
    }

    locked_looked : (b : ℕ) (o : Option ℕ) → is_elsewhere m t b ≡ false → IsLooked t (new_trans unit count perm) s (locked t b o m)
    locked_looked b (Some n) free = locked_more b (n + 1) free
    locked_looked b None free =
        fact_if (λ x. IsLooked t (new_trans unit count perm) s (with_owner b (Trans t 0) x)) (is_busy m b) m (brought b (at b m.frames.idle) m) (λ busy. locked_more b 0 free)
        (λ off. brought_looked b (at b m.frames.idle) free (not_busy b off))

    get_looked : (b : ℕ) → IsLooked t (new_trans unit count perm) s (get t b m).state
    get_looked b =
        let full : Bool = not (is_busy m b) && nat_le 64 (busy_count m) in
        let last : Bool = at_end (own_count t (at b m.owners)) in
        fact_unless (IsLooked t (new_trans unit count perm) s) (first_of (get_refusals t b m)) m (gives Okay (locked t b (own_count t (at b m.owners)) m)) k
        (λ passes.
        let first = passes_first (nat_le m.blocks b) Invalid ((is_some m.shut, Io) ∷ (last, Invalid) ∷ (is_elsewhere m t b, Again) ∷ (full, NoBufs) ∷ []) passes in
        let second = passes_first (is_some m.shut) Io ((last, Invalid) ∷ (is_elsewhere m t b, Again) ∷ (full, NoBufs) ∷ []) first.1 in
        let third = passes_first last Invalid ((is_elsewhere m t b, Again) ∷ (full, NoBufs) ∷ []) second.1 in
        let fourth = passes_first (is_elsewhere m t b) Again ((full, NoBufs) ∷ []) third.1 in
        locked_looked b (own_count t (at b m.owners)) fourth.0)

    -- a block that the device is asked for was not busy before
    absent_idle : (b : ℕ) → is_some m.shut ≡ false → is_elsewhere m t b ≡ false → is_absent t b m ≡ true → is_busy s b ≡ false
    absent_idle b live free absent =
        let both = and_parts (not (is_own m t b)) (not (is_resident m b)) absent in
        let other : is_own m t b ≡ false = not-true (is_own m t b) both.0 in
        let away : is_resident m b ≡ false = not-true (is_resident m b) both.1 in
        let hidden : (is_busy m b && not (is_fresh m b)) ≡ false = (or_parts (is_busy m b && not (is_fresh m b)) (is_in b m.frames.idle) away).0 in
        false_from_ne_true (is_busy s b)
        (λ on.
        let fresh : is_fresh m b ≡ true = mine_if (is_busy m b) (is_fresh m b) (busy_first m.owners m.items k.locks same_items b on) hidden in
        let unwritten : IsUnwritten m.owners m.transactions m.items b = each_has (IsUnwritten m.owners m.transactions m.items) b m.frames.fresh fresh (h.fresh_owned (is_none_not m.shut live)) in
        false≢true (sym other ∙ mine_if (is_in b m.owners) (is_own m t b) unwritten.owned free))

    answered_looked : (b : ℕ) (answer : Answer) → is_elsewhere m t b ≡ false → is_busy s b ≡ false → IsLooked t (new_trans unit count perm) s (answered t b clean_leg m answer).state
    answered_looked b (Answer.Content content) free off = brought_looked b (Some content) free off
    answered_looked b Answer.None free off = k
    answered_looked b Answer.Failed free off = k

    read_looked : (b : ℕ) (answer : Answer) → IsLooked t (new_trans unit count perm) s (read t b answer m (new_trans unit count perm)).state
    read_looked b answer =
        let full : Bool = not (is_busy m b) && nat_le 64 (busy_count m) in
        let last : Bool = at_end (own_count t (at b m.owners)) || (is_own m t b && (is_fresh m b || is_stale b clean_leg)) in
        let here : Outcome = gives Okay (locked t b (own_count t (at b m.owners)) m) in
        fact_unless (IsLooked t (new_trans unit count perm) s) (first_of (read_refusals t b clean_leg m)) m (if is_absent t b m then answered t b clean_leg m answer else here) k
        (λ passes.
        let first = passes_first (nat_le m.blocks b) Invalid ((is_some m.shut, Io) ∷ (last, Invalid) ∷ (is_elsewhere m t b, Again) ∷ (full, NoBufs) ∷ []) passes in
        let second = passes_first (is_some m.shut) Io ((last, Invalid) ∷ (is_elsewhere m t b, Again) ∷ (full, NoBufs) ∷ []) first.1 in
        let third = passes_first last Invalid ((is_elsewhere m t b, Again) ∷ (full, NoBufs) ∷ []) second.1 in
        let fourth = passes_first (is_elsewhere m t b) Again ((full, NoBufs) ∷ []) third.1 in
        fact_either (IsLooked t (new_trans unit count perm) s) (is_absent t b m) (answered t b clean_leg m answer) here
        (λ absent. answered_looked b answer fourth.0 (absent_idle b second.0 fourth.0 absent)) (λ resident. locked_looked b (own_count t (at b m.owners)) fourth.0))

    view_looked : (b : ℕ) → IsLooked t (new_trans unit count perm) s (view t b m (new_trans unit count perm)).state
    view_looked b = fact_either (IsLooked t (new_trans unit count perm) s) (is_own m t b) (gives (Reply.Data (seen m.form.size b clean_leg m.frames)) m) (gives (Refused Invalid) m) (λ own. k) (λ other. k)

    free_looked : (b : ℕ) → is_own m t b ≡ true → IsLooked t (new_trans unit count perm) s (settled [] (unowned b (with_leg t (new_trans unit count perm) (without_hold b clean_leg) m)))
    free_looked b own =
        let locks : freed t (without b m.owners) ≡ s.owners = freed_without t b m.owners own ∙ k.locks in
        record {
          rest = k.rest;
          open_ones = set_at_same t (new_trans unit count perm) m.transactions there ∙ k.open_ones;
          locks = locks;
          contents =
              filter_within (λ e. is_busy s e.0) (λ e. is_busy_in (without b m.owners) m.items e.0) m.frames.committed (λ e on. busy_first (without b m.owners) m.items locks same_items e.0 on)
              ∙ k.contents;
          fresh_ones = filter_within (is_busy s) (is_busy_in (without b m.owners) m.items) m.frames.fresh (busy_first (without b m.owners) m.items locks same_items) ∙ k.fresh_ones;
        }

    released_looked : (b : ℕ) (o : Option ℕ) → own_count t (at b m.owners) ≡ o → IsLooked t (new_trans unit count perm) s (released [] t b (new_trans unit count perm) m o).state
    released_looked b None is = k
    released_looked b (Some n) is =
        let own : is_own m t b ≡ true = ap is_some is in
        fact_either (IsLooked t (new_trans unit count perm) s) (nat_lt 0 n) (gives Kept (with_owner b (Trans t (n - 1)) m))
        (gives Free (settled [] (unowned b (with_leg t (new_trans unit count perm) (without_hold b clean_leg) m))))
        (λ more. locked_more b (n - 1) (own_here (is_in b m.owners) (is_own m t b) own)) (λ last. free_looked b own)

    opened : (f : Transaction → Outcome) → IsLooked t (new_trans unit count perm) s (f (new_trans unit count perm)).state → IsLooked t (new_trans unit count perm) s (with_trans (at t m.transactions) m f).state
    opened f p = subst (λ o. IsLooked t (new_trans unit count perm) s (with_trans o m f).state) (sym there) p

    same_named : (u : ℕ) (g : ℕ → Transaction → Outcome) → (u == t) ≡ true → IsLooked t (new_trans unit count perm) s (g t (new_trans unit count perm)).state
        → IsLooked t (new_trans unit count perm) s (with_trans (at u m.transactions) m (g u)).state
    same_named u g named p = subst (λ (x : ℕ). IsLooked t (new_trans unit count perm) s (with_trans (at x m.transactions) m (g x)).state) (sym (eqb-true u t named)) (opened (g t) p)

    looked_step : (request : Request) (answer : Answer) → is_look t request ≡ true → IsLooked t (new_trans unit count perm) s (alone_with [] request answer m).state
    looked_step (Request.Get u b) answer look = same_named u (λ x trans. get x b m) look (get_looked b)
    looked_step (Request.Read u b) answer look = same_named u (λ x. read x b answer m) look (read_looked b answer)
    looked_step (Request.View u b) answer look = same_named u (λ x. view x b m) look (view_looked b)
    looked_step (Request.Relse u b) answer look = same_named u (λ x. relse [] x b m) look (released_looked b (own_count t (at b m.owners)) refl)
    looked_step request answer look = absurd (false≢true look)

    -- ---- the cancel
    abbrev made : State → List (ℕ × Owner) → List (ℕ × Transaction) → List (ℕ × List ℕ) → List ℕ → State
    made r owners ts contents fresh = record r { frames = record { committed = contents; fresh = fresh; idle = [] }; owners = owners; transactions = ts; last_trans = 0 }

    cancelled : Each (λ e. e.0 < t) s.transactions → IsWithoutTrace s (cancel [] t m (new_trans unit count perm)).state
    cancelled below =
        let owners : List (ℕ × Owner) = freed t m.owners in
        let busy : ℕ → Bool = is_busy_in owners m.items in
        let contents : List (ℕ × List ℕ) = filter (λ e. busy e.0) (filter (λ e. true) m.frames.committed) in
        let fresh : List ℕ = filter busy m.frames.fresh in
        let ts : List (ℕ × Transaction) = without t m.transactions in
        let same_ts : ts ≡ s.transactions = ap (without t) k.open_ones ∙ without_put t (new_trans unit count perm) s.transactions below in
        let same_contents : contents ≡ s.frames.committed =
        ap (filter (λ e. busy e.0)) (filter_every m.frames.committed) ∙ ap (λ (o : List (ℕ × Owner)). filter (λ e. is_busy_in o m.items e.0) m.frames.committed) k.locks
        ∙ ap (λ (l : Items). filter (λ e. is_busy_in s.owners l e.0) m.frames.committed) same_items ∙ k.contents in
        let same_fresh : fresh ≡ s.frames.fresh =
        ap (λ (o : List (ℕ × Owner)). filter (is_busy_in o m.items) m.frames.fresh) k.locks ∙ ap (λ (l : Items). filter (is_busy_in s.owners l) m.frames.fresh) same_items ∙ k.fresh_ones in
        sym (ap (λ r. made r owners ts contents fresh) k.rest ∙ ap (λ o. made s o ts contents fresh) k.locks ∙ ap (λ x. made s s.owners x contents fresh) same_ts
        ∙ ap (λ x. made s s.owners s.transactions x fresh) same_contents ∙ ap (made s s.owners s.transactions s.frames.committed) same_fresh)

  looked_run : (looks : List (Request × Answer)) (m : State) → IsLooked t (new_trans unit count perm) s m → IsSound m → Each (λ x. is_look t x.0 ≡ true) looks
      → IsLooked t (new_trans unit count perm) s (after_calls looks m) × IsSound (after_calls looks m)
  looked_run [] m k h all = (k, h)
  looked_run (x ∷ xs) m k h all = looked_run xs (alone_with [] x.0 x.1 m).state (looked_step m k h x.0 x.1 all.0) (sound_call [] x.0 x.1 m h) all.1

-- ---- the law
trans_replied : (a b : ℕ) → Reply.Trans a ≡ Reply.Trans b → a ≡ b
trans_replied a b h = cc

refused_trans : (e : Errno) (b : ℕ) → Refused e ≡ Reply.Trans b → ⊥
refused_trans e b h = absurd (cc)

unless_given : (r : Option Errno) (s : State) (o : Outcome) (t : ℕ) → (unless r s o).reply ≡ Reply.Trans t → unless r s o ≡ o
unless_given None s o t h = refl
unless_given (Some e) s o t h = absurd (refused_trans e t h)

either_given : (c : Bool) (e : Errno) (m : State) (o : Outcome) (t : ℕ) → (if c then gives (Refused e) m else o).reply ≡ Reply.Trans t → (if c then gives (Refused e) m else o) ≡ o
either_given true e m o t h = absurd (refused_trans e t h)
either_given false e m o t h = refl

-- an alloc that answers its transaction opened it
pub alloc_given : (unit count t : ℕ) (perm : Bool) (s : State) → (alloc unit count perm s).reply ≡ Reply.Trans t → alloc unit count perm s ≡ allocated unit count perm s
alloc_given unit count t perm s h =
    let full : Bool = nat_lt s.log_bytes (used s + unit * count) in
    let inner : Outcome = if full then gives (Refused Again) (asks_flush (asks_ckpt s)) else allocated unit count perm s in
    let first : alloc unit count perm s ≡ inner = unless_given (first_of (alloc_refusals unit count perm s)) s inner t h in
    first ∙ either_given full Again (asks_flush (asks_ckpt s)) (allocated unit count perm s) t (sym (ap (λ (o : Outcome). o.reply) first) ∙ h)

module _ (s : State) (h : IsSound s) (unit count : ℕ) (perm : Bool) (looks : List (Request × Answer)) (answer : Answer) where
  from_start : (m : State) → m ≡ (allocated unit count perm s).state → IsSound m → Each (λ e. owned_by (s.last_trans + 1) e.1 ≡ false) s.owners → Each (λ x. is_look (s.last_trans + 1) x.0 ≡ true) looks
      → IsWithoutTrace s (alone_with [] (Request.Cancel (s.last_trans + 1)) answer (after_calls looks m)).state
  from_start m is sound new all =
      let t : ℕ = s.last_trans + 1 in
      let start : IsLooked t (new_trans unit count perm) s (allocated unit count perm s).state = record {
        rest = refl;
        open_ones = refl;
        locks = freed_none t s.owners new;
        contents = filter_all (λ e. is_busy s e.0) s.frames.committed h.kept.committed_busy;
        fresh_ones = filter_all (is_busy s) s.frames.fresh h.kept.fresh_busy;
      } in
      let run = looked_run t unit count perm s looks m (subst (IsLooked t (new_trans unit count perm) s) (sym is) start) sound all in
      let n : State = after_calls looks m in
      let below : Each (λ e. e.0 < t) s.transactions = each_map (λ e. e.0 ≤ s.last_trans) (λ e. e.0 < s.last_trans + 1) s.transactions (λ e less. omega (arith, less)) h.numbers in
      subst (λ o. IsWithoutTrace s (with_trans o n (cancel [] t n)).state) (sym (there t unit count perm s n run.0 run.1)) (cancelled t unit count perm s n run.0 run.1 below)

  -- after an alloc, looks and a cancel, there is no trace
  pub clean_cancel : (t : ℕ) → (alloc unit count perm s).reply ≡ Reply.Trans t → Each (λ x. is_look t x.0 ≡ true) looks
      → IsWithoutTrace s (alone_with [] (Request.Cancel t) answer (after_calls looks (alloc unit count perm s).state)).state
  clean_cancel t given all =
      let outcome : alloc unit count perm s ≡ allocated unit count perm s = alloc_given unit count t perm s given in
      let same : s.last_trans + 1 ≡ t = trans_replied (s.last_trans + 1) t (sym (ap (λ (o : Outcome). o.reply) outcome) ∙ given) in
      let m : State = (alloc unit count perm s).state in
      let sound : IsSound m = sound_call [] (Request.Alloc unit count perm) answer s h in
      subst (λ (x : ℕ). Each (λ y. is_look x y.0 ≡ true) looks → IsWithoutTrace s (alone_with [] (Request.Cancel x) answer (after_calls looks m)).state) same
      (from_start m (ap (λ (o : Outcome). o.state) outcome) sound (none_given s.last_trans s.owners h.given)) all
