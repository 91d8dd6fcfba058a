-- Accounts whose ledger agrees with its transactions and lists, and whose transactions stand in its frames.
use Rattle.std.proofs.Common.{◌≡◌, ◌≢◌, ◌∙◌, ◌+◌, ◌*◌, ◌<◌, ◌≤◌, ◌⊎◌, ℕ, Bool, List, [], None, Ok, Option, Some, false, inl, inr, length, sym, true, ap, refl, subst, arith, IfSome}
use Rattle.std.specs.Bool.{OnFalse, OnTrue}
use Rattle.std.specs.Prelude.{IfOk, Result, Err, is_none, is_some, option_map, ◌&&◌}
use Rattle.std.proofs.lemmas.Bool.{false≢true}
use Rattle.xt_base.proofs.MapLemmas.{some_same}
use Rattle.xt_base.proofs.RisingLemmas.{each_map, each_other, sum_put, sum_without, weight_at}
use Rattle.xt_base.proofs.ViewLemmas.{put_without}
use Rattle.xt_base.specs.Calls.{edited, invalidated}
use Rattle.xt_base.specs.Maps.{at, has, is_in, put, set_at, without}
use Rattle.xt_base.specs.Sound.{Each, IsRising}
use Rattle.xt_base.specs.Space.{charge, cost, granted, least_number, still_needed}
use Rattle.xt_base.specs.Jobs.{activated}
use Rattle.xt_base.specs.Legs.{clean_leg, is_dirty, with_marks}
use Rattle.xt_base.specs.State.{Flight, Frames, Leg, Transaction}
use Rattle.xt_base.specs.declared.steps.Errno.{Errno}
use Rattle.xt_base.specs.declared.steps.Owner.{Owner}
use Rattle.xt_frames.proofs.ContentLemmas.{brought_contents, length_committed, settled_contents}
use Rattle.xt_frames.proofs.EntryLemmas.{at_changed, each_unchanged, in_changed, put_changed, put_standing, rises_changed, rises_unchanged}
use Rattle.xt_frames.specs.Contents.{Bufs, brought_in, bufs_brought_in, contents_of}
use Rattle.xt_frames.specs.Kept.{Framed, clean_of}
use Rattle.xt_frames.specs.Settling.{bufs_settled_by, settled_by}
use Rattle.xt_items.proofs.MountLemmas.{without_blocks}
use Rattle.xt_items.specs.Lists.{Lists, flight_number, with_landed}
use Rattle.xt_journal.proofs.KeepLemmas.{lost_over}
use Rattle.xt_journal.proofs.OverLemmas.{changed_over, costs_over, dirty_over, each_within, granted_over, length_over, transactions_alike, with_marks_over}
use Rattle.xt_journal.specs.Journals.{JournalState, is_busy_beside}
use Rattle.xt_journal.specs.Keeping.{edits_kept, leg_lost, marks_kept}
use Rattle.xt_journal.specs.Over.{changes_over, leg_over, shown_over, trans_over, transactions_over}
use Rattle.xt_mount.proofs.ChargeLemmas.{edited_charge, invalidated_charge}
use Rattle.xt_mount.proofs.KeepLemmas.{put_back}
use Rattle.xt_mount.proofs.ShownLemmas.{AreSame, each_where, framed_put, framed_settled, same_put, same_settled, shown_changed, shown_closed}
use Rattle.xt_mount.specs.Accounts.{AccountsState, AreAlone, IsAlone, IsUnchanged, cleaned_in, kept_in, landed_in, lost_in, releg}
use Rattle.xt_mount.specs.Settling.{AreChangedBusy, is_busy_in}
use Rattle.xt_mount.specs.Shown.{AreInFrames, IsStep, IsStepAt}
use Rattle.xt_resv.proofs.MountLemmas.{still_is}
use Rattle.xt_resv.specs.Ledgers.{Grant, Ledger, flight_cost, grant_unless, still_counted}
use Rattle.xt_resv.specs.Mounts.{flight_of, grant_of, ledger}

-- what a transaction was granted
abbrev grant_in : ℕ × Transaction → ℕ
grant_in e = e.1.unit * e.1.legs

-- ---- one transaction of many
module _ (t : ℕ) (u : Transaction) (ts m : List (ℕ × Transaction)) (is : at t ts ≡ Some u) (out : m ≡ without t ts) where
  -- the grant without it
  pub granted_out : granted m + u.unit * u.legs ≡ granted ts
  granted_out = omega (arith, ap granted out, sum_without grant_in t ts, ap (weight_at grant_in t) is)

  -- its ticket has no more than the grant
  pub covered : (g : Grant) (whole : ℕ) → g ≡ grant_of u → whole ≡ granted ts → g.unit * g.legs ≤ whole
  covered g whole same balance = omega (arith, ap (λ (x : Grant). x.unit * x.legs) same, balance, granted_out)

  -- the grant with another in its place
  granted_in : (v : Transaction) (ns : List (ℕ × Transaction)) → IsRising ts → ns ≡ put t v m → granted ns + u.unit * u.legs ≡ granted ts + v.unit * v.legs
  granted_in v ns rises back =
      omega (arith, ap granted (back ∙ ap (put t v) out ∙ put_without 0 t v ts rises), sum_put grant_in 0 t v ts rises, ap (weight_at grant_in t) is)

  -- which has the same grant
  granted_same : (v : Transaction) (ns : List (ℕ × Transaction)) → IsRising ts → ns ≡ put t v m → (f : Leg) → v ≡ record u { leg = f } → granted ns ≡ granted ts
  granted_same v ns rises back f same = omega (arith, granted_in v ns rises back, ap (λ (x : Transaction). x.unit * x.legs) same)

-- the same where it was changed in its place
pub granted_lent : (t : ℕ) (u v : Transaction) (ts : List (ℕ × Transaction)) → at t ts ≡ Some u → IsRising ts → (f : Leg) → v ≡ record u { leg = f } → granted (put t v ts) ≡ granted ts
granted_lent t u v ts is rises f same = granted_same t u ts (without t ts) is refl v (put t v ts) rises (sym (put_without 0 t v ts rises)) f same

module _ (t : ℕ) (u : Transaction) (ts : List (ℕ × Transaction)) (is : at t ts ≡ Some u) where
  -- the grant with another in its place
  pub granted_changed : (v : Transaction) → IsRising ts → granted (put t v ts) + u.unit * u.legs ≡ granted ts + v.unit * v.legs
  granted_changed v rises = granted_in t u ts (without t ts) is refl v (put t v ts) rises (sym (put_without 0 t v ts rises))

  -- its ticket has no more than the grant
  pub covered_there : (whole : ℕ) → whole ≡ granted ts → u.unit * u.legs ≤ whole
  covered_there whole balance = covered t u ts (without t ts) is refl (grant_of u) whole refl balance

-- what follows for a result
pub ok_then : {X E : Type 0} (r : Result X E) (P Q : X → Type 0) → ((x : X) → P x → Q x) → IfOk r P → IfOk r Q
ok_then (Ok x) P Q follow h = follow x h
ok_then (Err e) P Q follow h = h

-- what is not there
none_is : {A : Type 0} (o : Option A) → is_some o ≡ false → o ≡ None
none_is None h = refl
none_is (Some a) h = absurd (false≢true (sym h))

-- one transaction more
pub granted_more : (t : ℕ) (v : Transaction) (ts ns : List (ℕ × Transaction)) → IsRising ts → is_in t ts ≡ false → ns ≡ put t v ts → granted ns ≡ granted ts + v.unit * v.legs
granted_more t v ts ns rises absent back = omega (arith, ap granted back, sum_put grant_in 0 t v ts rises, ap (weight_at grant_in t) (none_is (at t ts) absent))

-- another value in the place of one that is there
pub put_set : (t : ℕ) (u v : Transaction) (ts : List (ℕ × Transaction)) → IsRising ts → at t ts ≡ Some u → put t v ts ≡ set_at t v ts
put_set t u v ts rises is = sym (put_without 0 t v ts rises) ∙ put_back t u v ts rises is

-- ---- accounts
-- accounts by their parts
abbrev pub pages : ℕ → List (ℕ × Transaction) → List (ℕ × ℕ) → JournalState → AccountsState
pages b ts landed l = record { log_bytes = b; form = l.form; transactions = transactions_over l.frames.frames ts; items = with_landed landed l.lists; frames = contents_of l.frames; shut = l.shut }

-- ---- what accounts show
module _ (p : AccountsState) (b : ℕ) (ts : List (ℕ × Transaction)) (landed : List (ℕ × ℕ)) (l : JournalState) (view : pages b ts landed l ≡ p) where
  abbrev now : AccountsState
  now = pages b ts landed l

  abbrev over : ℕ → Transaction → Transaction
  over t u = trans_over l.frames.frames u

  -- their transactions rise
  pub rises_in : IsRising p.transactions → IsRising ts
  rises_in rises = rises_unchanged over 0 ts (subst (λ (x : AccountsState). IsRising x.transactions) (sym view) rises)

  -- a block that no other transaction changed
  pub alone_in : (t k : ℕ) → IsAlone t k p.transactions → Each (λ e. (e.0 ≡ t) ⊎ (is_in k e.1.leg.changes ≡ false)) ts
  alone_in t k alone =
      each_map (λ e. (e.0 ≡ t) ⊎ (is_in k (leg_over l.frames.frames e.1.leg).changes ≡ false)) (λ e. (e.0 ≡ t) ⊎ (is_in k e.1.leg.changes ≡ false)) ts
      (λ e h.
      elim h [
        | inl same ↦ inl same
        | inr out ↦ inr (sym (changed_over l.frames.frames k e.1.leg) ∙ out)
      ])
      (each_within over (λ e. (e.0 ≡ t) ⊎ (is_in k e.1.leg.changes ≡ false)) ts (subst (λ (x : AccountsState). IsAlone t k x.transactions) (sym view) alone))

  -- one that nobody changed
  pub unchanged_in : (k : ℕ) → IsUnchanged k p.transactions → Each (λ e. is_in k e.1.leg.changes ≡ false) ts
  unchanged_in k unchanged =
      each_map (λ e. is_in k (leg_over l.frames.frames e.1.leg).changes ≡ false) (λ e. is_in k e.1.leg.changes ≡ false) ts
      (λ e out. sym (changed_over l.frames.frames k e.1.leg) ∙ out)
      (each_within over (λ e. is_in k e.1.leg.changes ≡ false) ts (subst (λ (x : AccountsState). IsUnchanged k x.transactions) (sym view) unchanged))

  -- changed blocks are busy
  pub busy_in : (busy : AccountsState → ℕ → Bool) → AreChangedBusy (busy p) p.transactions → Each (λ e. Each (λ c. busy now c.0 ≡ true) e.1.leg.changes) ts
  busy_in busy changed =
      each_map (λ e. Each (λ c. busy now c.0 ≡ true) (leg_over l.frames.frames e.1.leg).changes) (λ e. Each (λ c. busy now c.0 ≡ true) e.1.leg.changes) ts
      (λ e all. each_unchanged (shown_over l.frames.frames) (λ k. busy now k ≡ true) e.1.leg.changes all)
      (each_within over (λ e. Each (λ c. busy now c.0 ≡ true) e.1.leg.changes) ts (subst (λ (x : AccountsState). AreChangedBusy (busy x) x.transactions) (sym view) changed))

  -- which are open
  pub open_in : (t : ℕ) → is_in t ts ≡ is_in t p.transactions
  open_in t = sym (in_changed over t ts) ∙ ap (λ (x : AccountsState). is_in t x.transactions) view

  pub at_in : (t : ℕ) → option_map (trans_over l.frames.frames) (at t ts) ≡ at t p.transactions
  at_in t = sym (at_changed over t ts) ∙ ap (λ (x : AccountsState). at t x.transactions) view

  -- ---- one of their transactions
  module _ (t : ℕ) (u : Transaction) (is : at t ts ≡ Some u) where
    shown_at : at t now.transactions ≡ Some (over t u)
    shown_at = at_changed over t ts ∙ ap (option_map (over t)) is

    -- a fact of it
    pub shown_fact : (P : AccountsState → Transaction → Type 0) → IfSome (at t p.transactions) (P p) → P now (over t u)
    shown_fact P h = subst (λ o. IfSome o (P now)) shown_at (subst (λ (x : AccountsState). IfSome (at t x.transactions) (P x)) (sym view) h)

    pub shown_if : (P : AccountsState → Transaction → Type 0) → P now (over t u) → IfSome (at t p.transactions) (P p)
    shown_if P h = subst (λ (x : AccountsState). IfSome (at t x.transactions) (P x)) view (subst (λ o. IfSome o (P now)) (sym shown_at) h)

    -- there is room for one more change
    pub few_in : (k : ℕ) → IfSome (at t p.transactions) (λ x. is_in k x.leg.changes ≡ false → length x.leg.changes + length x.leg.holds < 128)
        → is_in k u.leg.changes ≡ false → length u.leg.changes + length u.leg.holds < 128
    few_in k few out =
        subst (λ n. n + length u.leg.holds < 128) (length_over l.frames.frames u.leg.changes)
        (shown_fact (λ a x. is_in k x.leg.changes ≡ false → length x.leg.changes + length x.leg.holds < 128) few (changed_over l.frames.frames k u.leg ∙ out))

    -- and for one more hold mark
    pub held_in : (k : ℕ) → IfSome (at t p.transactions) (λ x. has x.leg.holds k ≡ false → length x.leg.changes + length x.leg.holds < 128)
        → has u.leg.holds k ≡ false → length u.leg.changes + length u.leg.holds < 128
    held_in k few free =
        subst (λ n. n + length u.leg.holds < 128) (length_over l.frames.frames u.leg.changes)
        (shown_fact (λ a x. has x.leg.holds k ≡ false → length x.leg.changes + length x.leg.holds < 128) few free)

    -- for what its leg changed
    pub contents_in : IfSome (at t p.transactions) (λ x. length p.frames.committed + length x.leg.changes ≤ 128) → length l.frames.frames + length u.leg.changes ≤ 128
    contents_in room =
        omega (arith, shown_fact (λ a x. length a.frames.committed + length x.leg.changes ≤ 128) room, length_over l.frames.frames u.leg.changes, length_committed l.frames.frames)

    pub listed_in : IfSome (at t p.transactions) (λ x. length p.items.cil + length x.leg.changes ≤ 128) → length l.lists.cil + length u.leg.changes ≤ 128
    listed_in room = omega (arith, shown_fact (λ a x. length a.items.cil + length x.leg.changes ≤ 128) room, length_over l.frames.frames u.leg.changes)

    pub fresh_in : IfSome (at t p.transactions) (λ x. length p.frames.fresh + length x.leg.changes ≤ 128) → length l.frames.fresh + length u.leg.changes ≤ 128
    fresh_in room = omega (arith, shown_fact (λ a x. length a.frames.fresh + length x.leg.changes ≤ 128) room, length_over l.frames.frames u.leg.changes)

    -- what it did is given up on a shut mount alone
    pub lost_in_shut : IfSome (at t p.transactions) (λ x. (is_dirty x.leg && is_none p.shut) ≡ false) → (is_dirty u.leg && is_none l.shut) ≡ false
    lost_in_shut kept = sym (ap (λ d. d && is_none l.shut) (dirty_over l.frames.frames u.leg)) ∙ shown_fact (λ a x. (is_dirty x.leg && is_none a.shut) ≡ false) kept

    -- what its commit costs is paid
    pub paid_in : (f : Transaction → ℕ) → ((x : Leg) → f (record u { leg = x }) ≡ f u) → IfSome (at t p.transactions) (λ x. cost p.form.ends (with_marks x.leg.changes p.items.cil) ≤ cost p.form.ends p.items.cil + f x)
        → cost l.form.ends (with_marks u.leg.changes l.lists.cil) ≤ cost l.form.ends l.lists.cil + f u
    paid_in f same paid =
        omega (
          arith,
          shown_fact (λ a x. cost a.form.ends (with_marks x.leg.changes a.items.cil) ≤ cost a.form.ends a.items.cil + f x) paid,
          ap (cost l.form.ends) (with_marks_over l.frames.frames u.leg.changes l.lists.cil),
          same (leg_over l.frames.frames u.leg),
        )

    -- one more change fits
    pub logged_in : (k : ℕ) (marked : List ℕ) → IfSome (at t p.transactions) (λ x. charge p.form.ends (edited k [] marked x.leg).changes ≤ x.unit) → charge l.form.ends (edited k [] marked u.leg).changes ≤ u.unit
    logged_in k marked fits =
        subst (λ n. n ≤ u.unit) (edited_charge l.frames.frames l.form.ends k marked u.leg) (shown_fact (λ a x. charge a.form.ends (edited k [] marked x.leg).changes ≤ x.unit) fits)

    pub stale_in : (k : ℕ) → IfSome (at t p.transactions) (λ x. charge p.form.ends (invalidated k x.leg).changes ≤ x.unit) → charge l.form.ends (invalidated k u.leg).changes ≤ u.unit
    stale_in k fits =
        subst (λ n. n ≤ u.unit) (invalidated_charge l.frames.frames l.form.ends k u.leg) (shown_fact (λ a x. charge a.form.ends (invalidated k x.leg).changes ≤ x.unit) fits)

    -- what no other transaction changed of what it did
    pub alone_each : IfSome (at t p.transactions) (λ x. AreAlone t x.leg.changes p.transactions)
        → Each (λ e. (k : ℕ) → is_in k u.leg.changes ≡ true → (e.0 ≡ t) ⊎ (is_in k e.1.leg.changes ≡ false)) ts
    alone_each alone =
        each_where (λ k. is_in k u.leg.changes) (λ k e. (e.0 ≡ t) ⊎ (is_in k e.1.leg.changes ≡ false)) ts
        (λ k there. alone_in t k (subst (λ (x : AccountsState). IsAlone t k x.transactions) view (shown_fact (λ a x. AreAlone t x.leg.changes a.transactions) alone k (changed_over l.frames.frames k u.leg ∙ there))))

-- ---- a step of a leg
-- the other transactions show the same
pub same_step : (n f : List (ℕ × Framed)) (t k : ℕ) (after before : Leg) (ts : List (ℕ × Transaction)) → IsRising ts → IsStepAt k n f after before → Each (λ e. (e.0 ≡ t) ⊎ (is_in k e.1.leg.changes ≡ false)) ts
    → AreSame n f (without t ts)
same_step n f t k after before ts rises step alone =
    each_map (λ e. ((e.0 ≡ t) ⊎ (is_in k e.1.leg.changes ≡ false)) × (e.0 ≢ t)) (λ e. (q : ℕ) → is_in q e.1.leg.changes ≡ true → at q n ≡ at q f) (without t ts)
    (λ e both q there. step.others q (λ same.
    elim both.0 [
      | inl own ↦ both.1 own
      | inr out ↦ absurd (false≢true (sym out ∙ ap (λ x. is_in x e.1.leg.changes) (sym same) ∙ there))
    ]))
    (each_other (λ e. (e.0 ≡ t) ⊎ (is_in k e.1.leg.changes ≡ false)) 0 t ts rises alone)

-- a transaction of accounts has another leg, which it shows so
module _ (p : AccountsState) (b : ℕ) (ts : List (ℕ × Transaction)) (landed : List (ℕ × ℕ)) (l : JournalState) (view : pages b ts landed l ≡ p) (t : ℕ) (u v : Transaction) (is : at t ts ≡ Some u) (rises : IsRising p.transactions) where
  -- over frames that changed for it
  module _ (k : ℕ) (m : JournalState) (alone : IsAlone t k p.transactions) where
    moved : (leg : Leg) → IsStep k leg m l v u → pages b (put t v ts) landed m ≡ record (pages b ts landed l) { transactions = put t (record (trans_over l.frames.frames u) { leg = leg }) (transactions_over l.frames.frames ts) }
    moved leg step =
        let low = rises_in p b ts landed l view rises in
        let same : AreSame m.frames.frames l.frames.frames (without t ts) = same_step m.frames.frames l.frames.frames t k v.leg u.leg ts low step.step (alone_in p b ts landed l view t k alone) in
        let shown : List (ℕ × Transaction) = transactions_over m.frames.frames (put t v ts) in
        ap (λ (x : JournalState). record { log_bytes = b; form = x.form; transactions = shown; items = with_landed landed x.lists; frames = contents_of m.frames; shut = x.shut }) step.rest
        ∙ ap (λ (f : Frames). record (pages b ts landed l) { transactions = shown; frames = f }) step.contents
        ∙ ap (λ (xs : List (ℕ × Transaction)). record (pages b ts landed l) { transactions = xs }) (shown_changed m.frames.frames l.frames.frames t ts low same v)
        ∙ ap (λ (x : Transaction). record (pages b ts landed l) { transactions = put t (record x { leg = leg_over m.frames.frames v.leg }) (transactions_over l.frames.frames ts) }) step.grant
        ∙ ap (λ (x : Leg). record (pages b ts landed l) { transactions = put t (record u { leg = x }) (transactions_over l.frames.frames ts) }) step.shown

    pub stepped : (f : AccountsState → Leg → Leg) → IsStep k (f (pages b ts landed l) (leg_over l.frames.frames u.leg)) m l v u → IfSome (at t p.transactions) (λ x. pages b (put t v ts) landed m ≡ releg t x (f p x.leg) p)
    stepped f step =
        shown_if p b ts landed l view t u is (λ a x. pages b (put t v ts) landed m ≡ releg t x (f a x.leg) a)
        (moved (f (pages b ts landed l) (leg_over l.frames.frames u.leg)) step
        ∙ ap (λ (xs : List (ℕ × Transaction)). record (pages b ts landed l) { transactions = xs })
        (put_set t (trans_over l.frames.frames u) (record (trans_over l.frames.frames u) { leg = f (pages b ts landed l) (leg_over l.frames.frames u.leg) }) (transactions_over l.frames.frames ts)
        (rises_changed (λ s x. trans_over l.frames.frames x) 0 ts (rises_in p b ts landed l view rises)) (shown_at p b ts landed l view t u is)))

    -- the invariant of what is granted, and of what stands in frames
    pub step_granted : (leg : Leg) → IsStep k leg m l v u → granted (put t v ts) ≡ granted ts
    step_granted leg step = granted_lent t u v ts is (rises_in p b ts landed l view rises) v.leg step.grant

  -- over the same frames, with the same changes
  pub held_lent : (f : Leg → Leg) → v ≡ record u { leg = f u.leg } → leg_over l.frames.frames (f u.leg) ≡ f (leg_over l.frames.frames u.leg) → IfSome (at t p.transactions) (λ x. pages b (put t v ts) landed l ≡ releg t x (f x.leg) p)
  held_lent f changed shown =
      shown_if p b ts landed l view t u is (λ a x. pages b (put t v ts) landed l ≡ releg t x (f x.leg) a)
      (ap (λ (xs : List (ℕ × Transaction)). record (pages b ts landed l) { transactions = xs })
      (put_changed (λ s x. trans_over l.frames.frames x) t v ts
      ∙ ap (λ (x : Transaction). put t (trans_over l.frames.frames x) (transactions_over l.frames.frames ts)) changed
      ∙ ap (λ (x : Leg). put t (record u { leg = x }) (transactions_over l.frames.frames ts)) shown
      ∙ put_set t (trans_over l.frames.frames u) (record (trans_over l.frames.frames u) { leg = f (leg_over l.frames.frames u.leg) }) (transactions_over l.frames.frames ts)
      (rises_changed (λ s x. trans_over l.frames.frames x) 0 ts (rises_in p b ts landed l view rises)) (shown_at p b ts landed l view t u is)))

-- nothing changed
pub stayed : (p : AccountsState) (b : ℕ) (ts : List (ℕ × Transaction)) (landed : List (ℕ × ℕ)) (l m : JournalState) → pages b ts landed l ≡ p → (t : ℕ) (u v : Transaction) → at t ts ≡ Some u → IsRising ts → v ≡ u → m ≡ l
    → pages b (put t v ts) landed m ≡ p
stayed p b ts landed l m view t u v is rises trans journal =
    ap (pages b (put t v ts) landed) journal ∙ ap (λ x. pages b (put t x ts) landed l) trans ∙ ap (λ xs. pages b xs landed l) (put_standing 0 t u ts rises is) ∙ view

pub standing : (t : ℕ) (u v : Transaction) (ts : List (ℕ × Transaction)) → at t ts ≡ Some u → IsRising ts → v ≡ u → put t v ts ≡ ts
standing t u v ts is rises trans = ap (λ x. put t x ts) trans ∙ put_standing 0 t u ts rises is

-- ---- the ledger, by what is shown
pub space_is : (s : Ledger) (l : JournalState) (ts : List (ℕ × Transaction)) → s.granted ≡ granted ts → s.cil ≡ cost l.form.ends l.lists.cil → s.flight ≡ flight_of l.form.ends l.lists.flight
    → s ≡ ledger l.form.ends s.size (transactions_over l.frames.frames ts) (with_landed s.landed l.lists)
space_is s l ts given listed flies =
    let whole : ℕ = granted (transactions_over l.frames.frames ts) in
    ap (λ n. record s { granted = n }) (given ∙ sym (granted_over l.frames.frames ts))
    ∙ ap (λ n. record s { granted = whole; cil = n }) listed
    ∙ ap (λ (o : Option ℕ). record s { granted = whole; cil = cost l.form.ends l.lists.cil; flight = o }) flies

pub grant_over : (f : List (ℕ × Framed)) (u : Transaction) → grant_of (trans_over f u) ≡ grant_of u
grant_over f u = ap (λ n. record { unit = u.unit; legs = u.legs; perm = u.perm; charged = n }) (costs_over f u.leg.changes)

-- ---- the end of a leg
-- the journal after it, as its parts
module _ (p : AccountsState) (b : ℕ) (ts : List (ℕ × Transaction)) (landed : List (ℕ × ℕ)) (l : JournalState) (view : pages b ts landed l ≡ p) (t : ℕ) (u : Transaction) (is : at t ts ≡ Some u) (rises : IsRising ts)
    (m : JournalState) (same : AreSame m.frames.frames l.frames.frames (without t ts)) (shown : AccountsState → AccountsState) (parts : (xs : List (ℕ × Transaction)) → record (pages b xs landed m) { transactions = xs } ≡ shown (record (pages b ts landed l) { transactions = xs })) where
  -- its transaction is closed
  pub closed_there : pages b (without t ts) landed m ≡ shown (record (pages b ts landed l) { transactions = without t (transactions_over l.frames.frames ts) })
  closed_there =
      ap (λ (xs : List (ℕ × Transaction)). record (pages b ts landed m) { transactions = xs }) (shown_closed m.frames.frames l.frames.frames t ts rises same)
      ∙ parts (without t (transactions_over l.frames.frames ts))

  -- it has a leg that did nothing, and so many legs left
  pub next_there : (v : Transaction) (legs : ℕ) → v ≡ record u { legs = legs; leg = clean_leg }
      → pages b (put t v ts) landed m ≡ shown (record (pages b ts landed l) { transactions = set_at t (record (trans_over l.frames.frames u) { legs = legs; leg = clean_leg }) (transactions_over l.frames.frames ts) })
  next_there v legs changed =
      ap (λ (xs : List (ℕ × Transaction)). record (pages b ts landed m) { transactions = xs })
      (shown_changed m.frames.frames l.frames.frames t ts rises same v
      ∙ ap (λ (x : Transaction). put t (trans_over m.frames.frames x) (transactions_over l.frames.frames ts)) changed
      ∙ put_set t (trans_over l.frames.frames u) (record (trans_over l.frames.frames u) { legs = legs; leg = clean_leg }) (transactions_over l.frames.frames ts)
      (rises_changed (λ s x. trans_over l.frames.frames x) 0 ts rises) (shown_at p b ts landed l view t u is))
      ∙ parts (set_at t (record (trans_over l.frames.frames u) { legs = legs; leg = clean_leg }) (transactions_over l.frames.frames ts))

-- what was committed, whatever transactions are open
pub kept_parts : (b : ℕ) (ts : List (ℕ × Transaction)) (landed : List (ℕ × ℕ)) (l m : JournalState) (u : Transaction) → m.lists ≡ marks_kept (changes_over l.frames.frames u.leg.changes) l.lists
    → contents_of m.frames ≡ edits_kept (changes_over l.frames.frames u.leg.changes) (contents_of l.frames) → m ≡ record l { lists = m.lists; frames = m.frames }
    → (xs : List (ℕ × Transaction)) → record (pages b xs landed m) { transactions = xs } ≡ kept_in (trans_over l.frames.frames u) (record (pages b ts landed l) { transactions = xs })
kept_parts b ts landed l m u lists contents rest xs =
    ap (λ (x : JournalState). record { log_bytes = b; form = x.form; transactions = xs; items = with_landed landed x.lists; frames = contents_of m.frames; shut = x.shut }) rest
    ∙ ap (λ (y : Lists). record { log_bytes = b; form = l.form; transactions = xs; items = with_landed landed y; frames = contents_of m.frames; shut = l.shut }) lists
    ∙ ap (λ (f : Frames). record { log_bytes = b; form = l.form; transactions = xs; items = with_landed landed (marks_kept (changes_over l.frames.frames u.leg.changes) l.lists); frames = f; shut = l.shut }) contents

-- what was given up
pub lost_parts : (b : ℕ) (ts : List (ℕ × Transaction)) (landed : List (ℕ × ℕ)) (l m : JournalState) (u : Transaction) → contents_of m.frames ≡ leg_lost u.leg (contents_of l.frames)
    → m ≡ record l { frames = m.frames } → (xs : List (ℕ × Transaction)) → record (pages b xs landed m) { transactions = xs } ≡ lost_in (trans_over l.frames.frames u) (record (pages b ts landed l) { transactions = xs })
lost_parts b ts landed l m u contents rest xs =
    ap (λ (x : JournalState). record { log_bytes = b; form = x.form; transactions = xs; items = with_landed landed x.lists; frames = contents_of m.frames; shut = x.shut }) rest
    ∙ ap (λ (f : Frames). record (pages b ts landed l) { transactions = xs; frames = f }) (contents ∙ sym (lost_over l.frames.frames u.leg (contents_of l.frames)))

-- ---- where a result says which of two came
pub on_true : {P Q : Type 0} (b : Bool) → (P → Q) → OnTrue b P → OnTrue b Q
on_true true f p = f p
on_true false f p = tt

pub on_false : {P Q : Type 0} (b : Bool) → (P → Q) → OnFalse b P → OnFalse b Q
on_false true f p = tt
on_false false f p = f p

-- ---- blocks come and go
-- a block that nobody changed became busy
brought_same : (f : Bufs) (ts : List (ℕ × Transaction)) (k : ℕ) (o : Option (List ℕ)) → Each (λ e. is_in k e.1.leg.changes ≡ false) ts → AreSame (bufs_brought_in k o f).frames f.frames ts
brought_same f ts k None unchanged = each_map (λ e. is_in k e.1.leg.changes ≡ false) (λ e. (q : ℕ) → is_in q e.1.leg.changes ≡ true → at q f.frames ≡ at q f.frames) ts (λ e out q there. refl) unchanged
brought_same f ts k (Some content) unchanged = same_put f.frames ts k unchanged (clean_of content)

brought_framed : (f : Bufs) (ts : List (ℕ × Transaction)) (k : ℕ) (o : Option (List ℕ)) → Each (λ e. is_in k e.1.leg.changes ≡ false) ts → AreInFrames f.frames ts → AreInFrames (bufs_brought_in k o f).frames ts
brought_framed f ts k None unchanged are = are
brought_framed f ts k (Some content) unchanged are = framed_put f.frames ts k unchanged (clean_of content) refl are

module _ (p : AccountsState) (b : ℕ) (ts : List (ℕ × Transaction)) (landed : List (ℕ × ℕ)) (l m : JournalState) (view : pages b ts landed l ≡ p) where
  module _ (k : ℕ) (unchanged : IsUnchanged k p.transactions) (come : m ≡ record l { frames = bufs_brought_in k (at k l.frames.idle) l.frames }) where
    pub brought_pages : pages b ts landed m ≡ record p { frames = brought_in k (at k p.frames.idle) p.frames }
    brought_pages =
        let after : Bufs = bufs_brought_in k (at k l.frames.idle) l.frames in
        ap (pages b ts landed) come
        ∙ ap (λ (xs : List (ℕ × Transaction)). record (pages b ts landed l) { transactions = xs; frames = contents_of after })
        (transactions_alike after.frames l.frames.frames ts (brought_same l.frames ts k (at k l.frames.idle) (unchanged_in p b ts landed l view k unchanged)))
        ∙ ap (λ (f : Frames). record (pages b ts landed l) { frames = f }) (brought_contents k (at k l.frames.idle) l.frames)
        ∙ ap (λ (a : AccountsState). record a { frames = brought_in k (at k a.frames.idle) a.frames }) view

    pub brought_are : AreInFrames l.frames.frames ts → AreInFrames m.frames.frames ts
    brought_are are =
        subst (λ (x : JournalState). AreInFrames x.frames.frames ts) (sym come) (brought_framed l.frames ts k (at k l.frames.idle) (unchanged_in p b ts landed l view k unchanged) are)

  module _ (k : ℕ) (content : List ℕ) (unchanged : IsUnchanged k p.transactions) (come : m ≡ record l { frames = record l.frames { frames = put k (clean_of content) l.frames.frames; idle = without k l.frames.idle } }) where
    pub given_pages : pages b ts landed m ≡ record p { frames = record p.frames { committed = put k content p.frames.committed; idle = without k p.frames.idle } }
    given_pages =
        let after : Bufs = bufs_brought_in k (Some content) l.frames in
        ap (pages b ts landed) come
        ∙ ap (λ (xs : List (ℕ × Transaction)). record (pages b ts landed l) { transactions = xs; frames = contents_of after })
        (transactions_alike after.frames l.frames.frames ts (brought_same l.frames ts k (Some content) (unchanged_in p b ts landed l view k unchanged)))
        ∙ ap (λ (f : Frames). record (pages b ts landed l) { frames = f }) (brought_contents k (Some content) l.frames)
        ∙ ap (λ (a : AccountsState). record a { frames = brought_in k (Some content) a.frames }) view

    pub given_are : AreInFrames l.frames.frames ts → AreInFrames m.frames.frames ts
    given_are are =
        subst (λ (x : JournalState). AreInFrames x.frames.frames ts) (sym come) (brought_framed l.frames ts k (Some content) (unchanged_in p b ts landed l view k unchanged) are)

  -- blocks that are not busy any more left
  module _ (owners : List (ℕ × Owner)) (changed : AreChangedBusy (is_busy_in owners p.items) p.transactions)
      (left : m ≡ record l { frames = bufs_settled_by (is_busy_beside owners l.lists) (is_none l.shut) l.frames }) where
    abbrev stays : ℕ → Bool
    stays = is_busy_beside owners l.lists

    stay_in : Each (λ e. Each (λ c. stays c.0 ≡ true) e.1.leg.changes) ts
    stay_in = busy_in p b ts landed l view (λ a. is_busy_in owners a.items) changed

    pub settled_pages : pages b ts landed m ≡ record p { frames = settled_by (is_busy_in owners p.items) (is_none p.shut) p.frames }
    settled_pages =
        let after : Bufs = bufs_settled_by stays (is_none l.shut) l.frames in
        ap (pages b ts landed) left
        ∙ ap (λ (xs : List (ℕ × Transaction)). record (pages b ts landed l) { transactions = xs; frames = contents_of after })
        (transactions_alike after.frames l.frames.frames ts (same_settled l.frames.frames ts stays stay_in))
        ∙ ap (λ (f : Frames). record (pages b ts landed l) { frames = f }) (settled_contents stays (is_none l.shut) l.frames)
        ∙ ap (λ (a : AccountsState). record a { frames = settled_by (is_busy_in owners a.items) (is_none a.shut) a.frames }) view

    pub settled_are : AreInFrames l.frames.frames ts → AreInFrames m.frames.frames ts
    settled_are are = subst (λ (x : JournalState). AreInFrames x.frames.frames ts) (sym left) (framed_settled l.frames.frames ts stays stay_in are)

-- a grant that was not refused
pub grant_is : (o : Option Errno) (t g : Grant) → Ok t ≡ grant_unless o g → t ≡ g
grant_is None t g h = cc
grant_is (Some e) t g h = absurd (cc)

-- ---- a landing
module _ (ts : List (ℕ × Transaction)) (l m : JournalState) (number : ℕ) (before after : Ledger) (least : Option ℕ)
    (ledger : after ≡ record before { flight = None; landed = still_counted least (put number (flight_cost before.flight) before.landed) }) (first : least ≡ least_number m.lists.ail) where
  -- the accounts before it
  abbrev old_pages : AccountsState
  old_pages = pages before.size ts before.landed l

  landed_by : (o : Option Flight) → flight_number o ≡ Some number → before.flight ≡ flight_of l.form.ends o
      → IfSome o (λ f. m ≡ record l { lists = record l.lists { flight = None; ail = activated f.number f.items l.lists.ail } })
      → IfSome o (λ f. pages after.size ts after.landed m ≡ landed_in f old_pages)
  landed_by None flying price lists = tt
  landed_by (Some f) flying price lists =
      let given : ℕ → List (ℕ × ℕ) → JournalState → AccountsState = λ b xs n. pages b ts xs n in
      let counted : List (ℕ × ℕ) → JournalState → List (ℕ × ℕ) = λ xs n. still_needed n.lists.ail xs in
      let costs : List (ℕ × ℕ) = put f.number (cost l.form.ends f.items) before.landed in
      ap (λ (x : Ledger). given x.size x.landed m) ledger
      ∙ ap (λ o. given before.size (still_counted o (put number (flight_cost before.flight) before.landed)) m) first
      ∙ ap (λ xs. given before.size xs m) (sym (still_is m.lists.ail (put number (flight_cost before.flight) before.landed)))
      ∙ ap (λ k. given before.size (counted (put k (flight_cost before.flight) before.landed) m) m) (sym (some_same f.number number flying))
      ∙ ap (λ o. given before.size (counted (put f.number (flight_cost o) before.landed) m) m) price
      ∙ ap (λ (n : JournalState). given before.size (counted costs n) n) lists

  pub landed_pages : (p : AccountsState) → old_pages ≡ p → flight_number l.lists.flight ≡ Some number → before.flight ≡ flight_of l.form.ends l.lists.flight
      → IfSome l.lists.flight (λ f. m ≡ record l { lists = record l.lists { flight = None; ail = activated f.number f.items l.lists.ail } })
      → IfSome p.items.flight (λ f. pages after.size ts after.landed m ≡ landed_in f p)
  landed_pages p view flying price lists = subst (λ (x : AccountsState). IfSome x.items.flight (λ f. pages after.size ts after.landed m ≡ landed_in f x)) view (landed_by l.lists.flight flying price lists)

-- ---- a flush
-- blocks were written home
module _ (ts : List (ℕ × Transaction)) (blocks : List ℕ) (l m : JournalState) (before after : Ledger) (least : Option ℕ) where
  pub cleaned_pages : (p : AccountsState) → pages before.size ts before.landed l ≡ p → m ≡ record l { lists = without_blocks blocks l.lists } → after ≡ record before { landed = still_counted least before.landed }
      → least ≡ least_number m.lists.ail → pages after.size ts after.landed m ≡ cleaned_in blocks p
  cleaned_pages p view lists ledger first =
      ap (λ (x : Ledger). pages x.size ts x.landed m) ledger
      ∙ ap (λ o. pages before.size ts (still_counted o before.landed) m) first
      ∙ ap (λ xs. pages before.size ts xs m) (sym (still_is m.lists.ail before.landed))
      ∙ ap (λ (n : JournalState). pages before.size ts (still_needed n.lists.ail before.landed) n) lists
      ∙ ap (cleaned_in blocks) view
