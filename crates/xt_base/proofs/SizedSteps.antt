-- Each call, answered a content of the mount's size or none, and each job keeps the contents of a mount at its size, and marks within them.
use Rattle.std.proofs.Common.{◌≡◌, ◌*◌, ◌+◌, ◌++◌, ◌≤◌, ◌∷◌, Bool, List, None, Option, Some, [], arith, false, length, refl, subst, sym, true, ℕ}
use Rattle.std.proofs.lemmas.Bool.{eqb-true, ltb-false, or_parts}
use Rattle.std.proofs.lemmas.List.{reverse-append}
use Rattle.std.specs.Prelude.{filter, if◌then◌else◌, is_none, is_some, nat_lt, not, reverse, ◌&&◌, ◌/◌, ◌==◌, ◌||◌}
use Rattle.xt_base.proofs.DeviceLemmas.{each_take}
use Rattle.xt_base.proofs.RisingLemmas.{each_at, each_filter, each_put, each_set_at, each_without}
use Rattle.xt_base.proofs.SizedLemmas.{change_sized, marks_within, overwritten_sized, seen_sized, union_within, with_edits_sized, with_marks_within}
use Rattle.xt_base.proofs.SoundSteps.{passes_first}
use Rattle.xt_base.specs.Calls.{Outcome, alloc, alloc_refusals, allocated, alone_with, answered, brought, busied, cancel, closed, commit, edited, first_of, force_to_refusals, freeze_refusals, get_refusals, gives, hold, inval, inval_refusals, invalidated, is_absent, is_flight, is_fresh, is_held, is_in_use, is_no_room, is_own, join_refusals, legs_after, locked, log, log_refusals, logged_leg, new_trans, not_fresh, overwritten, read, read_refusals, released, roll, seen, shut_down, shut_if, unhold, unless, unowned, with_leg, with_legs, with_owner, with_trans, without_hold}
use Rattle.xt_base.specs.Chunks.{marks, union}
use Rattle.xt_base.specs.Form.{Form, IsForm}
use Rattle.xt_base.specs.Jobs.{begin, begun, cleaned, end, end_of, failed, finished, flush, flush_plan, flushed, gone, is_ok, landed, landed_items, next_pieces, posted, renewed, waits_on}
use Rattle.xt_base.specs.Legs.{aborted, change_of, ended, is_dirty, is_stale, own_count}
use Rattle.xt_base.specs.Maps.{at, has, is_in, with_member}
use Rattle.xt_base.specs.Order.{has_size}
use Rattle.xt_base.specs.Settle.{Dropped, leaving, rested, settled}
use Rattle.xt_base.specs.Sized.{AreSizedChanges, HaveSize, IsSized, IsSizedChange}
use Rattle.xt_base.specs.Sound.{Each}
use Rattle.xt_base.specs.Space.{charge, is_busy, used}
use Rattle.xt_base.specs.State.{Flight, Leg, State, Transaction, mount_of}
use Rattle.xt_base.specs.declared.names.JobKind.{JobKind}
use Rattle.xt_base.specs.declared.steps.Answer.{Answer}
use Rattle.xt_base.specs.declared.steps.Errno.{Errno}
use Rattle.xt_base.specs.declared.steps.Errno.TheVariants.{Invalid, NoSpace}
use Rattle.xt_base.specs.declared.steps.HomeAnswers.{HomeAnswers}
use Rattle.xt_base.specs.declared.steps.LogAnswers.{LogAnswers}
use Rattle.xt_base.specs.declared.steps.Owner.TheVariants.{Trans}
use Rattle.xt_base.specs.declared.steps.Reason.{Reason}
use Rattle.xt_base.specs.declared.steps.Reason.TheVariants.{CorruptIncore, LogIoError}
use Rattle.xt_base.specs.declared.steps.Reply.TheVariants.{Okay}
use Rattle.xt_base.specs.declared.steps.Request.{Request}

-- ---- lists
module _ {A : Type 0} (P : A → Type 0) where
  each_append : (xs ys : List A) → Each P xs → Each P ys → Each P (xs ++ ys)
  each_append [] ys p q = q
  each_append (x ∷ xs) ys p q = (p.0, each_append xs ys p.1 q)

  each_reverse : (xs : List A) → Each P xs → Each P (reverse xs)
  each_reverse [] all = tt
  each_reverse (x ∷ xs) all = subst (Each P) (sym (reverse-append (x ∷ []) xs)) (each_append (reverse xs) (x ∷ []) (each_reverse xs all.1) (all.0, tt))

-- ---- outcomes
-- one outcome or the other
either : (b : Bool) (x y : Outcome) → IsSized x.state → IsSized y.state → IsSized (if b then x else y).state
either true x y hx hy = hx
either false x y hx hy = hy

-- refused and unchanged, or else what is done
or_else : (r : Option Errno) (s : State) (o : Outcome) → IsSized s → (None ≡ r → IsSized o.state) → IsSized (unless r s o).state
or_else None s o h passes = passes refl
or_else (Some e) s o h passes = h

with_some : (o : Option Transaction) (s : State) (f : Transaction → Outcome) → IsSized s → ((trans : Transaction) → o ≡ Some trans → IsSized (f trans).state) → IsSized (with_trans o s f).state
with_some None s f h each = h
with_some (Some trans) s f h each = each trans refl

-- what needs an open transaction
with_open : (t : ℕ) (s : State) (f : Transaction → Outcome) → IsSized s → ((trans : Transaction) → at t s.transactions ≡ Some trans → IsSized (f trans).state) → IsSized (with_trans (at t s.transactions) s f).state
with_open t s f h each = with_some (at t s.transactions) s f h each

-- ---- small changes of a state
idle_sized : (live : Bool) (dropped : Dropped) (s : State) → IsSized s → HaveSize s.form.size (if live then rested (leaving dropped s) s.frames.idle else s.frames.idle)
idle_sized true dropped s h =
    let P : ℕ × List ℕ → Type 0 = λ e. length e.1 ≡ s.form.size in
    let left = each_filter P (λ e. not (is_busy s e.0) && not (has dropped e.0)) s.frames.committed h.committed in
    each_take P 64 (reverse (leaving dropped s) ++ s.frames.idle) (each_append P (reverse (leaving dropped s)) s.frames.idle (each_reverse P (leaving dropped s) left) h.idle)
idle_sized false dropped s h = h.idle

sized_settled : (dropped : Dropped) (s : State) → IsSized s → IsSized (settled dropped s)
sized_settled dropped s h = record {
  committed = each_filter (λ (e : ℕ × List ℕ). length e.1 ≡ s.form.size) (λ e. is_busy s e.0) s.frames.committed h.committed;
  idle = idle_sized (is_none s.shut) dropped s h;
  changes = h.changes;
  within = h.within;
}

sized_with_leg : (t : ℕ) (trans : Transaction) (leg : Leg) (s : State) → AreSizedChanges s.form.size leg.changes → IsSized s → IsSized (with_leg t trans leg s)
sized_with_leg t trans leg s changes h = record {
  committed = h.committed;
  idle = h.idle;
  changes = each_set_at (λ e. AreSizedChanges s.form.size e.1.leg.changes) t (record trans { leg = leg }) s.transactions changes h.changes;
  within = h.within;
}

sized_closed : (t : ℕ) (s : State) → IsSized s → IsSized (closed t s)
sized_closed t s h = record {
  committed = h.committed;
  idle = h.idle;
  changes = each_without (λ e. AreSizedChanges s.form.size e.1.leg.changes) t s.transactions h.changes;
  within = h.within;
}

sized_with_legs : (t legs : ℕ) (trans : Transaction) (s : State) → IsSized s → IsSized (with_legs t legs trans s)
sized_with_legs t legs trans s h = record {
  committed = h.committed;
  idle = h.idle;
  changes = each_set_at (λ e. AreSizedChanges s.form.size e.1.leg.changes) t _ s.transactions tt h.changes;
  within = h.within;
}

sized_ended : (t : ℕ) (leg : Leg) (s : State) → AreSizedChanges s.form.size leg.changes → IsSized s → IsSized (ended t leg s)
sized_ended t leg s changes h = record {
  committed = with_edits_sized s.form.size leg.changes s.frames.committed changes h.committed;
  idle = h.idle;
  changes = h.changes;
  within = with_marks_within s.form.size leg.changes s.items.cil changes h.within;
}

sized_aborted : (t : ℕ) (leg : Leg) (s : State) → IsSized s → IsSized (aborted t leg s)
sized_aborted t leg s h = record {
  committed = each_filter (λ (e : ℕ × List ℕ). length e.1 ≡ s.form.size) _ s.frames.committed h.committed;
  idle = h.idle;
  changes = h.changes;
  within = h.within;
}

sized_shut_if : (dirty : Bool) (reason : Reason) (s : State) → IsSized s → IsSized (shut_if dirty reason s)
sized_shut_if true reason s h = h
sized_shut_if false reason s h = h

-- ---- get and read
sized_busied : (b : ℕ) (content : List ℕ) (s : State) → length content ≡ s.form.size → IsSized s → IsSized (busied b content s)
sized_busied b content s is h = record {
  committed = each_put (λ e. length e.1 ≡ s.form.size) b content s.frames.committed is h.committed;
  idle = each_without (λ e. length e.1 ≡ s.form.size) b s.frames.idle h.idle;
  changes = h.changes;
  within = h.within;
}

sized_brought : (b : ℕ) (o : Option (List ℕ)) (s : State) → at b s.frames.idle ≡ o → IsSized s → IsSized (brought b o s)
sized_brought b None s is h = h
sized_brought b (Some content) s is h = sized_busied b content s (each_at (λ e. length e.1 ≡ s.form.size) b content s.frames.idle is h.idle) h

sized_first : (busy : Bool) (t b : ℕ) (s : State) → IsSized s → IsSized (with_owner b (Trans t 0) (if busy then s else brought b (at b s.frames.idle) s))
sized_first true t b s h = h
sized_first false t b s h = sized_brought b (at b s.frames.idle) s refl h

sized_locked : (t b : ℕ) (own : Option ℕ) (s : State) → IsSized s → IsSized (locked t b own s)
sized_locked t b (Some count) s h = h
sized_locked t b None s h = sized_first (is_busy s b) t b s h

sized_answered : (t b : ℕ) (leg : Leg) (answer : Answer) (s : State) → has_size answer (Some s) ≡ true → IsSized s → IsSized (answered t b leg s answer).state
sized_answered t b leg (Answer.Content content) s has h = sized_busied b content s (eqb-true (length content) s.form.size has) h
sized_answered t b leg Answer.None s has h = sized_shut_if (is_dirty leg) _ s h
sized_answered t b leg Answer.Failed s has h = sized_shut_if (is_dirty leg) _ s h

-- ---- calls of an open transaction
module _ (dropped : Dropped) (t : ℕ) (s : State) (h : IsSized s) (trans : Transaction) (is : at t s.transactions ≡ Some trans) where
  leg_sized : AreSizedChanges s.form.size trans.leg.changes
  leg_sized = each_at (λ e. AreSizedChanges s.form.size e.1.leg.changes) t trans s.transactions is h.changes

  sized_read : (b : ℕ) (answer : Answer) → has_size answer (Some s) ≡ true → IsSized (read t b answer s trans).state
  sized_read b answer has =
      or_else (first_of (read_refusals t b trans.leg s)) s _ h
      (λ _. either (is_absent t b s) (answered t b trans.leg s answer) _ (sized_answered t b trans.leg answer s has h) (sized_locked t b (own_count t (at b s.owners)) s h))

  -- what is not refused lies in the block
  log_room : (b first : ℕ) (bytes : List ℕ) → None ≡ first_of (log_refusals t b first bytes trans s) → first + length bytes ≤ s.form.size
  log_room b first bytes passes =
      let bare : Bool = (length bytes == 0) || nat_lt s.form.size (first + length bytes) in
      let partly : Bool = (is_fresh s b || is_stale b trans.leg) && not ((first == 0) && (length bytes == s.form.size)) in
      let over : Bool = nat_lt trans.unit (charge s.form.ends (edited b [] (marks first (length bytes)) trans.leg).changes) in
      let owned = passes_first (not (is_own s t b)) Invalid ((bare, Invalid) ∷ (partly, Invalid) ∷ (over, NoSpace) ∷ []) passes in
      let some = passes_first bare Invalid ((partly, Invalid) ∷ (over, NoSpace) ∷ []) owned.1 in
      omega (arith, ltb-false s.form.size (first + length bytes) (or_parts (length bytes == 0) (nat_lt s.form.size (first + length bytes)) some.0).1)

  logged_sized : (b first : ℕ) (bytes : List ℕ) → s.form.size ≡ 128 * (s.form.size / 128) → first + length bytes ≤ s.form.size → AreSizedChanges s.form.size (logged_leg s.form.size b first bytes s.frames trans.leg).changes
  logged_sized b first bytes whole room =
      let size : ℕ = s.form.size in
      let old : IsSizedChange size (change_of b trans.leg) = change_sized size b trans.leg leg_sized in
      let before : List ℕ = seen size b trans.leg s.frames in
      let new : IsSizedChange size (record { edit = Some (overwritten first bytes before); marks = union (change_of b trans.leg).marks (marks first (length bytes)); charged = union (change_of b trans.leg).charged (marks first (length bytes)) }) = record {
        edit = overwritten_sized size first bytes before room (seen_sized size b trans.leg s.frames leg_sized h.committed);
        marks = union_within size (change_of b trans.leg).marks (marks first (length bytes)) old.marks (marks_within size first (length bytes) whole room);
      } in
      each_put (λ c. IsSizedChange size c.1) b _ trans.leg.changes new leg_sized

  sized_log : (b first : ℕ) (bytes : List ℕ) → s.form.size ≡ 128 * (s.form.size / 128) → IsSized (log t b first bytes s trans).state
  sized_log b first bytes whole =
      let leg : Leg = logged_leg s.form.size b first bytes s.frames trans.leg in
      or_else (first_of (log_refusals t b first bytes trans s)) s (gives Okay (not_fresh b (with_leg t trans leg s))) h
      (λ passes. sized_with_leg t trans leg s (logged_sized b first bytes whole (log_room b first bytes passes)) h)

  sized_hold : (b : ℕ) → IsSized (hold t b s trans).state
  sized_hold b = either (not (is_own s t b) || is_stale b trans.leg) _ _ h (sized_with_leg t trans (record trans.leg { holds = with_member b trans.leg.holds }) s leg_sized h)

  sized_unhold : (b : ℕ) → IsSized (unhold t b s trans).state
  sized_unhold b = either (not (is_own s t b) || not (has trans.leg.holds b)) _ _ h (sized_with_leg t trans (without_hold b trans.leg) s leg_sized h)

  sized_released : (b : ℕ) (own : Option ℕ) → IsSized (released dropped t b trans s own).state
  sized_released b None = h
  sized_released b (Some count) =
      let free : State = unowned b (with_leg t trans (without_hold b trans.leg) s) in
      either (nat_lt 0 count) _ _ h (either (is_in b trans.leg.changes) _ _ h (sized_settled dropped free (sized_with_leg t trans (without_hold b trans.leg) s leg_sized h)))

  sized_stale : (b : ℕ) (stale : Bool) → IsSized (if stale then s else not_fresh b (with_leg t trans (invalidated b trans.leg) s))
  sized_stale b true = h
  sized_stale b false = sized_with_leg t trans (invalidated b trans.leg) s (each_put (λ c. IsSizedChange s.form.size c.1) b _ trans.leg.changes (record { edit = tt; marks = tt }) leg_sized) h

  sized_inval : (b : ℕ) → IsSized (inval t b s trans).state
  sized_inval b = or_else (first_of (inval_refusals t b trans s)) s _ h (λ _. sized_stale b (is_stale b trans.leg))

  sized_commit : IsSized (commit dropped t s trans).state
  sized_commit =
      let lost : State = aborted t trans.leg s in
      let kept : State = ended t trans.leg s in
      either (is_dirty trans.leg && is_some s.shut) _ _
      (sized_settled dropped (closed t lost) (sized_closed t lost (sized_aborted t trans.leg s h)))
      (sized_settled dropped (closed t kept) (sized_closed t kept (sized_ended t trans.leg s leg_sized h)))

  sized_roll : IsSized (roll dropped t s trans).state
  sized_roll =
      let lost : State = aborted t trans.leg s in
      let kept : State = ended t trans.leg s in
      either (not trans.perm) _ _ h
      (either (is_some s.shut) _ _ (sized_settled dropped (with_legs t 0 trans lost) (sized_with_legs t 0 trans lost (sized_aborted t trans.leg s h)))
      (either (is_no_room t trans s) _ _ h
      (sized_settled dropped (with_legs t (legs_after trans.legs) trans kept) (sized_with_legs t (legs_after trans.legs) trans kept (sized_ended t trans.leg s leg_sized h)))))

  sized_cancel : IsSized (cancel dropped t s trans).state
  sized_cancel =
      let lost : State = closed t (aborted t trans.leg s) in
      sized_settled dropped (shut_if (is_dirty trans.leg) CorruptIncore lost) (sized_shut_if (is_dirty trans.leg) CorruptIncore lost (sized_closed t (aborted t trans.leg s) (sized_aborted t trans.leg s h)))

-- ---- calls
sized_alloc : (unit count : ℕ) (perm : Bool) (s : State) → IsSized s → IsSized (alloc unit count perm s).state
sized_alloc unit count perm s h =
    or_else (first_of (alloc_refusals unit count perm s)) s _ h
    (λ _. either (nat_lt s.log_bytes (used s + unit * count)) _ (allocated unit count perm s) h (record {
      committed = h.committed;
      idle = h.idle;
      changes = each_put (λ e. AreSizedChanges s.form.size e.1.leg.changes) (s.last_trans + 1) (new_trans unit count perm) s.transactions tt h.changes;
      within = h.within;
    }))

-- any call that is answered a content of the mount's size, or none
pub sized_call : (dropped : Dropped) (request : Request) (answer : Answer) (s : State) → IsForm s.form → has_size answer (Some s) ≡ true → IsSized s → IsSized (alone_with dropped request answer s).state
sized_call dropped (Request.Alloc unit count perm) answer s form has h = sized_alloc unit count perm s h
sized_call dropped (Request.Get t b) answer s form has h = with_open t s _ h (λ trans is. or_else (first_of (get_refusals t b s)) s _ h (λ _. sized_locked t b (own_count t (at b s.owners)) s h))
sized_call dropped (Request.Read t b) answer s form has h = with_open t s _ h (λ trans is. sized_read dropped t s h trans is b answer has)
sized_call dropped (Request.View t b) answer s form has h = with_open t s _ h (λ trans is. either (is_own s t b) _ _ h h)
sized_call dropped (Request.Log first t b bytes) answer s form has h = with_open t s _ h (λ trans is. sized_log dropped t s h trans is b first bytes form.whole)
sized_call dropped (Request.Hold t b) answer s form has h = with_open t s _ h (λ trans is. sized_hold dropped t s h trans is b)
sized_call dropped (Request.Unhold t b) answer s form has h = with_open t s _ h (λ trans is. sized_unhold dropped t s h trans is b)
sized_call dropped (Request.Relse t b) answer s form has h = with_open t s _ h (λ trans is. sized_released dropped t s h trans is b (own_count t (at b s.owners)))
sized_call dropped (Request.Join t b) answer s form has h = with_open t s _ h (λ trans is. or_else (first_of (join_refusals b s)) s _ h (λ _. h))
sized_call dropped (Request.Release b) answer s form has h = either (is_held (at b s.owners)) _ _ (sized_settled dropped (unowned b s) h) h
sized_call dropped (Request.Inval t b) answer s form has h = with_open t s _ h (λ trans is. sized_inval dropped t s h trans is b)
sized_call dropped (Request.Commit t) answer s form has h = with_open t s _ h (λ trans is. sized_commit dropped t s h trans is)
sized_call dropped (Request.Roll t) answer s form has h = with_open t s _ h (λ trans is. sized_roll dropped t s h trans is)
sized_call dropped (Request.Cancel t) answer s form has h = with_open t s _ h (λ trans is. sized_cancel dropped t s h trans is)
sized_call dropped Request.Force answer s form has h = either (is_some s.shut) _ _ h (either (length s.items.cil == 0) _ _ h h)
sized_call dropped (Request.ForceTo number) answer s form has h =
    or_else (first_of (force_to_refusals number s)) s _ h (λ _. either ((number == s.items.open_number) && not (length s.items.cil == 0)) _ _ h (either (is_flight number s.items.flight) _ _ h h))
sized_call dropped Request.Push answer s form has h = either (is_some s.shut) _ _ h h
sized_call dropped Request.Shutdown answer s form has h = h
sized_call dropped Request.Freeze answer s form has h = or_else (first_of (freeze_refusals s)) s _ h (λ _. h)
sized_call dropped Request.Thaw answer s form has h = either s.frozen _ _ h h
sized_call dropped Request.Stat answer s form has h = h
sized_call dropped Request.Unmount answer s form has h = either (is_in_use s) _ _ h h

-- ---- jobs
pub sized_posted : (kind : JobKind) (s : State) → IsSized s → IsSized (posted kind s)
sized_posted kind s h = h

pub sized_begin : (s : State) → IsSized s → IsSized (begin s).state
sized_begin s h = either (is_some s.shut) _ (begun (next_pieces s) s) h (record { committed = h.committed; idle = h.idle; changes = h.changes; within = tt })

sized_landed : (dropped : Dropped) (f : Flight) (s : State) → IsSized s → IsSized (landed dropped f s)
sized_landed dropped f s h = sized_settled dropped (finished JobKind.Ckpt (record s { owners = filter (λ e. not (waits_on f.number e.1)) s.owners; items = landed_items s.form.ends f s.items })) h

sized_failed : (dropped : Dropped) (s : State) → IsSized s → IsSized (failed dropped s)
sized_failed dropped s h = sized_settled dropped (finished JobKind.Ckpt (shut_down LogIoError (record s { items = record s.items { flight = None } }))) h

sized_end_of : (dropped : Dropped) (answers : LogAnswers) (s : State) (flight : Option Flight) → IsSized s → IsSized (end_of dropped answers s flight).state
sized_end_of dropped answers s None h = h
sized_end_of dropped answers s (Some f) h = either (is_ok answers.sync) _ _ (sized_landed dropped f s h) (sized_failed dropped s h)

pub sized_end : (dropped : Dropped) (answers : LogAnswers) (s : State) → IsSized s → IsSized (end dropped answers s).state
sized_end dropped answers s h = sized_end_of dropped answers s s.items.flight h

pub sized_flush : (dropped : Dropped) (answers : HomeAnswers) (s : State) → IsSized s → IsSized (flush dropped answers s).state
sized_flush dropped answers s h =
    either (length (flush_plan s) == 0) _ (flushed dropped (flush_plan s) answers s) h
    (sized_settled dropped (renewed answers (finished JobKind.Flush (record s { items = cleaned (gone (flush_plan s) answers) s.items }))) h)

-- ---- a new mount
pub sized_mount : (slot life log_bytes blocks : ℕ) (form : Form) → IsSized (mount_of slot life log_bytes blocks form)
sized_mount slot life log_bytes blocks form = record { committed = tt; idle = tt; changes = tt; within = tt }
