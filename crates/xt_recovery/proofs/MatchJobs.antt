-- The jobs keep a live mount matched with its disks: begin, end, flush.
use Rattle.std.proofs.Common.{◌≡◌, ◌∙◌, ◌∷◌, Bool, List, None, Some, [], ap, arith, false, inl, inr, length, refl, subst, suc, sym, true, ℕ}
use Rattle.std.proofs.lemmas.Bool.{and_parts, cases_Bool, cases_eq, false_from_ne_true, false≢true, ne_eqb, or_left, or_right}
use Rattle.std.specs.Prelude.{filter, if◌then◌else◌, is_some, not, unwrap_or, ◌<◌, ◌==◌, ◌||◌}
use Rattle.xt_base.proofs.KeyLemmas.{at_filter, is_in_filter}
use Rattle.xt_base.proofs.MapLemmas.{at_first, at_later, some_none, some_same, without_first, without_later}
use Rattle.xt_base.proofs.RisingLemmas.{each_map, none_below}
use Rattle.xt_base.proofs.SoundParts.{activated_one, is_in_activated, rises_activated}
use Rattle.xt_base.specs.Jobs.{activated, cleaned, finished, flown, landed_items, renewed, waits_on}
use Rattle.xt_base.specs.Maps.{at, has, is_in, put, without}
use Rattle.xt_base.specs.Sound.{AreWritten, IsRising, RisesFrom}
use Rattle.xt_base.specs.Space.{flight_items, is_busy, is_listed}
use Rattle.xt_base.specs.State.{Flight, State}
use Rattle.xt_base.specs.Text.{chunk}
use Rattle.xt_base.specs.declared.names.JobKind.{JobKind}
use Rattle.xt_base.specs.declared.steps.HomeAnswers.{HomeAnswers}
use Rattle.xt_base.specs.declared.steps.Owner.{Owner}
use Rattle.xt_base.specs.declared.steps.Owner.TheVariants.{Stale}
use Rattle.xt_recovery.proofs.MatchLemmas.{coming_home, coming_other, idle_parts, no_chunks, no_item, present_of}
use Rattle.xt_recovery.proofs.LogLemmas.{first_if, second_if, some_of}
use Rattle.xt_recovery.proofs.RecoverLemmas.{at_activated_other}
use Rattle.xt_recovery.proofs.Matching.{IsIdleLanded, MatchesDisks, next_image}
use Rattle.xt_recovery.proofs.Recoverable.{IsFlushedHome}
use Rattle.xt_recovery.specs.Disks.{Disks, content_of, disks_begun, disks_landed}
use Rattle.xt_recovery.specs.Log.{HasChunk, Image, chunks_of, is_cancel}

-- ---- lists and owners, as Bools
-- on the committed list, in flight, or active
pub listed_cases : (c f a x : Bool) → (c ≡ true → x ≡ true) → (f ≡ true → x ≡ true) → (a ≡ true → x ≡ true) → (c || f || a) ≡ true → x ≡ true
listed_cases true f a x hc hf ha h = hc refl
listed_cases false true a x hc hf ha h = hf refl
listed_cases false false true x hc hf ha h = ha refl
listed_cases false false false x hc hf ha h = absurd (cc)

-- what is not busy is not busy after it got less so
pub less_busy : (old new : Bool) → (new ≡ true → old ≡ true) → old ≡ false → new ≡ false
less_busy old false more h = refl
less_busy old true more h = absurd (false≢true (sym h ∙ more refl))

pub busy_more : (o p x y : Bool) → (o ≡ true → p ≡ true) → (x ≡ true → y ≡ true) → (o || x) ≡ true → (p || y) ≡ true
busy_more true p x y ho hx h = or_left p y (ho refl)
busy_more false p x y ho hx h = or_right p y (hx h)

pub in_committed : (c f a : Bool) → c ≡ true → (c || f || a) ≡ true
in_committed c f a h = or_left (c || f) a (or_left c f h)

pub in_flight : (c f a : Bool) → f ≡ true → (c || f || a) ≡ true
in_flight c f a h = or_left (c || f) a (or_right c f h)

pub in_active : (c f a : Bool) → a ≡ true → (c || f || a) ≡ true
in_active c f a h = or_right (c || f) a h

-- ---- begin
module _ (ps : List (List ℕ)) (d : Disks) (s : State) (none : s.items.flight ≡ None) (h : MatchesDisks d s) where
  -- the flight that begins
  abbrev pub opened : Flight
  opened = record { number = s.items.open_number; items = s.items.cil; pieces = ps }

  no_flight : (b : ℕ) → is_in b (flight_items s.items.flight) ≡ false
  no_flight b = ap (λ o. is_in b (flight_items o)) none

  listed_before : (b : ℕ) → is_listed (flown ps s).items b ≡ true → is_listed s.items b ≡ true
  listed_before b there =
      listed_cases false (is_in b s.items.cil) (is_in b s.items.ail) (is_listed s.items b) (λ bad. absurd (false≢true bad))
      (in_committed (is_in b s.items.cil) (is_in b (flight_items s.items.flight)) (is_in b s.items.ail))
      (in_active (is_in b s.items.cil) (is_in b (flight_items s.items.flight)) (is_in b s.items.ail)) there

  begun_marked : (b k : ℕ) → HasChunk d.form.size k → is_in b s.frames.committed ≡ true → chunk (content_of s b) k ≡ next_image (Some opened) (disks_begun s d) b k
  begun_marked b k small there =
      let other : is_cancel b s.items.cil ≡ false = false_from_ne_true (is_cancel b s.items.cil) (λ cancels. let g = h.given_up b cancels in false≢true (sym g.bare ∙ there)) in
      let first : next_image (Some opened) (disks_begun s d) b k ≡ (if is_in b s.items.cil then chunk (content_of s b) k else d.landed b k) =
      second_if (is_cancel b s.items.cil) (d.home b k) (if is_in b s.items.cil then chunk (content_of s b) k else d.landed b k) other in
      elim (cases_Bool (is_in b s.items.cil)) [
        | inl item ↦ sym (first_if (is_in b s.items.cil) (chunk (content_of s b) k) (d.landed b k) item) ∙ sym first
        | inr off ↦
            h.marked b k small there (no_chunks b k s.items.cil off) ∙ coming_other s.items.flight d b k (no_flight b)
            ∙ sym (second_if (is_in b s.items.cil) (chunk (content_of s b) k) (d.landed b k) off) ∙ sym first
      ]

  -- a begin keeps a mount matched with its disks
  pub matches_begun : MatchesDisks (disks_begun s d) (flown ps s)
  matches_begun = record {
    marked = λ b k small there absent. begun_marked b k small there;
    given_up = λ b cancels. absurd (false≢true cancels);
    going = λ b cancels. let g = h.given_up b cancels in record { waits = (s.items.open_number, g.waits); bare = g.bare; once = refl };
    idle = each_map (IsIdleLanded d s) (IsIdleLanded (disks_begun s d) (flown ps s)) s.frames.idle
        (λ e rest. (less_busy (is_busy s e.0) (is_busy (flown ps s) e.0) (busy_more (is_in e.0 s.owners) (is_in e.0 s.owners) (is_listed (flown ps s).items e.0) (is_listed s.items e.0) (λ o. o) (listed_before e.0)) rest.0, rest.1)) h.idle;
  }

  -- what a begin needs of it, for what recovery stands on
  pub begun_agrees : AreWritten s.owners s.frames.committed s.items → (b k : ℕ) → HasChunk d.form.size k → is_cancel b s.items.cil ≡ false → is_in b s.items.cil ≡ true → has (chunks_of b s.items.cil) k ≡ false → chunk (content_of s b) k ≡ d.landed b k
  begun_agrees written b k small other there absent =
      h.marked b k small (present_of b s written (in_committed (is_in b s.items.cil) (is_in b (flight_items s.items.flight)) (is_in b s.items.ail) there) other (no_item b (flight_items s.items.flight) (no_flight b))) absent
      ∙ coming_other s.items.flight d b k (no_flight b)

-- ---- end, landed
module _ {V : Type 0} where
  -- nothing stands at a key that went
  pub at_without_same : (m b : ℕ) (es : List (ℕ × V)) → RisesFrom m es → at b (without b es) ≡ None
  at_without_same m b [] r = refl
  at_without_same m b (e ∷ es) r =
      elim (cases_eq b e.0) [
        | inl same ↦ ap (at b) (without_first b e es same) ∙ none_below b (suc e.0) es (omega (arith, same)) r.1
        | inr other ↦ ap (at b) (without_later b e es other) ∙ at_later b e (without b es) other ∙ at_without_same (suc e.0) b es r.1
      ]

step_gone : (is_gone there : Bool) (b number : ℕ) (ail : List (ℕ × ℕ)) → IsRising ail → is_gone ≡ true → at b (if is_gone then without b ail else (if there then ail else put b number ail)) ≡ None
step_gone true there b number ail r h = at_without_same 0 b ail r
step_gone false there b number ail r h = absurd (cc)

-- a cancelled block is active no more
pub at_activated_cancel : (m b number : ℕ) (set : List ℕ) (es : List (ℕ × List ℕ)) (ail : List (ℕ × ℕ)) → IsRising ail → RisesFrom m es → at b es ≡ Some set → (length set == 0) ≡ true → at b (activated number es ail) ≡ None
at_activated_cancel m b number set [] ail ar r h none = some_none set (at b (activated number [] ail) ≡ None) (sym h)
at_activated_cancel m b number set (e ∷ es) ail ar r h none =
    elim (cases_eq b e.0) [
      | inl same ↦
          let value : e.1 ≡ set = some_same e.1 set (sym (at_first b e es same) ∙ h) in
          let one : at e.0 (activated_one number e ail) ≡ None = step_gone (length e.1 == 0) (is_in e.0 ail) e.0 number ail ar (ap (λ (x : List ℕ). length x == 0) value ∙ none) in
          at_activated_other b number es (activated_one number e ail) (none_below b (suc e.0) es (omega (arith, same)) r.1)
          ∙ subst (λ (x : ℕ). at x (activated_one number e ail) ≡ None) (sym same) one
      | inr other ↦ at_activated_cancel (suc e.0) b number set es (activated_one number e ail) (rises_activated number (e ∷ []) ail ar) r.1 (sym (at_later b e es other) ∙ h) none
    ]

module _ (f : Flight) (d : Disks) (s : State) (flies : s.items.flight ≡ Some f) (rises : IsRising f.items) (ail_rises : IsRising s.items.ail) (order : f.number < s.items.open_number) (h : MatchesDisks d s) where
  -- the owners after the landing
  abbrev pub landed_owners : List (ℕ × Owner)
  landed_owners = filter (λ e. not (waits_on f.number e.1)) s.owners

  -- the mount after it, before it settles
  abbrev pub landed_state : State
  landed_state = finished JobKind.Ckpt (record s { owners = landed_owners; items = landed_items s.form.ends f s.items })

  flew : (b : ℕ) → is_in b f.items ≡ true → is_in b (flight_items s.items.flight) ≡ true
  flew b there = ap (λ o. is_in b (flight_items o)) flies ∙ there

  flew_cancel : (b : ℕ) → is_cancel b f.items ≡ true → is_cancel b (flight_items s.items.flight) ≡ true
  flew_cancel b cancels = ap (λ o. is_cancel b (flight_items o)) flies ∙ cancels

  -- a block that was cancelled is on no list
  cancel_unlisted : (b : ℕ) → is_cancel b f.items ≡ true → is_listed landed_state.items b ≡ true → ⊥
  cancel_unlisted b cancels listed =
      let g = h.going b (flew_cancel b cancels) in
      let parts = and_parts (is_in b f.items) (length (chunks_of b f.items) == 0) cancels in
      let item = some_of (at b f.items) parts.0 in
      let off : at b landed_state.items.ail ≡ None =
      at_activated_cancel 0 b f.number item.0 f.items s.items.ail ail_rises rises item.1 (sym (ap (λ o. length (unwrap_or o []) == 0) item.1) ∙ parts.1) in
      false≢true (listed_cases (is_in b s.items.cil) false (is_in b landed_state.items.ail) false (λ there. sym g.once ∙ there) (λ bad. bad) (λ there. sym (ap is_some off) ∙ there) listed)

  listed_then : (b : ℕ) → is_listed landed_state.items b ≡ true → is_listed s.items b ≡ true
  listed_then b listed =
      listed_cases (is_in b s.items.cil) false (is_in b landed_state.items.ail) (is_listed s.items b)
      (in_committed (is_in b s.items.cil) (is_in b (flight_items s.items.flight)) (is_in b s.items.ail)) (λ bad. absurd (false≢true bad))
      (λ active.
      elim (is_in_activated b f.number f.items s.items.ail active) [
        | inl now ↦ in_flight (is_in b s.items.cil) (is_in b (flight_items s.items.flight)) (is_in b s.items.ail) (flew b now)
        | inr was ↦ in_active (is_in b s.items.cil) (is_in b (flight_items s.items.flight)) (is_in b s.items.ail) was
      ]) listed

  busy_then : (b : ℕ) → is_busy landed_state b ≡ true → is_busy s b ≡ true
  busy_then b busy = busy_more (is_in b landed_owners) (is_in b s.owners) (is_listed landed_state.items b) (is_listed s.items b) (is_in_filter b (λ e. not (waits_on f.number e.1)) s.owners) (listed_then b) busy

  rest_then : (e : ℕ × List ℕ) → IsIdleLanded d s e → IsIdleLanded (disks_landed f d) landed_state e
  rest_then e rest = (
    less_busy (is_busy s e.0) (is_busy landed_state e.0) (busy_then e.0) rest.0,
    λ k small. rest.1 k small ∙ sym (coming_other (Some f) d e.0 k (sym (ap (λ o. is_in e.0 (flight_items o)) flies) ∙ (idle_parts s e.0 rest.0).1)),
  )

  -- a landing keeps a mount matched with its disks
  pub matches_landed : MatchesDisks (disks_landed f d) landed_state
  matches_landed = record {
    marked = λ b k small there absent. h.marked b k small there absent ∙ ap (λ o. next_image o d b k) flies;
    given_up = λ b cancels.
        let g = h.given_up b cancels in
        record {
          waits = at_filter b (Stale s.items.open_number) (λ e. not (waits_on f.number e.1)) s.owners g.waits (ap not (ne_eqb s.items.open_number f.number (λ same. omega (arith, same, order))));
          bare = g.bare;
        };
    going = λ b cancels. absurd (false≢true cancels);
    idle = each_map (IsIdleLanded d s) (IsIdleLanded (disks_landed f d) landed_state) s.frames.idle rest_then h.idle;
  }

-- ---- flush
module _ (blocks plan : List ℕ) (answers : HomeAnswers) (d : Disks) (s : State) (home : Image) (went : IsFlushedHome plan answers (content_of s) d.home home) (h : MatchesDisks d s) where
  -- the mount after a flush, before it settles
  abbrev pub flushed_state : State
  flushed_state = renewed answers (finished JobKind.Flush (record s { items = cleaned blocks s.items }))

  -- the devices
  abbrev pub home_disks : Disks
  home_disks = record d { home = home }

  listed_left : (b : ℕ) → is_listed flushed_state.items b ≡ true → is_listed s.items b ≡ true
  listed_left b listed =
      listed_cases (is_in b s.items.cil) (is_in b (flight_items s.items.flight)) (is_in b flushed_state.items.ail) (is_listed s.items b)
      (in_committed (is_in b s.items.cil) (is_in b (flight_items s.items.flight)) (is_in b s.items.ail))
      (in_flight (is_in b s.items.cil) (is_in b (flight_items s.items.flight)) (is_in b s.items.ail))
      (λ active. in_active (is_in b s.items.cil) (is_in b (flight_items s.items.flight)) (is_in b s.items.ail) (is_in_filter b (λ e. not (has blocks e.0)) s.items.ail active)) listed

  -- a flush keeps a mount matched with its disks
  pub matches_flushed : MatchesDisks home_disks flushed_state
  matches_flushed = record {
    marked = λ b k small there absent.
        h.marked b k small there absent
        ∙ sym (coming_home s.items.flight d home_disks b k refl refl (false_from_ne_true (is_cancel b (flight_items s.items.flight)) (λ cancels. let g = h.going b cancels in false≢true (sym g.bare ∙ there))));
    given_up = λ b cancels. let g = h.given_up b cancels in record { waits = g.waits; bare = g.bare };
    going = λ b cancels. let g = h.going b cancels in record { waits = g.waits; bare = g.bare; once = g.once };
    idle = each_map (IsIdleLanded d s) (IsIdleLanded home_disks flushed_state) s.frames.idle
        (λ e rest. (less_busy (is_busy s e.0) (is_busy flushed_state e.0) (busy_more (is_in e.0 s.owners) (is_in e.0 s.owners) (is_listed flushed_state.items e.0) (is_listed s.items e.0) (λ o. o) (listed_left e.0)) rest.0, rest.1)) h.idle;
  }
