-- Forces to a number and flushes keep a mount sound.
use Rattle.std.proofs.Common.{◌≡◌, ◌∙◌, Bool, List, None, false, length, refl, sym, true, ℕ}
use Rattle.std.proofs.lemmas.Bool.{false_from_ne_true, false≢true}
use Rattle.std.specs.Prelude.{filter, if◌then◌else◌, not, ◌&&◌, ◌==◌}
use Rattle.xt_base.proofs.KeyLemmas.{is_in_filter}
use Rattle.xt_base.proofs.RisingLemmas.{each_map}
use Rattle.xt_base.proofs.SoundParts.{parts_cleaned}
use Rattle.xt_base.proofs.SoundSteps.{left_true, listed_parts, sound_asks_ckpt, sound_either, sound_jobs, sound_settling, sound_unless, unlisted_by}
use Rattle.xt_base.proofs.WrittenLemmas.{written_cleaned}
use Rattle.xt_base.specs.Calls.{Outcome, asks_ckpt, first_of, force_to, force_to_refusals, gives, is_flight}
use Rattle.xt_base.specs.Jobs.{cleaned, finished, flush, flush_plan, flushed, gone, renewed, unflushed}
use Rattle.xt_base.specs.Maps.{has, is_in}
use Rattle.xt_base.specs.Settle.{Dropped}
use Rattle.xt_base.specs.Sound.{IsReady, IsSound, IsUnwritten}
use Rattle.xt_base.specs.Space.{flight_items, is_busy, is_listed}
use Rattle.xt_base.specs.State.{Items, State}
use Rattle.xt_base.specs.declared.names.JobKind.{JobKind}
use Rattle.xt_base.specs.declared.steps.HomeAnswers.{HomeAnswers}
use Rattle.xt_base.specs.declared.steps.Reply.TheVariants.{Done, Nothing, Wait}

-- a force to a number
pub sound_force_to : (number : ℕ) (s : State) → IsSound s → IsSound (force_to number s).state
sound_force_to number s h =
    let asked : Bool = (number == s.items.open_number) && not (length s.items.cil == 0) in
    let rest : Outcome = if is_flight number s.items.flight then gives (Wait number) s else gives Done s in
    sound_unless (first_of (force_to_refusals number s)) s (if asked then gives (Wait number) (asks_ckpt s) else rest) h
    (λ passes.
    sound_either asked (gives (Wait number) (asks_ckpt s)) rest (λ now. sound_asks_ckpt s h)
    (λ other. sound_either (is_flight number s.items.flight) (gives (Wait number) s) (gives Done s) (λ flies. h) (λ lands. h)))

-- ---- flush

-- a flush with nothing to write
pub sound_unflushed : (s : State) → IsSound s → IsSound (unflushed s)
sound_unflushed s h = sound_jobs (record s.jobs { asked_flush = false; flush = None }) s refl h

-- what is not on the active list is not on what is left of it
not_left : (p : ℕ × ℕ → Bool) (ail : List (ℕ × ℕ)) (b : ℕ) → is_in b ail ≡ false → is_in b (filter p ail) ≡ false
not_left p ail b absent = false_from_ne_true (is_in b (filter p ail)) (λ there. false≢true (sym absent ∙ is_in_filter b p ail there))

-- blocks were written home
pub sound_flushed : (dropped : Dropped) (plan : List ℕ) (answers : HomeAnswers) (s : State) → IsSound s → IsSound (flushed dropped plan answers s).state
sound_flushed dropped plan answers s h =
    let blocks : List ℕ = gone plan answers in
    let l : Items = cleaned blocks s.items in
    let n : State = renewed answers (finished JobKind.Flush (record s { items = l })) in
    let r = h.ready in
    let ready : IsReady l n.jobs = record { numbered = r.numbered; bounded = r.bounded; worth = r.worth; room = r.room } in
    sound_settling dropped n h.form h.log_small h.numbers
    (parts_cleaned s.form.ends s.log_bytes s.owners s.transactions s.items h.parts (λ e. not (has blocks e.0))) h.kept.committed_rises h.kept.fresh_rises ready h.legs_left
    (λ live.
    each_map (IsUnwritten s.owners s.transactions s.items) (λ b. is_busy n b ≡ true → IsUnwritten n.owners n.transactions n.items b) s.frames.fresh
    (λ b u busy.
    let off = listed_parts (is_in b s.items.cil) (is_in b (flight_items s.items.flight)) (is_in b s.items.ail) u.unlisted in
    let unlisted : is_listed n.items b ≡ false =
    unlisted_by (is_in b s.items.cil) (is_in b (flight_items s.items.flight)) (is_in b l.ail) off.0 off.1 (not_left (λ e. not (has blocks e.0)) s.items.ail b off.2) in
    record { owned = left_true (is_in b n.owners) (is_listed n.items b) unlisted busy; unlisted = unlisted; unchanged = u.unchanged })
    (h.fresh_owned live))
    h.given (λ live. written_cleaned s.owners s.frames.committed s.items (h.written live) blocks)

-- a flush, whatever the home device answered
pub sound_flush : (dropped : Dropped) (answers : HomeAnswers) (s : State) → IsSound s → IsSound (flush dropped answers s).state
sound_flush dropped answers s h =
    sound_either (length (flush_plan s) == 0) (gives Nothing (unflushed s)) (flushed dropped (flush_plan s) answers s) (λ none. sound_unflushed s h)
    (λ some. sound_flushed dropped (flush_plan s) answers s h)
