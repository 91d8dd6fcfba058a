-- A turn of a log is a cut: no block of the active list needs what it drops.
use Rattle.std.proofs.Common.{◌≡◌, ◌∙◌, ◌+◌, ◌≤◌, ◌<◌, ◌∷◌, ◌++◌, Bool, List, None, Option, Some, [], ap, arith, inl, inr, length, refl, subst, sym, true, ℕ}
use Rattle.std.proofs.lemmas.Bool.{cases_Bool, leb-false, leb-true, lt-leb}
use Rattle.std.proofs.lemmas.List.{append-nil}
use Rattle.std.proofs.lemmas.List.Elements.{filter-append}
use Rattle.std.proofs.lemmas.List.Sums.{sum_by-append, sum_by-cons}
use Rattle.std.specs.Prelude.{filter, nat_le, sum_by}
use Rattle.xt_base.proofs.RisingLemmas.{each_map}
use Rattle.xt_base.specs.Alone.{alone}
use Rattle.xt_base.specs.Form.{Form}
use Rattle.xt_base.specs.Sound.{Each, IsSound}
use Rattle.xt_base.specs.Space.{cost, flight_items, is_needed, still_needed}
use Rattle.xt_base.specs.State.{Flight, Lone, State, empty}
use Rattle.xt_base.specs.declared.steps.Step.{Step}
use Rattle.xt_recovery.proofs.CountLemmas.{consecutive_fall, costs_append, each_costs, filter_all, needed_from}
use Rattle.xt_recovery.proofs.Formed.{FitsTexts, IsWellFormed}
use Rattle.xt_recovery.proofs.FormedLemmas.{MountFitsTexts}
use Rattle.xt_recovery.proofs.LengthLemmas.{text_cost}
use Rattle.xt_recovery.proofs.LifeLemmas.{MountKeepsInvariant}
use Rattle.xt_recovery.proofs.LifeTheorem.{kept_at_crash}
use Rattle.xt_recovery.proofs.LogLemmas.{from_first, from_less}
use Rattle.xt_recovery.proofs.LogMatching.{LogInvariant, costs_of}
use Rattle.xt_recovery.proofs.LogSteps.{SlotAndLog, cut_keeps, empty_keeps, step_keeps}
use Rattle.xt_recovery.proofs.MatchLemmas.{each_parts}
use Rattle.xt_recovery.proofs.SuitedSteps.{suited_step}
use Rattle.xt_recovery.specs.DiskSteps.{AllSuit, AreDiskSteps, IsLogCut, IsTail}
use Rattle.xt_recovery.specs.Disks.{Disks, flight_text, new_disks}
use Rattle.xt_recovery.specs.Log.{CheckpointText, text_bytes, texts_from}
use Rattle.xt_recovery.specs.Numbers.{AreFalling}
use Rattle.xt_recovery.specs.Turns.{AreStepsByTurns, IsCutOrTurn, IsTurn, RecoversByTurns, TurnsAreCuts, flight_length, log_length}

-- ---- the texts that are left
-- newer texts have greater numbers
above : (newer : List CheckpointText) (v : CheckpointText) (older : List CheckpointText) → AreFalling (newer ++ v ∷ older) → Each (λ w. v.number < w.number) newer
above [] v older falls = tt
above (w ∷ ws) v older falls = ((each_parts (λ x. x.number < w.number) ws (v ∷ older) falls.0).1.0, above ws v older falls.1)

-- so the texts with greater numbers than one are just those that are newer
from_above : (newer : List CheckpointText) (v : CheckpointText) (older : List CheckpointText) → Each (λ w. v.number < w.number) newer → texts_from (v.number + 1) (newer ++ v ∷ older) ≡ newer
from_above [] v older all = from_less (v.number + 1) v older (lt-leb (v.number + 1) v.number (omega arith))
from_above (w ∷ ws) v older all = from_first (v.number + 1) w (ws ++ v ∷ older) (omega (arith, all.0)) ∙ ap (λ xs. w ∷ xs) (from_above ws v older all.1)

-- ---- bytes
-- texts have as many bytes as they cost
costs_bytes : (form : Form) (log : List CheckpointText) → Each (IsWellFormed form) log → sum_by (λ e. e.1) (costs_of form.ends log) ≡ log_length form log
costs_bytes form [] all = refl
costs_bytes form (w ∷ ws) all =
    let second : ℕ × ℕ → ℕ = λ e. e.1 in
    let here : ℕ × ℕ = (w.number, cost form.ends w.items) in
    sum_by-append second (costs_of form.ends ws) (here ∷ [])
    ∙ omega (arith, costs_bytes form ws all.1, sum_by-cons second here [], text_cost form w all.0, sum_by-cons (λ v. length (text_bytes form v)) w ws)

-- and so has the one in flight, if there is one
pub flight_cost : (o : Option Flight) (d : Disks) → ((f : Flight) → o ≡ Some f → IsWellFormed d.form (flight_text f d)) → flight_length o d ≡ cost d.form.ends (flight_items o)
flight_cost None d proper = refl
flight_cost (Some f) d proper = text_cost d.form (flight_text f d) (proper f refl)

module _ (d : Disks) (m : State) (sound : IsSound m) (form : m.form ≡ d.form) (fits : FitsTexts d m) (proper : Each (IsWellFormed d.form) d.log) (counted : still_needed m.items.ail (costs_of d.form.ends d.log) ≡ m.items.landed)
    (falls : AreFalling d.log) where
  -- newer texts that the active list needs have, with the one in flight, no more bytes than the log of the mount
  needed_fit : (newer older : List CheckpointText) → d.log ≡ newer ++ older → Each (λ w. is_needed m.items.ail w.number ≡ true) newer → log_length d.form newer + flight_length m.items.flight d ≤ m.log_bytes
  needed_fit newer older parts needed =
      let ends : ℕ = d.form.ends in
      let second : ℕ × ℕ → ℕ = λ e. e.1 in
      let needs : ℕ × ℕ → Bool = λ e. is_needed m.items.ail e.0 in
      let old : List (ℕ × ℕ) = filter needs (costs_of ends older) in
      let split : m.items.landed ≡ old ++ costs_of ends newer =
      sym counted ∙ ap (λ ws. filter needs (costs_of ends ws)) parts ∙ ap (filter needs) (costs_append ends newer older) ∙ filter-append needs (costs_of ends older) (costs_of ends newer)
      ∙ ap (λ xs. old ++ xs) (filter_all needs (costs_of ends newer) (each_costs (λ n. is_needed m.items.ail n ≡ true) ends newer needed))
      in
      let sums : sum_by second m.items.landed ≡ sum_by second old + sum_by second (costs_of ends newer) = ap (sum_by second) split ∙ sum_by-append second old (costs_of ends newer) in
      let bytes = costs_bytes d.form newer (each_parts (IsWellFormed d.form) newer older (subst (Each (IsWellFormed d.form)) parts proper)).0 in
      let flies = flight_cost m.items.flight d (λ f is. (fits.flight f is).proper) in
      omega (arith, sound.parts.space, sums, bytes, flies, ap (λ (x : Form). cost x.ends (flight_items m.items.flight)) form)

  -- no block of the active list needs what a turn drops: else it needed all that is left, which would fit
  turn_is_cut : (e : Disks) → IsTurn m d e → IsLogCut (Some m) d e
  turn_is_cut e t = cut_by t.older t.parts
    where
      cut_by : (older : List CheckpointText) → d.log ≡ t.newer ++ older → IsLogCut (Some m) d e
      cut_by [] parts = inl (t.left ∙ ap (λ xs. record d { log = xs }) (sym (parts ∙ append-nil t.newer)))
      cut_by (v ∷ vs) parts =
          let later : Each (λ w. v.number < w.number) t.newer = above t.newer v vs (subst AreFalling parts falls) in
          let tail : IsTail (v.number + 1) m.items = λ b k there.
          elim (cases_Bool (nat_le (v.number + 1) k)) [
            | inl high ↦ leb-true (v.number + 1) k high
            | inr low ↦
                let old : k < v.number + 1 = leb-false (v.number + 1) k low in
                let fit = needed_fit t.newer (v ∷ vs) parts
                (each_map (λ w. v.number < w.number) (λ w. is_needed m.items.ail w.number ≡ true) t.newer (λ w late. needed_from b k w.number m.items.ail there (omega (arith, old, late))) later) in
                absurd (omega (arith, fit, t.enough))
          ]
          in
          inr (v.number + 1, t.allowed, tail, t.left ∙ ap (λ xs. record d { log = xs }) (sym (ap (texts_from (v.number + 1)) parts ∙ from_above t.newer v vs later)))

-- ---- steps one after another
-- what a log of a slot loses is a cut
turned_is_cut : (o : Option State) (d e : Disks) → MountKeepsInvariant d o → MountFitsTexts d o → Each (IsWellFormed d.form) d.log → LogInvariant d o → IsCutOrTurn o d e → IsLogCut o d e
turned_is_cut None d e holds fits proper h same = same
turned_is_cut (Some m) d e holds fits proper h (inl cut) = cut
turned_is_cut (Some m) d e holds fits proper h (inr turns) = turn_is_cut d m holds.0 holds.1.form fits proper h.mount.counted (consecutive_fall d.log h.consecutive) e turns

-- so steps with turns are steps with cuts
cut_steps : (xs : List Step) (s : Lone) (d e : Disks) → AllSuit xs s → AreStepsByTurns xs s d e → SlotAndLog d s → AreDiskSteps xs s d e
cut_steps [] s d e suit moves h = moves
cut_steps (x ∷ xs) s d e suit moves h =
    let next : Lone = (alone x s).slot in
    let kept : SlotAndLog moves.0 next = step_keeps x s d moves.0 (suited_step x s d moves.0 suit.0 moves.2) h in
    let cut : IsLogCut next.mounted moves.0 moves.1 = turned_is_cut next.mounted moves.0 moves.1 kept.stands.carried.mount kept.stands.proper.mount kept.stands.proper.texts kept.log moves.3 in
    (moves.0, moves.1, moves.2, cut, cut_steps xs next moves.1 e suit.1 moves.4 (cut_keeps next moves.0 moves.1 cut kept))

-- each turn is a cut
pub turns_are_cuts : TurnsAreCuts
turns_are_cuts steps suit form start d moves = cut_steps steps empty (new_disks form start) d suit moves (empty_keeps form start)

-- so at every crash recovery gives what was committed
pub recovers_by_turns : RecoversByTurns
recovers_by_turns steps suit form start d moves = kept_at_crash steps suit form start d (turns_are_cuts steps suit form start d moves)
