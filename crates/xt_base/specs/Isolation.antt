-- What a run of many slots told, and that each slot was told what it would have been told alone.
use Rattle.std.specs.List.{list_any, slice_get}
use Rattle.std.specs.Prelude.{Bool, List, None, Option, [], false, filter, flat_map, if◌then◌else◌, length, map, replicate, slice_index_or, slice_set, take, true, ℕ, ◌+◌, ◌<◌, ◌==◌, ◌∷◌, ◌≡◌, ◌++◌, Some}
use Rattle.xt_base.specs.Alone.{Said, alone_run, shut_after}
use Rattle.xt_base.specs.Order.{Event, fits, orderly, orderly_for}
use Rattle.xt_base.specs.Steps.{slot_of, strike}
use Rattle.xt_base.specs.declared.sizes.TheConstants.{SLOTS}
use Rattle.xt_base.specs.declared.steps.Errno.{Errno}
use Rattle.xt_base.specs.declared.steps.Errno.TheVariants.{NoMemory}
use Rattle.xt_base.specs.declared.steps.HomeOffer.{HomeOffer}
use Rattle.xt_base.specs.declared.steps.LogOffer.{LogOffer}
use Rattle.xt_base.specs.declared.steps.Reason.{Reason}
use Rattle.xt_base.specs.declared.steps.Reply.{Reply}
use Rattle.xt_base.specs.declared.steps.Reply.TheVariants.{Refused}
use Rattle.xt_base.specs.declared.steps.Step.{Step}

-- what a run told: its turns in order, and for each slot why it is shut, and whether it was refused memory
pub record Told : Type 0 where
  pub turns : List Said
  pub shut : List (Option Reason)
  pub refused : List Bool

-- a run of no step
abbrev pub untold : Told
untold = record { turns = []; shut = replicate SLOTS None; refused = replicate SLOTS false }

-- the turns of a slot, in order
abbrev pub turns_of : ℕ → List Said → List Said
turns_of m turns = filter (λ t. t.slot == m) turns

-- what a slot offered to its log device, in order
abbrev pub log_offers_in : ℕ → Told → List LogOffer
log_offers_in m o = flat_map (λ t. t.log) (turns_of m o.turns)

-- what a slot offered to its home device, in order
abbrev pub home_offers_in : ℕ → Told → List HomeOffer
home_offers_in m o = flat_map (λ t. t.home) (turns_of m o.turns)

-- why a slot is shut, if it is
abbrev pub shut_in : ℕ → Told → Option Reason
shut_in m o = slice_index_or o.shut m None

-- whether a slot was refused memory
abbrev pub is_refused : ℕ → Told → Bool
is_refused m o = slice_index_or o.refused m false

-- whether an error is want of memory
abbrev pub is_memory : Errno → Bool
is_memory NoMemory = true
is_memory other = false

-- whether a reply is ENOMEM
abbrev pub is_no_memory : Reply → Bool
is_no_memory (Refused e) = is_memory e
is_no_memory other = false

-- whether some turn of a slot was ENOMEM
abbrev pub wanted_memory : ℕ → List Said → Bool
wanted_memory m turns = list_any (λ t. is_no_memory t.reply) (turns_of m turns)

-- a step with its reply; a step that was answered ENOMEM did not happen
abbrev pub event_of : Step → Said → List Event
event_of x t = if is_no_memory t.reply then [] else record { step = x; reply = t.reply } ∷ []

-- the steps that happened, with the replies that were given
abbrev pub events : List Step → List Said → List Event
events [] turns = []
events (x ∷ xs) [] = []
events (x ∷ xs) (t ∷ ts) = event_of x t ++ events xs ts

-- what was told with one more turn, and why its slot is shut then
abbrev pub told_taken : Told → Said → Option Reason → Told
told_taken o t reason = record o { turns = o.turns ++ t ∷ []; shut = slice_set o.shut t.slot reason }

-- the same of a turn that was refused memory
abbrev pub told_refused : Told → Said → Option Reason → Told
told_refused o t reason = record o { turns = o.turns ++ t ∷ []; shut = slice_set o.shut t.slot reason; refused = slice_set o.refused t.slot true }

-- the one or the other, by the turn's reply
abbrev pub told_then : Told → Said → Option Reason → Told
told_then o t reason = if is_no_memory t.reply then told_refused o t reason else told_taken o t reason

-- a slot was told what it would have been told alone, and is shut as it would be alone
pub record IsAlone (m : ℕ) (steps : List Step) (o : Told) : Type 0 where
  pub turns : turns_of m o.turns ≡ alone_run (strike steps m)
  pub shut : shut_in m o ≡ shut_after (strike steps m)

-- a run of these steps told this: a turn for each step; a slot was refused memory exactly where one of its turns is ENOMEM; each slot that was not
-- was told what it would have been told alone, and its steps were orderly for it; and the whole list is orderly where no slot was refused memory
pub record Tells (steps : List Step) (o : Told) : Type 0 where
  pub slots : map (λ t. t.slot) o.turns ≡ map slot_of steps
  pub refused : (m : ℕ) → is_refused m o ≡ wanted_memory m o.turns
  pub alone : (m : ℕ) → is_refused m o ≡ false → IsAlone m steps o
  pub for_slot : (m : ℕ) → is_refused m o ≡ false → orderly_for m (events steps o.turns) ≡ true
  pub whole : ((m : ℕ) → is_refused m o ≡ false) → orderly steps ≡ true

-- the step at this place is the first that breaks order, after what was told before it
pub record BreaksAt (at : ℕ) (steps : List Step) (before : Told) : Type 0 where
  pub place : at < length steps
  pub tells : Tells (take at steps) before
  pub breaks : (x : Step) → slice_get steps at ≡ Some x → is_refused (slot_of x) before ≡ false → fits (events (take at steps) before.turns) x ≡ false
  pub first : ((m : ℕ) → is_refused m before ≡ false) → orderly (take (at + 1) steps) ≡ false
