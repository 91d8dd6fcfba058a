-- What becomes of a host that is asked for a step, and what is told of the step.
use Rattle.std.specs.Prelude.{IsSomeAnd, List, MatchBool, None, Option, Some, drop, false, if◌then◌else◌, length, nat_le, nat_lt, negsuc, pos, slice_get, true, ℕ, ℤ, ◌++◌, ◌-◌, ◌≡◌, ◌⊎◌}
use Rattle.xt_base.specs.Alone.{Said}
use Rattle.xt_base.specs.declared.steps.HomeOffer.{HomeOffer}
use Rattle.xt_base.specs.declared.steps.LogOffer.{LogOffer}
use Rattle.xt_base.specs.declared.steps.Step.{Step}
use Rattle.xt_c_host.specs.Told.{Told}
use Rattle.xt_core.specs.Host.{IsNew, may_come}
use Rattle.xt_core.specs.Runs.{IsSaid, is_offering}
use Rattle.xt_text.specs.LineReading.{parsed}
use Rattle.xt_text.specs.Replies.{home_offer_text, log_offer_text, slot_reply_text}
use Rattle.xt_text.specs.SessionLines.{takes_memory}

-- errnos of Linux, negative; `negsuc 11` is 12 below zero
abbrev pub no_memory : ℤ
no_memory = negsuc 11

abbrev pub busy : ℤ
busy = negsuc 15

abbrev pub no_device : ℤ
no_device = negsuc 18

abbrev pub invalid : ℤ
invalid = negsuc 21

-- EPROTO: a step that may not come now
abbrev pub disorder : ℤ
disorder = negsuc 70

-- an open of a handle that holds a host is EBUSY, and it is as it was; of one that holds none: a new host; or ENOMEM, and it holds none
abbrev pub IsOpened : ℤ → Option Told → Option Told → Type 0
IsOpened status new None = ((status ≡ pos 0) × IsSomeAnd new (λ t. IsNew t.host × (t.said ≡ None))) ⊎ ((status ≡ no_memory) × (new ≡ None))
IsOpened status new (Some old) = (status ≡ busy) × (new ≡ Some old)

-- a step: taken, and its turn is kept; or it may not come now, or there was no memory to copy what it offers, and nothing is changed
abbrev pub IsTurn : Step → ℤ → Told → Told → Type 0
IsTurn step status new old =
    ((status ≡ pos 0) × IsSomeAnd new.said (λ turn. IsSaid step turn new.host old.host))
    ⊎ ((status ≡ disorder) × (may_come old.host step ≡ false) × (new ≡ old))
    ⊎ ((status ≡ no_memory) × (is_offering step ≡ true) × (new ≡ old))

-- what a line spells: one that spells no step changes nothing
abbrev pub IsSpelled : Option Step → ℤ → Told → Told → Type 0
IsSpelled None status new old = (status ≡ invalid) × (new ≡ old)
IsSpelled (Some step) status new old = IsTurn step status new old

-- a line: what it spells; or ENOMEM before that is known, only where its words say that data or answers follow, and nothing is changed
abbrev pub IsLine : List ℕ → ℤ → Told → Told → Type 0
IsLine line status new old = IsSpelled (parsed line) status new old ⊎ ((takes_memory line ≡ true) × (status ≡ no_memory) × (new ≡ old))

-- the same of a handle
abbrev pub IsStep : List ℕ → ℤ → Option Told → Option Told → Type 0
IsStep line status new None = (status ≡ no_device) × (new ≡ None)
IsStep line status new (Some old) = IsSomeAnd new (λ t. IsLine line status t old)

-- a text goes to the front of a room, where it fits: 0, and its length is written; else nothing is written
abbrev pub IsPut : List ℕ → ℤ → ℕ → ℕ → List ℕ → List ℕ → Type 0
IsPut text status len before new old =
    MatchBool (nat_le (length text) (length old)) ((status ≡ pos 0) × (len ≡ length text) × (new ≡ text ++ drop (length text) old)) ((status ≡ invalid) × (len ≡ before) × (new ≡ old))

-- the same of a text that may not be there
abbrev pub IsText : Option (List ℕ) → ℤ → ℕ → ℕ → List ℕ → List ℕ → Type 0
IsText None status len before new old = (status ≡ invalid) × (len ≡ before) × (new ≡ old)
IsText (Some text) status len before new old = IsPut text status len before new old

-- the line of a turn's reply
abbrev pub reply_line : Option Said → Option (List ℕ)
reply_line None = None
reply_line (Some turn) = Some (slot_reply_text turn.slot turn.reply)

-- the same of a handle
abbrev pub IsTextOf : Option Told → ℤ → ℕ → ℕ → List ℕ → List ℕ → Type 0
IsTextOf None status len before new old = (status ≡ no_device) × (len ≡ before) × (new ≡ old)
IsTextOf (Some t) status len before new old = IsText (reply_line t.said) status len before new old

-- ---- offers
-- the line of what was offered to the log
abbrev pub log_line : ℕ → Option LogOffer → Option (List ℕ)
log_line slot None = None
log_line slot (Some offer) = Some (log_offer_text slot offer)

-- the line of what was offered to the home device
abbrev pub home_line : ℕ → Option HomeOffer → Option (List ℕ)
home_line slot None = None
home_line slot (Some offer) = Some (home_offer_text slot offer)

-- the line of a turn's offer at a place: those to the log stand before those to the home device
abbrev pub offer_in : ℕ → Said → Option (List ℕ)
offer_in index turn =
    if nat_lt index (length turn.log) then log_line turn.slot (slice_get turn.log index)
    else home_line turn.slot (slice_get turn.home (index - length turn.log))

-- the same of the last turn, if there was one
abbrev pub offer_line : ℕ → Option Said → Option (List ℕ)
offer_line index None = None
offer_line index (Some turn) = offer_in index turn

-- the same of a handle
abbrev pub IsOfferOf : ℕ → Option Told → ℤ → ℕ → ℕ → List ℕ → List ℕ → Type 0
IsOfferOf index None status len before new old = (status ≡ no_device) × (len ≡ before) × (new ≡ old)
IsOfferOf index (Some t) status len before new old = IsText (offer_line index t.said) status len before new old
