-- What is printed of the steps of a run.
use Rattle.std.specs.Prelude.{ℕ, List, [], ◌∷◌, ◌++◌, ◌+◌, ◌≡◌, ◌≤◌, Option, Some, length, unwrap_or, flat_map, codes, decimal}
use Rattle.std.specs.Io.KnownBytes.{Appends}
use Rattle.xt_base.specs.Alone.{Said}
use Rattle.xt_base.specs.declared.steps.HomeOffer.{HomeOffer}
use Rattle.xt_base.specs.declared.steps.LogOffer.{LogOffer}
use Rattle.xt_text.specs.Replies.{home_offer_text, log_offer_text, slot_reply_text}

-- a line with its newline
abbrev pub ended : List ℕ → List ℕ
ended line = line ++ 10 ∷ []

-- the lines of offers to a log device
abbrev pub log_lines : ℕ → List LogOffer → List ℕ
log_lines slot offers = flat_map (λ o. ended (log_offer_text slot o)) offers

-- the lines of offers to a home device
abbrev pub home_lines : ℕ → List HomeOffer → List ℕ
home_lines slot offers = flat_map (λ o. ended (home_offer_text slot o)) offers

-- the slot and the reply of a step, and then its offers
abbrev pub turn_text : Said → List ℕ
turn_text t = ended (slot_reply_text t.slot t.reply) ++ log_lines t.slot t.log ++ home_lines t.slot t.home

-- the lines of a run
abbrev pub turns_text : List Said → List ℕ
turns_text turns = flat_map turn_text turns

-- what a buffer holds
abbrev pub held : Option (List ℕ) → List ℕ
held text = unwrap_or text []

-- a buffer that holds a line, and has room for its newline
abbrev pub FitsLine : Option (List ℕ) → Type 0
FitsLine text = (text ≡ Some (held text)) × (length (held text) ≤ 8400)

-- words, a number and a newline
abbrev pub numbered : List ℕ → ℕ → List ℕ
numbered words number = (words ++ decimal number) ++ 10 ∷ []

-- which step broke order, counted from 1
abbrev pub disorder_text : ℕ → List ℕ
disorder_text at = numbered (codes "disorder ") (at + 1)

-- which line is no step's, counted from 1
abbrev pub bad_line_text : ℕ → List ℕ
bad_line_text number = numbered (codes "bad line ") number

-- that a script has too many bytes
abbrev pub too_long_text : List ℕ
too_long_text = ended (codes "fault: script too long")

-- a beginning of a text was written: all of it, nothing of it, or what lies between
pub record Begins (old new : Option (List ℕ)) (text : List ℕ) : Type 0 where
  pub part : List ℕ
  pub rest : List ℕ
  pub cut : text ≡ part ++ rest
  pub written : Appends old new part

-- the bytes in front of a rest of them were written
pub record IsWrittenUpTo (old new : Option (List ℕ)) (bytes rest : List ℕ) : Type 0 where
  pub part : List ℕ
  pub cut : bytes ≡ part ++ rest
  pub written : Appends old new part
