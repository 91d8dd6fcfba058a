-- What follows where a line is the line of a step.
use Rattle.std.proofs.Common.{Bool, true, false, leb, List, None, Option, Result, Some, ap, arith, length, refl, subst, sym, ℕ, ◌<◌, ◌∙◌, ◌≡◌, ◌≤◌, [], cond}
use Rattle.std.proofs.lemmas.Bool.{false_from_ne_true, le-leb, lt-leb}
use Rattle.std.proofs.lemmas.Option.{same_Some}
use Rattle.std.proofs.lemmas.Slice.Eq.{bytes_eq-Decides}
use Rattle.std.specs.Str.{bytes_eq}
use Rattle.xt_base.specs.declared.steps.Step.{Step}
use Rattle.xt_text.proofs.Lengths.{line_fits}
use Rattle.xt_text.proofs.StepAgain.{step_again}
use Rattle.xt_text.specs.Buffer.{put}
use Rattle.xt_text.specs.LineReading.{parsed, step_of}
use Rattle.xt_text.specs.Lines.{IsStep, line_of}
use Rattle.xt_text.specs.Reading.{Gives}
use Rattle.xt_text.specs.declared.bad_line.BadLine.{BadLine}

-- the line of a step is read as that step
pub line_gives : (line : List ℕ) (step : Step) → IsStep step → line ≡ line_of step → step_of line ≡ Some step
line_gives line step is e = ap step_of e ∙ step_again step is

-- a line that is not too long is what is put into an empty buffer
pub line_is_printed : (line text : List ℕ) → length line ≤ 8400 → line ≡ text → put (Some []) text ≡ Some line
line_is_printed line text short e =
    let fits : length text ≤ 8448 = omega (arith, ap length e) in
    rw (le-leb (length text) 8448 fits) (ap Some (sym e))

-- a buffer that holds a line after a text was put into it, by the test of room, holds that text
pub printed_when : (line text : List ℕ) (b : Bool) → ◌≡◌ {A = Option (List ℕ)} (cond b (Some text) None) (Some line) → line ≡ text
printed_when line text true e = sym (same_Some text line e)
printed_when line text false e = cc

-- the same by the definition of put
pub printed_is_line : (line text : List ℕ) → put (Some []) text ≡ Some line → line ≡ text
printed_is_line line text e = printed_when line text (leb (length text) 8448) e

-- ---- what a line is parsed as
-- a line that is too long is parsed as no step
pub long_parsed : (line : List ℕ) → 8400 < length line → parsed line ≡ None
unfolding parsed
long_parsed line long = rw (lt-leb (length line) 8400 long) refl

-- a line that gives no step is parsed as none
pub none_parsed : (line : List ℕ) → length line ≤ 8400 → step_of line ≡ None → parsed line ≡ None
unfolding parsed
none_parsed line short none = rw (le-leb (length line) 8400 short, none) refl

-- the line of the step that it gives is parsed as that step
pub same_parsed : (line : List ℕ) (step : Step) → length line ≤ 8400 → step_of line ≡ Some step → line ≡ line_of step → parsed line ≡ Some step
unfolding parsed
same_parsed line step short gives same = rw (le-leb (length line) 8400 short, gives, (bytes_eq-Decides line (line_of step)).1 same) refl

-- a line that gives a step of another line is parsed as none
pub other_parsed : (line : List ℕ) (step : Step) → length line ≤ 8400 → step_of line ≡ Some step → (line ≡ line_of step → ⊥) → parsed line ≡ None
unfolding parsed
other_parsed line step short gives other =
    rw (le-leb (length line) 8400 short, gives, false_from_ne_true (bytes_eq line (line_of step)) (λ same. other ((bytes_eq-Decides line (line_of step)).0 same))) refl

-- a step that has a line is parsed from it
pub parsed_again : (step : Step) → IsStep step → parsed (line_of step) ≡ Some step
parsed_again step is = same_parsed (line_of step) step (line_fits step is) (step_again step is) refl

-- where a reader answers as a line is parsed, it answers so of the line of a step
pub gives_own : (line : List ℕ) (step : Step) (r : Result Step BadLine) → IsStep step → line ≡ line_of step → Gives r (parsed line) → Gives r (Some step)
gives_own line step r is e gives = subst (λ o. Gives r o) (ap parsed e ∙ parsed_again step is) gives
