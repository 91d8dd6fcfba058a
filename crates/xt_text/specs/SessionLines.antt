-- The lines of sessions, and lines whose parsing takes memory.
use Rattle.std.specs.Prelude.{Bool, List, codes, false, length, nat_le, true, ℕ, ◌&&◌, ◌||◌}
use Rattle.std.specs.Str.{bytes_eq}
use Rattle.xt_base.specs.declared.steps.Answer.{Answer}
use Rattle.xt_base.specs.declared.steps.Request.{Request}
use Rattle.xt_base.specs.declared.steps.Request.TheVariants.{Unmount}
use Rattle.xt_base.specs.declared.steps.Step.{Step}
use Rattle.xt_base.specs.declared.steps.Step.TheVariants.{Call, Peek}
use Rattle.xt_text.specs.declared.words.TheConstants.{BLANK}
use Rattle.xt_text.specs.LineReading.{before, behind}

-- ---- sessions
-- a session makes every request but one that empties a slot
abbrev pub is_session_request : Request → Bool
is_session_request Unmount = false
is_session_request other = true

-- no device was asked
abbrev pub is_unasked : Answer → Bool
is_unasked Answer.None = true
is_unasked other = false

-- a session reads requests, without an answer of a device, and what the board shows
abbrev pub in_session : Step → Bool
in_session (Call slot life request answer) = is_session_request request && is_unasked answer
in_session (Peek slot) = true
in_session other = false

-- ---- memory
-- a request by this verb may carry data
abbrev pub takes_data : List ℕ → Bool
takes_data verb = bytes_eq verb (codes "log") || bytes_eq verb (codes "read")

-- a line that begins by this word may carry answers to a flush, or, by the verb behind it, data
abbrev pub takes_words : List ℕ → List ℕ → Bool
takes_words word words = bytes_eq word (codes "flush") || takes_data (before BLANK words)

-- a line whose parsing may take memory
abbrev pub takes_memory : List ℕ → Bool
takes_memory line = nat_le (length line) 8400 && takes_words (before BLANK line) (behind BLANK line)
