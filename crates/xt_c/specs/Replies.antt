-- Replies as a caller's words.
use Rattle.std.specs.Prelude.{List, [], if◌then◌else◌, length, slice_index, ℕ, ◌<◌, ◌==◌, ◌≡◌}
use Rattle.xt_base.specs.Errors.{number_of}
use Rattle.xt_base.specs.declared.steps.Errno.TheVariants.{Io}
use Rattle.xt_base.specs.declared.steps.Reply.{Reply}
use Rattle.xt_base.specs.declared.steps.Reply.TheVariants.{Aborted, Begun, Committed, CommittedHeld, Data, Done, Failed, Flushed, Free, Kept, Landed, Life, Nothing, Okay, OkayHeld, Refused, Seen, Stat, Trans, Wait}
use Rattle.xt_c.specs.declared.words.ReplyWords.{ReplyWords}

-- the word of a reply
abbrev pub word_in : Reply → ℕ
word_in Okay = 0
word_in (OkayHeld held) = 1
word_in (Life life) = 2
word_in (Trans trans) = 3
word_in (Committed number) = 4
word_in (CommittedHeld number held) = 5
word_in (Aborted held) = 6
word_in (Wait number) = 7
word_in Done = 8
word_in Kept = 9
word_in Free = 10
word_in (Data content) = 11
word_in Nothing = 12
word_in (Begun number pieces) = 13
word_in (Landed number) = 14
word_in (Failed number) = 15
word_in (Flushed count) = 16
word_in (Seen life reason) = 17
word_in (Refused errno) = 18
word_in (Stat told) = 19

-- why it refuses; 0 where it doesn't
abbrev pub errno_in : Reply → ℕ
errno_in (Refused errno) = number_of errno
errno_in (Aborted held) = number_of Io
errno_in other = 0

-- the number that it tells; 0 where it tells none
abbrev pub number_in : Reply → ℕ
number_in (Life life) = life
number_in (Trans trans) = trans
number_in (Committed number) = number
number_in (CommittedHeld number held) = number
number_in (Wait number) = number
number_in (Begun number pieces) = number
number_in (Landed number) = number
number_in (Failed number) = number
number_in (Flushed count) = count
number_in (Seen life reason) = life
number_in other = 0

-- how many pieces a begun checkpoint has; else 0
abbrev pub pieces_in : Reply → ℕ
pieces_in (Begun number pieces) = pieces
pieces_in other = 0

-- the blocks that it leaves held
abbrev pub held_in : Reply → List ℕ
held_in (OkayHeld held) = held
held_in (CommittedHeld number held) = held
held_in (Aborted held) = held
held_in other = []

-- numbers stand at the front of a room; what stands behind them says nothing
abbrev pub StandsIn : List ℕ → List ℕ → Type 0
StandsIn numbers room = (k : ℕ) → k < length numbers → slice_index room k ≡ slice_index numbers k

-- the words say the reply
pub record Shows (r : Reply) (w : ReplyWords) : Type 0 where
  pub word : w.word ≡ word_in r
  pub errno : w.errno ≡ errno_in r
  pub number : w.number ≡ number_in r
  pub pieces : w.pieces ≡ pieces_in r
  pub count : w.held_count ≡ length (held_in r)
  pub held : StandsIn (held_in r) w.held

-- a room after a reply: it gets the content that the reply carries, where it is as long
abbrev pub room_after : Reply → List ℕ → List ℕ
room_after (Data content) room = if length room == length content then content else room
room_after other room = room
