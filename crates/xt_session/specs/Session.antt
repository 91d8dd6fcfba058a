-- What a session reads, answers and writes.
use Rattle.std.specs.Io.KnownBytes.{Appends, Consumes, IsAtEnd, Keeps}
use Rattle.std.specs.List.{AllByRecursion}
use Rattle.std.specs.Prelude.{IsTrue, List, Option, [], codes, length, take, ℕ, ◌++◌, ◌<◌, ◌≡◌, ◌≤◌, ◌∷◌}
use Rattle.xt_base.specs.declared.steps.Reply.{Reply}
use Rattle.xt_base.specs.declared.steps.Step.{Step}
use Rattle.xt_session.specs.Cut.{Cut, cut, ended, last_line}
use Rattle.xt_session.specs.declared.session_end.SessionEnd.{SessionEnd}
use Rattle.xt_session.specs.declared.session_end.SessionEnd.TheVariants.{End, Memory, ReadFault, TooLong, WriteFault}
use Rattle.xt_text.specs.Lines.{IsStep, line_of}
use Rattle.xt_text.specs.Replies.{reply_text}
use Rattle.xt_text.specs.SessionLines.{in_session, takes_memory}

-- ---- one line
-- a line is that of a step which sessions read
pub record IsLineOf (line : List ℕ) (step : Step) : Type 0 where
  pub valid : IsStep step
  pub session : IsTrue (in_session step)
  pub short : length line ≤ 8400
  pub text : line ≡ line_of step

-- a line that sessions do not read
abbrev pub IsBadLine : List ℕ → Type 0
IsBadLine line = (step : Step) → IsLineOf line step → ⊥

-- a line's reply in a state of the object, and the state after it: the object is asked of the line's step, except where sessions
-- do not read the line, or where there was no memory to parse it
pub data Answered {C : Type 0} (answers : C → Step → Reply → C → Type 0) (now : C) (line : List ℕ) : List ℕ → C → Type 0 where
  bad : IsBadLine line → Answered answers now line (codes "bad line") now
  starved : IsTrue (takes_memory line) → Answered answers now line (codes "ENOMEM") now
  asked : (step : Step) (reply : Reply) (next : C) → IsLineOf line step → answers now step reply next → Answered answers now line (reply_text reply) next

-- the replies to lines, a line for each, by one chain of states from the first to the last
pub data Says {C : Type 0} (answers : C → Step → Reply → C → Type 0) : C → List (List ℕ) → List ℕ → C → Type 0 where
  none : (now : C) → Says answers now [] [] now
  more : (first next last : C) (line reply : List ℕ) (lines : List (List ℕ)) (text : List ℕ) → Answered answers first line reply next → Says answers next lines text last → Says answers first (line ∷ lines) (ended reply ++ text) last

-- ---- streams
-- these bytes were read, at most so many, and each line that ends among them has at most 8,400
pub record Reads (bound : ℕ) (had has : Option (List ℕ)) (bytes : List ℕ) : Type 0 where
  pub consumed : Consumes had has bytes
  pub bounded : length bytes ≤ bound
  pub short : AllByRecursion (λ line. length line ≤ 8400) (cut bytes).lines

-- which lines were read with some bytes, by how the reading ended: at the end of the input what stands behind the last newline is a
-- line too; 8,401 bytes without a newline are a line, which is too long; else what stands there is none
abbrev pub AreLines : SessionEnd → Option (List ℕ) → Cut → List (List ℕ) → Type 0
AreLines End has bytes lines = IsAtEnd has × (length bytes.rest ≤ 8400) × (lines ≡ bytes.lines ++ last_line bytes.rest)
AreLines TooLong has bytes lines = (length bytes.rest ≡ 8401) × (lines ≡ bytes.lines ++ bytes.rest ∷ [])
AreLines ReadFault has bytes lines = (length bytes.rest ≤ 8400) × (lines ≡ bytes.lines)
AreLines other has bytes lines = ⊥

-- lines were answered, and all replies written
pub record Writes {C : Type 0} (answers : C → Step → Reply → C → Type 0) (lines : List (List ℕ)) (first now : C) (held holds : Option (List ℕ)) : Type 0 where
  pub text : List ℕ
  pub says : Says answers first lines text now
  pub written : Appends held holds text

-- lines were answered up to one, and of the reply to that one only the beginning was written
pub record Breaks {C : Type 0} (answers : C → Step → Reply → C → Type 0) (lines : List (List ℕ)) (first now : C) (held holds : Option (List ℕ)) : Type 0 where
  pub before : List (List ℕ)
  pub line : List ℕ
  pub more : List (List ℕ)
  pub place : lines ≡ before ++ line ∷ more
  pub text : List ℕ
  pub state : C
  pub says : Says answers first before text state
  pub reply : List ℕ
  pub last : Answered answers state line reply now
  pub count : ℕ
  pub partial : count < length (ended reply)
  pub written : Appends held holds (text ++ take count (ended reply))

-- ---- sessions
-- a session that answered every line it read
pub record IsServed {C : Type 0} (answers : C → Step → Reply → C → Type 0) (bound : ℕ) (end : SessionEnd) (first now : C) (had has held holds : Option (List ℕ)) : Type 0 where
  pub bytes : List ℕ
  pub lines : List (List ℕ)
  pub reads : Reads bound had has bytes
  pub are : AreLines end has (cut bytes) lines
  pub writes : Writes answers lines first now held holds

-- a session whose writer failed, wherever the reading stood
pub record IsBroken {C : Type 0} (answers : C → Step → Reply → C → Type 0) (bound : ℕ) (first now : C) (had has held holds : Option (List ℕ)) : Type 0 where
  pub bytes : List ℕ
  pub lines : List (List ℕ)
  pub reading : SessionEnd
  pub reads : Reads bound had has bytes
  pub are : AreLines reading has (cut bytes) lines
  pub breaks : Breaks answers lines first now held holds

-- a session that had no memory for its buffers
pub record IsUntouched {C : Type 0} (first now : C) (had has held holds : Option (List ℕ)) : Type 0 where
  pub same : now ≡ first
  pub unread : Keeps had has
  pub unwritten : Keeps held holds

-- what a session did before its end, by how it ended
abbrev pub Ran : {C : Type 0} → (C → Step → Reply → C → Type 0) → ℕ → C → C → Option (List ℕ) → Option (List ℕ) → Option (List ℕ) → Option (List ℕ) → SessionEnd → Type 0
Ran answers bound first now had has held holds WriteFault = IsBroken answers bound first now had has held holds
Ran answers bound first now had has held holds Memory = IsUntouched first now had has held holds
Ran answers bound first now had has held holds end = IsServed answers bound end first now had has held holds

-- a session: what it did, and then the object's end, once
pub record IsSession {C : Type 0} (answers : C → Step → Reply → C → Type 0) (ends : C → C → Type 0) (bound : ℕ) (first last : C) (had has held holds : Option (List ℕ)) (end : SessionEnd) : Type 0 where
  pub now : C
  pub ran : Ran answers bound first now had has held holds end
  pub closed : ends now last
