-- What is answered of the bytes that one turn at the reader leaves.
use Rattle.std.specs.Io.KnownBytes.{Appends}
use Rattle.std.specs.Prelude.{Bool, List, None, Option, Some, [], false, length, take, true, unwrap_or, ℕ, ◌++◌, ◌<◌, ◌≡◌, ◌≤◌, ◌∷◌, ◌⊎◌}
use Rattle.xt_base.specs.declared.steps.Reply.{Reply}
use Rattle.xt_base.specs.declared.steps.Step.{Step}
use Rattle.xt_session.specs.Cut.{Cut, cut, ended, last_line}
use Rattle.xt_session.specs.Session.{Answered, Breaks, Writes}
use Rattle.xt_session.specs.declared.session_end.SessionEnd.{SessionEnd}
use Rattle.xt_session.specs.declared.session_end.SessionEnd.TheVariants.{End, TooLong, WriteFault}

-- what a buffer holds
abbrev pub held : Option (List ℕ) → List ℕ
held text = unwrap_or text []

-- a buffer that holds a reply, and has room for its newline
abbrev pub HoldsReply : Option (List ℕ) → Type 0
HoldsReply text = (text ≡ Some (held text)) × (length (held text) ≤ 8400)

-- a line was answered, and its reply written, whole or in part
pub record IsWhole {C : Type 0} (answers : C → Step → Reply → C → Type 0) (line : List ℕ) (first now : C) (had has : Option (List ℕ)) : Type 0 where
  pub reply : List ℕ
  pub last : Answered answers first line reply now
  pub written : Appends had has (ended reply)

-- a line was answered, and only the beginning of its reply written
pub record IsPartial {C : Type 0} (answers : C → Step → Reply → C → Type 0) (line : List ℕ) (first now : C) (had has : Option (List ℕ)) : Type 0 where
  pub reply : List ℕ
  pub last : Answered answers first line reply now
  pub count : ℕ
  pub partial : count < length (ended reply)
  pub written : Appends had has (take count (ended reply))

-- a line was answered, and its reply written, whole or not
abbrev pub IsReplied : {C : Type 0} → (C → Step → Reply → C → Type 0) → Bool → List ℕ → C → C → Option (List ℕ) → Option (List ℕ) → Type 0
IsReplied answers true line first now had has = IsWhole answers line first now had has
IsReplied answers false line first now had has = IsPartial answers line first now had has

-- the lines of bytes that are held: where they are 8,401 without a newline, these too
abbrev pub HeldLines : Cut → List (List ℕ) → Type 0
HeldLines bytes lines = ((length bytes.rest ≤ 8400) × (lines ≡ bytes.lines)) ⊎ ((length bytes.rest ≡ 8401) × (lines ≡ bytes.lines ++ bytes.rest ∷ []))

-- what was answered of the bytes that were held, if the session goes on, and what is held then; or how it ended
abbrev pub Turns : {C : Type 0} → (C → Step → Reply → C → Type 0) → Option SessionEnd → List ℕ → List ℕ → C → C → Option (List ℕ) → Option (List ℕ) → Type 0
Turns answers None old new first now had has = (new ≡ (cut old).rest) × (length new ≤ 8400) × Writes answers (cut old).lines first now had has
Turns answers (Some TooLong) old new first now had has = (length (cut old).rest ≡ 8401) × Writes answers ((cut old).lines ++ (cut old).rest ∷ []) first now had has
Turns answers (Some WriteFault) old new first now had has = (lines : List (List ℕ)) × HeldLines (cut old) lines × Breaks answers lines first now had has
Turns answers (Some other) old new first now had has = ⊥

-- how a session ended after the line behind the last newline, where there was one, at the end of the input
abbrev pub Last : {C : Type 0} → (C → Step → Reply → C → Type 0) → SessionEnd → List ℕ → C → C → Option (List ℕ) → Option (List ℕ) → Type 0
Last answers End line first now had has = Writes answers (last_line line) first now had has
Last answers WriteFault line first now had has = Breaks answers (last_line line) first now had has
Last answers other line first now had has = ⊥

-- the first line of a text and what stands behind its newline
pub record IsFirst (text line after : List ℕ) : Type 0 where
  pub lines : (cut text).lines ≡ line ∷ (cut after).lines
  pub same : (cut text).rest ≡ (cut after).rest
