-- What is read of a log in two files.
use Rattle.std.specs.Prelude.{List, Option, [], length, ℕ, ◌++◌, ◌∷◌, ◌≡◌, ◌≤◌, ◌⊎◌}
use Rattle.xt_ckpt.specs.Grammar.{Entry}
use Rattle.xt_recover.specs.Reading.{HasTexts, ReadsAs}
use Rattle.xt_recover.specs.SealedFiles.{ReadsFiles}
use Rattle.xt_seal.specs.Headers.{head_bytes}
use Rattle.xt_seal.specs.Seal.{BeginsNoSealed, BeginsSealed, seal_of, text_seal}
use Rattle.xt_seal.specs.declared.header.Header.{Header}
use Rattle.xt_window.specs.Rest.{HasLater}
use Rattle.xt_window.specs.Start.{BeginsHeader}
use Rattle.xt_window.specs.Ways.{HasNoBegin, IsBare, IsNextHeader}
use Rattle.xt_window.specs.declared.rest.TheConstants.{REST_BYTES}
use Rattle.xt_window.specs.declared.way.Which.{Which}

-- two files are read as these texts: where the first one begins as a text does, and the other has nothing, as a log without seals; else by their headers
abbrev pub ReadsLog : Option ℕ → List ℕ → List ℕ → List (List Entry) → Type 0
ReadsLog size one other texts = (IsBare one other × ReadsAs size one texts) ⊎ ((IsBare one other → ⊥) × ReadsFiles size one other texts)

-- ---- one file
-- bytes behind a seal are these texts, each with its own behind it, and then, behind this last seal, such a rest
abbrev pub AreSealed : Option ℕ → List ℕ → List ℕ → List ℕ → List (List Entry) → List ℕ → List ℕ → Type 0
AreSealed size head before bytes [] last rest = (last ≡ before) × (rest ≡ bytes)
AreSealed size head before bytes (t ∷ ts) last rest =
    (text more : List ℕ) × (number : ℕ) × BeginsSealed head before size bytes text number t more × AreSealed size head (text_seal head before text) more ts last rest

-- a file is a header, such texts behind it, and such a rest
pub record HasSealedTexts (size : Option ℕ) (bytes : List ℕ) (h : Header) (texts : List (List Entry)) (last rest : List ℕ) : Type 0 where
  pub more : List ℕ
  pub begins : BeginsHeader bytes h more
  pub sealed : AreSealed size (head_bytes h) (seal_of (head_bytes h)) more texts last rest

-- it is read up to its last text, whatever stands behind that: no text with its due seal does
pub record EndsWith (size : Option ℕ) (bytes : List ℕ) (h : Header) (texts : List (List Entry)) (last : List ℕ) : Type 0 where
  pub rest : List ℕ
  pub file : HasSealedTexts size bytes h texts last rest
  pub ends : BeginsNoSealed (head_bytes h) last rest

-- so is the newer file, and behind its last text stand so many bytes, as a loss of power may leave them: no more than of one text, and no later text among them
pub record EndsTorn (size : Option ℕ) (bytes : List ℕ) (h : Header) (texts : List (List Entry)) (left : ℕ) : Type 0 where
  pub last : List ℕ
  pub rest : List ℕ
  pub file : HasSealedTexts size bytes h texts last rest
  pub ends : BeginsNoSealed (head_bytes h) last rest
  pub none : HasLater (head_bytes h) rest → ⊥
  pub few : length rest ≤ REST_BYTES
  pub count : left ≡ length rest

-- ---- two files
-- one goes on where the other's texts end
pub record AreLinked (size : Option ℕ) (older newer : List ℕ) (texts : List (List Entry)) (rest : ℕ) : Type 0 where
  pub header : Header
  pub next : Header
  pub follows : IsNextHeader header next
  pub front : List (List Entry)
  pub behind : List (List Entry)
  pub first : EndsWith size older header front next.link
  pub second : EndsTorn size newer next behind rest
  pub parts : texts ≡ front ++ behind

-- one has no text, and the other has all
pub record IsAlone (size : Option ℕ) (bare one : List ℕ) (texts : List (List Entry)) (rest : ℕ) : Type 0 where
  pub none : HasNoBegin bare
  pub header : Header
  pub file : EndsTorn size one header texts rest

-- they have a log without seals
pub record IsUnsealedLog (size : Option ℕ) (one other : List ℕ) (texts : List (List Entry)) (rest : ℕ) : Type 0 where
  pub bare : IsBare one other
  pub read : ReadsAs size one texts
  pub parts : HasTexts size one texts rest

-- they have no text
pub record HaveNothing (one other : List ℕ) (texts : List (List Entry)) (rest : ℕ) : Type 0 where
  pub sealed : IsBare one other → ⊥
  pub none : HasNoBegin one
  pub none_too : HasNoBegin other
  pub nothing : texts ≡ []
  pub no_rest : rest ≡ 0

-- two files were read as these texts and so many bytes behind them, and this one is older: it is to be emptied first
abbrev pub IsRead : Which → Option ℕ → List ℕ → List ℕ → List (List Entry) → ℕ → Type 0
IsRead Which.One size one other texts rest = AreLinked size one other texts rest ⊎ IsAlone size one other texts rest
IsRead Which.Other size one other texts rest = (AreLinked size other one texts rest ⊎ IsAlone size other one texts rest) ⊎ (IsUnsealedLog size one other texts rest ⊎ HaveNothing one other texts rest)
