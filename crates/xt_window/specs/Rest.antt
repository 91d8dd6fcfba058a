-- What stands behind the last text of a sealed log.
use Rattle.std.specs.Prelude.{List, Option, length, ℕ, ◌++◌, ◌<◌, ◌≡◌, ◌≤◌}
use Rattle.xt_ckpt.specs.Grammar.{Entry}
use Rattle.xt_seal.specs.Seal.{BeginsSealed}
use Rattle.xt_window.specs.declared.rest.Rest.{Rest}
use Rattle.xt_window.specs.declared.rest.TheConstants.{REST_BYTES}

-- 8 bytes, and then a text with the seal that is due behind these, begin the bytes
pub record BeginsLater (head bytes : List ℕ) : Type 0 where
  pub before : List ℕ
  pub behind : List ℕ
  pub parts : bytes ≡ before ++ behind
  pub eight : length before ≡ 8
  pub size : Option ℕ
  pub text : List ℕ
  pub number : ℕ
  pub items : List Entry
  pub more : List ℕ
  pub sealed : BeginsSealed head before size behind text number items more

-- they do somewhere among the bytes
pub record HasLater (head bytes : List ℕ) : Type 0 where
  pub front : List ℕ
  pub rest : List ℕ
  pub parts : bytes ≡ front ++ rest
  pub later : BeginsLater head rest

-- what these bytes are behind the last text of a log with this header: so many as a loss of power may leave, without a later text; or more; or a later text is among them
abbrev pub IsRest : List ℕ → List ℕ → Rest → Type 0
IsRest head bytes (Rest.Torn count) = (count ≡ length bytes) × (length bytes ≤ REST_BYTES) × (HasLater head bytes → ⊥)
IsRest head bytes Rest.TooLong = REST_BYTES < length bytes
IsRest head bytes Rest.Later = HasLater head bytes
