-- What a live mount keeps of its own: each block idle once, and edits that mark what they change.
use Rattle.std.proofs.Common.{Bool, List, Option, Some, [], false, true, ◌∷◌, ◌≡◌, ℕ}
use Rattle.std.specs.Prelude.{is_some, unwrap_or, ◌||◌}
use Rattle.xt_base.specs.Maps.{at, has, is_in}
use Rattle.xt_base.specs.State.{Change, Frames, State, Transaction}
use Rattle.xt_base.specs.Text.{chunk, zeros}
use Rattle.xt_base.specs.declared.steps.Owner.{Owner}
use Rattle.xt_base.specs.declared.steps.Owner.TheVariants.{Held, Trans}
use Rattle.xt_recovery.specs.Log.{HasChunk}

-- each block stands once in a list of contents
abbrev pub AreDistinct : List (ℕ × List ℕ) → Type 0
AreDistinct [] = Unit {0}
AreDistinct (e ∷ es) = (is_in e.0 es ≡ false) × AreDistinct es

-- whether a block shows zeros or has a committed content
abbrev pub is_known : Frames → ℕ → Bool
is_known frames b = has frames.fresh b || is_in b frames.committed

-- an edit of a block of so many bytes differs from the committed content only in chunks that it marks, and marks one
pub record IsMarkedEdit (size : ℕ) (committed : Option (List ℕ)) (c : Change) : Type 0 where
  pub agrees : (content : List ℕ) (k : ℕ) → c.edit ≡ Some content → HasChunk size k → has c.marks k ≡ false → (is_some committed ≡ true) × (chunk content k ≡ chunk (unwrap_or committed (zeros size)) k)
  pub marks : (content : List ℕ) → c.edit ≡ Some content → (k : ℕ) × HasChunk size k × (has c.marks k ≡ true)

-- every edit of a leg does
abbrev pub AreMarkedEdits : ℕ → List (ℕ × List ℕ) → List (ℕ × Change) → Type 0
AreMarkedEdits size committed changes = (b : ℕ) (c : Change) → at b changes ≡ Some c → IsMarkedEdit size (at b committed) c

-- what holds of the contents, the owners and the open legs of a live mount
pub record AreConsistent (size : ℕ) (frames : Frames) (owners : List (ℕ × Owner)) (transactions : List (ℕ × Transaction)) : Type 0 where
  pub idle_once : AreDistinct frames.idle
  pub idle_apart : (b : ℕ) → is_in b frames.committed ≡ true → is_in b frames.idle ≡ false
  pub held : (b : ℕ) → at b owners ≡ Some Held → is_known frames b ≡ true
  pub owned : (b t count : ℕ) (trans : Transaction) → at b owners ≡ Some (Trans t count) → at t transactions ≡ Some trans → (is_known frames b || is_in b trans.leg.changes) ≡ true
  pub edits : (t : ℕ) (trans : Transaction) → at t transactions ≡ Some trans → AreMarkedEdits size frames.committed trans.leg.changes

-- the same of a mount
abbrev pub IsConsistent : State → Type 0
IsConsistent s = AreConsistent s.form.size s.frames s.owners s.transactions
