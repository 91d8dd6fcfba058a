-- What makes the texts of a mount texts of the grammar: their numbers, blocks and sets of chunks fit the fields.
use Rattle.std.proofs.Common.{List, Option, Some, length, true, ◌<◌, ◌^◌, ◌≡◌, ◌≤◌, ℕ}
use Rattle.xt_base.specs.Chunks.{places_of}
use Rattle.xt_base.specs.Form.{Form, form_of, is_size}
use Rattle.xt_base.specs.Maps.{at, is_in}
use Rattle.xt_base.specs.Sized.{IsWithin}
use Rattle.xt_base.specs.Sound.{Each, IsRising}
use Rattle.xt_base.specs.State.{Flight, State}
use Rattle.xt_base.specs.Text.{pieces}
use Rattle.xt_base.specs.declared.sizes.TheConstants.{BUSY_BLOCKS}
use Rattle.xt_recovery.specs.Disks.{Disks, flight_text}
use Rattle.xt_recovery.specs.Log.{CheckpointText, text_bytes}

-- a set of chunks is that of a word of 32 bits
abbrev pub IsChunkSet : List ℕ → Type 0
IsChunkSet set = (bits : ℕ) × (bits < 2 ^ 32) × (set ≡ places_of bits)

-- the form of a volume, by the size that is said, if one is
abbrev pub IsVolumeForm : Form → Type 0
IsVolumeForm form = (size : Option ℕ) × (is_size size ≡ true) × (form_of size ≡ form)

-- an item fits its fields
abbrev pub FitsFields : ℕ → List ℕ → Type 0
FitsFields b set = (b < 2 ^ 64) × IsChunkSet set

-- a text of this form is one of the grammar
pub record IsWellFormed (form : Form) (w : CheckpointText) : Type 0 where
  pub said : IsVolumeForm form
  pub first : 1 ≤ w.number
  pub range : w.number < 2 ^ 64
  pub some : 1 ≤ length w.items
  pub few : length w.items ≤ BUSY_BLOCKS
  pub rising : IsRising w.items
  pub fit : (b : ℕ) (set : List ℕ) → at b w.items ≡ Some set → FitsFields b set
  pub within : Each (λ e. IsWithin form.size e.1) w.items
  pub whole : (b : ℕ) → length (w.contents b) ≡ form.size

-- the text of a checkpoint in flight is one of the grammar, and is offered piece by piece
pub record IsFlightOfText (d : Disks) (f : Flight) : Type 0 where
  pub proper : IsWellFormed d.form (flight_text f d)
  pub pieces : f.pieces ≡ pieces (text_bytes d.form (flight_text f d))

-- the blocks of a mount of a volume and the items of its commit list fit the fields of a text, and so does its flight
pub record FitsTexts (d : Disks) (s : State) : Type 0 where
  pub said : IsVolumeForm d.form
  pub blocks : s.blocks < 2 ^ 64
  pub owners : (b : ℕ) → is_in b s.owners ≡ true → b < 2 ^ 64
  pub items : (b : ℕ) (set : List ℕ) → at b s.items.cil ≡ Some set → FitsFields b set
  pub flight : (f : Flight) → s.items.flight ≡ Some f → IsFlightOfText d f
