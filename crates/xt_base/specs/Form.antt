-- What differs from mount to mount: the size of a block, and what the text of a checkpoint has beside its items.
use Rattle.std.specs.Prelude.{Bool, None, Option, Some, false, true, ℕ, ◌*◌, ◌/◌, ◌==◌, ◌||◌, ◌≡◌, ◌≤◌}
use Rattle.xt_base.specs.declared.sizes.TheConstants.{BLOCK_BYTES, CHUNK_BYTES, ENDS, MOST_ENDS}

-- the bytes of a block; the bytes that a text has beside its items; whether a text says the size
pub record Form : Type 0 where
  pub size : ℕ
  pub ends : ℕ
  pub sized : Bool

-- whether a block may have so many bytes, where a size is said
abbrev pub is_size : Option ℕ → Bool
is_size None = true
is_size (Some n) = (n == 512) || (n == 1024) || (n == 2048) || (n == BLOCK_BYTES)

-- blocks of 4,096 bytes, and texts that do not say so: the form of a mount with no size said
abbrev pub form_one : Form
form_one = record { size = BLOCK_BYTES; ends = ENDS; sized = false }

-- blocks of a size, and texts that say it
abbrev pub form_two : ℕ → Form
form_two size = record { size = size; ends = MOST_ENDS; sized = true }

-- the form by the size that is said, if one is
abbrev pub form_of : Option ℕ → Form
form_of None = form_one
form_of (Some size) = form_two size

-- a block has one of the four sizes, which are whole chunks, and a text has something beside its items
pub record IsForm (f : Form) : Type 0 where
  pub least : 1 ≤ f.ends
  pub most : f.ends ≤ MOST_ENDS
  pub whole : f.size ≡ CHUNK_BYTES * (f.size / CHUNK_BYTES)
  pub small : f.size ≤ BLOCK_BYTES
  pub one_of : is_size (Some f.size) ≡ true
