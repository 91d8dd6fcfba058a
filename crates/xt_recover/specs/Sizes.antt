-- The size of a block, as texts say it or do not.
use Rattle.std.specs.Prelude.{None, Option, Some, if◌then◌else◌, ℕ}
use Rattle.xt_base.specs.Form.{Form, form_of}

-- the bytes of a block of which texts say this
abbrev pub block_size : Option ℕ → ℕ
block_size size = (form_of size).size

-- what the texts of a form say of the size of a block
abbrev pub said_size : Form → Option ℕ
said_size form = if form.sized then Some form.size else None
