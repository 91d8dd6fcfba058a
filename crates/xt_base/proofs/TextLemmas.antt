-- The text of a checkpoint, where it is known whether it says the size of a block.
use Rattle.std.proofs.Common.{◌≡◌, ap, false, true, List, ℕ}
use Rattle.std.specs.Prelude.{if◌then◌else◌}
use Rattle.xt_base.specs.Form.{Form}
use Rattle.xt_base.specs.Text.{sized_text_with, text_in, text_with}

-- one that does not
pub plain_text : (form : Form) (number count : ℕ) (body : List ℕ) → form.sized ≡ false → text_in form number count body ≡ text_with number count body
plain_text form number count body plain = ap (λ says. if says then sized_text_with form.size number count body else text_with number count body) plain

-- one that does
pub sized_text : (form : Form) (number count : ℕ) (body : List ℕ) → form.sized ≡ true → text_in form number count body ≡ sized_text_with form.size number count body
sized_text form number count body sized = ap (λ says. if says then sized_text_with form.size number count body else text_with number count body) sized
