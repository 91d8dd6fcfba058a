-- What is owned unless a handle is closed.
use Rattle.std.specs.Prelude.{Bool, false, true}
use base.Fml.{Fml, ftrue}

-- nothing where it is closed, else this
abbrev pub owned_unless : Bool → Fml → Fml
owned_unless true F = ftrue
owned_unless false F = F
