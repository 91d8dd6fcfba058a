-- A host, and what its last step said.
use Rattle.std.specs.Prelude.{Option}
use Rattle.xt_base.specs.Alone.{Said}
use Rattle.xt_core.specs.Host.{Host}

-- the sixteen slots with their queue and hands; and the last turn, once there was one
pub record Told : Type 0 where
  pub host : Host
  pub said : Option Said
