-- What is summed up of a sealed log.
use Rattle.std.specs.declared.hash.DefaultHasher.{DefaultHasher}

-- the sum of the header; and the sum of the header, the last seal, and the pieces of a text behind that
pub record Sums : Type 0 where
  pub head : DefaultHasher
  pub text : DefaultHasher
