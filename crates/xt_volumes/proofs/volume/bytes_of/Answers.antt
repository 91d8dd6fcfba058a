use Rattle.std.proofs.Common.{arith, ap, ◌∙◌}
use Rattle.std.proofs.lemmas.Fmt.{parse-decimal}
use Rattle.std.specs.Result.{result_ok}
use Rattle.xt_volumes.proofs.volume.bytes_of.Goals as goal

-- the decimal of a number is read as that number
pub returns : goal.returns
returns c = λ n small is. c.ok.ensures.value ∙ ap result_ok (parse-decimal 32 n _ c.parse.result small (omega (arith, small)) is c.parse.ensures.value.0)
