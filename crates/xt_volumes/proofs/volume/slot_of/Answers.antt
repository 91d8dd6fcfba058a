use Rattle.std.proofs.Common.{rules, arith, ap, Some, None, ◌∙◌, ◌≡◌}
use Rattle.std.proofs.lemmas.Fmt.{parse-decimal}
use Rattle.std.specs.Result.{result_ok}
use Rattle.xt_volumes.proofs.VolumeLemmas.{made_slot}
use Rattle.xt_volumes.proofs.volume.slot_of.Goals as goal

-- the decimal of a number is read as that number
pub returns-in_err-index : goal.returns-in_err-index
returns-in_err-index c = λ n small is. let read : None ≡ Some n = c.in_err-index.ensures.value ∙ ap result_ok (parse-decimal 8 n _ c.parse.result (omega (arith, small)) (omega (arith, small)) is c.parse.ensures.value.0) in search (rules, read)

pub returns : goal.returns
returns c = λ n small is.
    let read : Some c.in_ok-index.index ≡ Some n = c.in_ok-index.ensures.value ∙ ap result_ok (parse-decimal 8 n _ c.parse.result (omega (arith, small)) (omega (arith, small)) is c.parse.ensures.value.0) in
    made_slot c.new.result c.in_ok-index.index n c.new.ensures.valid c.new.ensures.value read small
