use Rattle.std.proofs.Common.{arith, length, ◌<◌}
use Rattle.std.proofs.lemmas.Str.Pattern.{contains_char}
use Rattle.xt_volumes.proofs.VolumeLemmas.{no_colon}
use Rattle.xt_volumes.proofs.volume.is_file_name.Goals as goal

-- the test finds a colon exactly where one stands
pub returns-then-not-is_empty : goal.returns-then-not-is_empty
returns-then-not-is_empty c =
    let found = contains_char 58 c.args.name.now c.contains.result c.contains.ensures.cases (omega arith) in
    let some : 0 < length c.args.name.now = grind (arith, c.is_empty.ensures, c.if-not-is_empty.true) in
    no_colon _ _ found some
