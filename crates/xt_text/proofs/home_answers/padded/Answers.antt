use Rattle.std.proofs.Common.{ap₂, false, length, ◌++◌}
use Rattle.std.proofs.lemmas.List.{drop-replicate}
use Rattle.xt_text.proofs.home_answers.padded.Goals as goal

-- src/home_answers.rt:35:1
pub returns : goal.returns
returns c = ap₂ (λ front behind. front ++ behind) c.copy_from_slice.ensures.after (drop-replicate (length c.args.writes.now) 8 false)
