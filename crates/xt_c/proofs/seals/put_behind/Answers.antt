use Rattle.std.proofs.Common.{ap, take, ◌++◌, ◌∙◌}
use Rattle.xt_c.proofs.SealLemmas.{put_last}
use Rattle.xt_c.proofs.seals.put_behind.Goals as goal

pub returns : goal.returns
returns c = put_last 56 c.args.log.now c.copy_from_slice.new.self ∙ ap (λ s. take 56 c.args.log.now ++ s) (c.copy_from_slice.ensures.after ∙ c.seal_behind-seal.ensures.seal)
