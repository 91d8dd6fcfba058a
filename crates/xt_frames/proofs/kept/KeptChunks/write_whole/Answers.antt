use Rattle.std.proofs.Common.{◌∙◌, ap}
use Rattle.xt_base.specs.Chunks.{marks}
use Rattle.xt_frames.proofs.kept.KeptChunks.write_whole.Goals as goal

pub returns-clause-chunks : goal.returns-clause-chunks
returns-clause-chunks c = c.mark-self-inside.ensures ∙ ap (marks 0) c.len.ensures.value
