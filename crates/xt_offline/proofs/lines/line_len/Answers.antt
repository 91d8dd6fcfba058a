use Rattle.std.proofs.Common.{◌∙◌}
use Rattle.xt_offline.proofs.LineLemmas.{end_within, found_end}
use Rattle.xt_offline.proofs.lines.line_len.Goals as goal

pub returns-clause-value : goal.returns-clause-value
returns-clause-value c = c.unwrap_or.ensures ∙ found_end c.args.text.now c.memchr.result c.memchr.ensures

pub returns-clause-bound : goal.returns-clause-bound
returns-clause-bound c = end_within c.args.text.now c.unwrap_or.result (c.unwrap_or.ensures ∙ found_end c.args.text.now c.memchr.result c.memchr.ensures)
