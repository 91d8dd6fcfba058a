use Rattle.xt_ckpt.proofs.Judging.{read_as, none_read}
use Rattle.xt_ckpt.proofs.reading.read_checkpoint_into.Goals as goal

pub returns-clause-only : goal.returns-clause-only
returns-clause-only c = read_as c.args.input.now c.judge.result c.judge.ensures

pub returns-clause-none : goal.returns-clause-none
returns-clause-none c = none_read c.args.input.now c.judge.result c.judge.ensures
