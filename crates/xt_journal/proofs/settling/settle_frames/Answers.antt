use Rattle.std.proofs.Common.{rules}
use Rattle.xt_journal.specs.Journals.{is_busy_beside}
use Rattle.xt_journal.proofs.settling.settle_frames.Goals as goal

pub returns : goal.returns
returns c = c.settle.ensures (is_busy_beside c.args.locks.now c.args.items.now) (λ near b r after h. search rules)
