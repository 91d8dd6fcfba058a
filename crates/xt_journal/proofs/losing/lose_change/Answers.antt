use Rattle.std.proofs.Common.{ap, arith, length}
use Rattle.xt_base.proofs.KeyLemmas.{length_member}
use Rattle.xt_frames.specs.Contents.{Bufs}
use Rattle.xt_journal.proofs.losing.lose_change.Goals as goal

pub returns-then-is_held-clause-count : goal.returns-then-is_held-clause-count
returns-then-is_held-clause-count c =
    omega (arith, ap (λ (b : Bufs). length b.fresh) c.make_fresh.ensures, length_member c.args.block c.undo.new.self.fresh, ap (λ (b : Bufs). length b.fresh) c.undo.ensures)
