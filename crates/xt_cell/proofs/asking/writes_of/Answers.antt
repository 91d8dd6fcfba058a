-- The first of the eight are those of the plan.
use Rattle.xt_cell.proofs.AskingLemmas.{planned}
use Rattle.xt_cell.proofs.asking.writes_of.Goals as goal

pub returns-clause-writes : goal.returns-clause-writes
returns-clause-writes c =
    planned c.args.slot.now.mounted c.args.blocks.now _ _ _ _ _ _ _ _ c.requires.few c.write_at.ensures.write c.write_at-2.ensures.write c.write_at-3.ensures.write c.write_at-4.ensures.write c.write_at-5.ensures.write
    c.write_at-6.ensures.write c.write_at-7.ensures.write c.write_at-8.ensures.write
