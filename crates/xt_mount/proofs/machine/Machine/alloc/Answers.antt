use Rattle.xt_mount.proofs.RollLemmas.{absent_above}
use Rattle.xt_mount.proofs.machine.Machine.alloc.Goals as goal

pub begin-requires-clause-free : goal.begin-requires-clause-free
begin-requires-clause-free c = absent_above c.args.self.now.last_trans c.args.self.now.accounts.transactions c.requires.numbers
