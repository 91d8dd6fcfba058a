use Rattle.xt_offline.proofs.AppendLemmas.{begins_longer, begins_then}
use Rattle.xt_offline.specs.Printing.{disorder_text}
use Rattle.xt_offline.proofs.printing.print_broken.Goals as goal

pub returns-in_err-write-clause-part : goal.returns-in_err-write-clause-part
returns-in_err-write-clause-part g c = begins_longer _ _ c.args.waiting.now (disorder_text c.args.at) c.write.ensures.part

pub returns-clause-part : goal.returns-clause-part
returns-clause-part g c = begins_then _ _ _ c.args.waiting.now (disorder_text c.args.at) c.in_ok-write.ensures.all c.write_numbered.ensures.part
