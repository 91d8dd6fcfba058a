use Rattle.xt_offline.proofs.AppendLemmas.{appends_then, begins_longer, begins_then}
use Rattle.xt_offline.proofs.writing.write_both.Goals as goal

pub returns-in_err-write_bytes-clause-part : goal.returns-in_err-write_bytes-clause-part
returns-in_err-write_bytes-clause-part g c = begins_longer _ _ c.args.first.now c.args.second.now c.write_bytes.ensures.part

pub returns-clause-all : goal.returns-clause-all
returns-clause-all g c = appends_then _ _ _ _ c.args.first.now c.args.second.now c.in_ok-write_bytes.ensures.all c.write_bytes-2.ensures.all

pub returns-clause-part : goal.returns-clause-part
returns-clause-part g c = begins_then _ _ _ c.args.first.now c.args.second.now c.in_ok-write_bytes.ensures.all c.write_bytes-2.ensures.part
