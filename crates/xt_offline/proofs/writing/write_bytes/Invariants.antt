use Rattle.xt_offline.specs.Printing.{IsWrittenUpTo}
use Rattle.xt_offline.proofs.writing.write_bytes.Given as goal

abbrev pub invariant-loop-try : goal.invariant-loop-try
invariant-loop-try g l = IsWrittenUpTo (g.W.Write.contents l.fn.writer) (g.W.Write.contents l.writer) l.bytes l.rest
