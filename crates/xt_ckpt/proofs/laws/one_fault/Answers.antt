use Rattle.xt_ckpt.proofs.Faults.{same_fault, fault_or_unfinished}
use Rattle.xt_ckpt.proofs.laws.one_fault.Goals as goal

pub returns-clause-same : goal.returns-clause-same
returns-clause-same c = same_fault

pub returns-clause-only : goal.returns-clause-only
returns-clause-only c = fault_or_unfinished
