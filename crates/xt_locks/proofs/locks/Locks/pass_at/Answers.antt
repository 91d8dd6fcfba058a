use Rattle.std.proofs.Common.{◌∙◌, sym}
use Rattle.xt_locks.proofs.PassLemmas.{stays}
use Rattle.xt_locks.proofs.locks.Locks.pass_at.Goals as goal

pub returns-then-not-is_owned_by-clause-entry : goal.returns-then-not-is_owned_by-clause-entry
returns-then-not-is_owned_by-clause-entry g c =
    λ f fits. stays c.args.trans f c.args.self.now c.args.index c.entry_at-entry.result c.entry_at-entry.ensures (sym c.is_owned_by.ensures ∙ c.if-not-is_owned_by.true)
