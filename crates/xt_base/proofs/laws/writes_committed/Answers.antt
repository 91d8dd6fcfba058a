use Rattle.xt_base.proofs.DeviceLemmas.{planned_committed, text_committed}
use Rattle.xt_base.proofs.laws.writes_committed.Goals as goal

pub returns : goal.returns
returns c = record { plan = planned_committed; text = text_committed }
