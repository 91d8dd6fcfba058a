use Rattle.std.proofs.Common.{subst}
use Rattle.xt_base.specs.Sound.{IsRising}
use Rattle.xt_base.specs.State.{Leg}
use Rattle.xt_trans.proofs.ChargeLemmas.{changes_rise}
use Rattle.xt_trans.proofs.trans.TransRec.changes_rise.Goals as goal

pub returns : goal.returns
returns c = subst (λ (l : Leg). IsRising l.changes) c.self.view_is (changes_rise c.self.inside.items c.self.invariant)
