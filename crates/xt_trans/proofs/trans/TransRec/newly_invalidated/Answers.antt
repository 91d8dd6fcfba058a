use Rattle.std.proofs.Common.{refl, subst}
use Rattle.xt_base.specs.Sound.{IsRising}
use Rattle.xt_base.specs.State.{Leg}
use Rattle.xt_trans.proofs.ChargeLemmas.{changes_rise, newly_stale}
use Rattle.xt_trans.proofs.trans.TransRec.newly_invalidated.Goals as goal

pub returns-clause-charge : goal.returns-clause-charge
returns-clause-charge c =
    let rise = subst (λ (l : Leg). IsRising l.changes) c.self.view_is (changes_rise c.self.inside.items c.self.invariant) in
    λ ends. newly_stale ends c.args.block c.args.self.now c.new_blocks-blocks.result 0 rise c.new_blocks-blocks.ensures refl
