use Rattle.std.proofs.Common.{◌≡◌, ◌+◌, List, length, subst, ℕ}
use Rattle.xt_base.specs.Chunks.{union}
use Rattle.xt_base.specs.Sound.{IsRising}
use Rattle.xt_base.specs.State.{Leg}
use Rattle.xt_trans.proofs.ChargeLemmas.{changes_rise, newly_edited}
use Rattle.xt_trans.proofs.trans.TransRec.newly_logged.Goals as goal

pub returns-clause-charge : goal.returns-clause-charge
returns-clause-charge c =
    let rise = subst (λ (l : Leg). IsRising l.changes) c.self.view_is (changes_rise c.self.inside.items c.self.invariant) in
    λ ends. newly_edited ends c.args.block c.args.marked c.args.self.now c.new_blocks-blocks.result c.lacks-chunks.result rise c.new_blocks-blocks.ensures
    (subst (λ (s : List ℕ). length (union s c.args.marked) ≡ length s + c.lacks-chunks.result) c.charged_of.ensures c.lacks-chunks.ensures.value)
