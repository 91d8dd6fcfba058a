use Rattle.std.proofs.Common.{◌≡◌, ◌∙◌, ◌∷◌, [], ap, subst}
use Rattle.std.specs.Prelude.{MatchOption}
use Rattle.xt_base.specs.Legs.{change_of}
use Rattle.xt_base.specs.Maps.{without}
use Rattle.xt_base.specs.State.{Leg}
use Rattle.xt_trans.specs.LegItems.{leg_of}
use Rattle.xt_trans.proofs.trans.TransRec.first_changed.Goals as goal

pub returns : goal.returns
returns c =
    subst (λ (l : Leg). MatchOption c.first_dirty.result (l.changes ≡ []) (λ block. l.changes ≡ (block, change_of block l) ∷ without block l.changes))
    (ap leg_of c.entries.ensures.value ∙ c.self.view_is) c.first_dirty.ensures
