use Rattle.std.proofs.Common.{◌∙◌, ap, sym}
use Rattle.xt_base.specs.Maps.{has}
use Rattle.xt_base.specs.State.{Leg}
use Rattle.std.specs.Prelude.{unwrap_or}
use Rattle.xt_trans.proofs.ItemLemmas.{hold_is}
use Rattle.xt_trans.specs.LegItems.{blank, is_item_held}
use Rattle.xt_trans.proofs.trans.TransRec.is_held.Goals as goal

pub returns-in-Some : goal.returns-in-Some
returns-in-Some c =
    c.is_held.ensures ∙ ap (λ o. is_item_held (unwrap_or o blank)) c.in-Some.ensures ∙ sym (hold_is c.args.block c.self.inside.items c.self.invariant) ∙ ap (λ (l : Leg). has l.holds c.args.block) c.self.view_is

pub returns-in-None : goal.returns-in-None
returns-in-None c =
    ap (λ o. is_item_held (unwrap_or o blank)) c.in-None.ensures ∙ sym (hold_is c.args.block c.self.inside.items c.self.invariant) ∙ ap (λ (l : Leg). has l.holds c.args.block) c.self.view_is
