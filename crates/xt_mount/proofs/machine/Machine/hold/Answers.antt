use Rattle.std.proofs.Common.{◌∙◌, ◌≡◌, subst, sym, true}
use Rattle.xt_base.specs.Calls.{is_own}
use Rattle.xt_mount.specs.Machines.{state_of}
use Rattle.xt_mount.proofs.EndLemmas.{as_named, named}
use Rattle.xt_mount.proofs.KeepLemmas.{room_held}
use Rattle.xt_mount.proofs.machine.Machine.hold.Goals as goal

pub hold-requires-clause-few : goal.hold-requires-clause-few
hold-requires-clause-few c =
    let s = state_of c.args.self.now in
    let own : is_own s c.args.trans c.args.block ≡ true = sym c.is_own.ensures ∙ c.if-not-is_own.false in
    as_named s.transactions _ (sym c.trans-2.view_is)
    (room_held s c.args.trans c.block.inside.0 c.in-Some.opened c.requires (named s.transactions c.in-Some.ensures c.trans.view_is)
    (subst (λ b. is_own s c.args.trans b ≡ true) (sym c.block.view_is) own))
