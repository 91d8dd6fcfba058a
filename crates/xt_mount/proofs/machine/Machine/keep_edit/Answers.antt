use Rattle.std.proofs.Common.{◌≤◌, IfSome, [], length, subst, sym}
use Rattle.xt_base.specs.Calls.{edited}
use Rattle.xt_base.specs.Chunks.{marks}
use Rattle.xt_base.specs.Maps.{at}
use Rattle.xt_base.specs.Space.{charge}
use Rattle.xt_mount.specs.Machines.{state_of}
use Rattle.xt_mount.proofs.EndLemmas.{as_named}
use Rattle.std.proofs.Common.{◌+◌}
use Rattle.xt_base.specs.Calls.{seen}
use Rattle.xt_mount.proofs.machine.Machine.keep_edit.Goals as goal

pub log-requires-clause-fits : goal.log-requires-clause-fits
log-requires-clause-fits c =
    let s = state_of c.args.self.now in
    as_named s.transactions _ (sym c.trans.view_is)
    (subst (λ b. IfSome (at c.args.trans s.transactions) (λ t. charge s.form.ends (edited b [] (marks c.args.first (length c.args.bytes.now)) t.leg).changes ≤ t.unit)) (sym c.block.view_is) c.requires.fits)

pub log-requires-clause-seen : goal.log-requires-clause-seen
log-requires-clause-seen c =
    let s = state_of c.args.self.now in
    as_named s.transactions _ (sym c.trans.view_is)
    (subst (λ b. IfSome (at c.args.trans s.transactions) (λ t. c.args.first + length c.args.bytes.now ≤ length (seen s.form.size b t.leg s.frames))) (sym c.block.view_is) c.requires.seen)
