use Rattle.xt_mount.proofs.ChangedLemmas.{busy_landed}
use Rattle.std.proofs.Common.{◌∙◌, [], ap, arith, refl}
use Rattle.xt_base.proofs.BusyLemmas.{few_active, few_flying}
use Rattle.xt_base.specs.Settle.{settled}
use Rattle.xt_base.specs.State.{State}
use Rattle.xt_jobs.specs.Tables.{Table}
use Rattle.xt_mount.specs.Machines.{state_of}
use Rattle.xt_mount.specs.declared.machine.Machine.{Machine}
use Rattle.xt_mount.proofs.CkptLemmas.{landed_is}
use Rattle.xt_mount.proofs.StayLemmas.{others_landed}
use Rattle.xt_mount.proofs.machine.Machine.land.Goals as goal

pub land-requires-clause-room : goal.land-requires-clause-room
land-requires-clause-room c =
    let s : State = state_of c.args.self.now in
    omega (arith, few_active s.form.ends s.log_bytes s.owners s.transactions s.items c.requires.sound.parts, few_flying s.form.ends s.log_bytes s.owners s.transactions s.items c.requires.sound.parts)

pub settle_unless-requires-clause-others : goal.settle_unless-requires-clause-others
settle_unless-requires-clause-others c stays =
    others_landed (state_of c.args.self.now) c.args.number c.free_stale.new.self c.land.new.self c.requires.sound c.requires.flying c.free_stale.ensures c.land.ensures
    (c.lands_plainly-stays.ensures.live stays) (c.lands_plainly-stays.ensures.plain stays)

pub returns : goal.returns
returns c =
    let s : State = state_of c.args.self.now in
    let machine : Machine = c.args.self.now in
    landed_is s c.args.number c.free_stale.new.self c.land.new.self _ (state_of c.settle_unless.new.self) c.requires.flying c.free_stale.ensures c.land.ensures refl
    (c.settle_unless.ensures ∙ ap (λ (t : Table). settled [] (state_of (record machine { locks = c.free_stale.new.self; accounts = c.land.new.self; jobs = t }))) c.finish.ensures)

pub settle_unless-requires-clause-changed : goal.settle_unless-requires-clause-changed
settle_unless-requires-clause-changed c =
    busy_landed (state_of c.args.self.now) c.requires.sound c.args.number c.free_stale.new.self c.land.new.self c.requires.flying c.free_stale.ensures c.land.ensures
