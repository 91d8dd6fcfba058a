use Rattle.std.proofs.Common.{◌∙◌, ap, subst, arith}
use Rattle.xt_ckpt.specs.Pieces.{IsPut, next_part, part_bytes}
use Rattle.xt_ckpt.proofs.Places.{part_given, part_goes_on, part_is}
use Rattle.xt_ckpt.proofs.place.Place.step.Goals as goal

pub returns-in-Some-clause-lies : goal.returns-in-Some-clause-lies
returns-in-Some-clause-lies g c =
    let ends = c.args.ends.now in
    let items = g.S.ItemSource.entries c.args.items.now in
    let part = c.args.self.part in
    let put = subst (IsPut (part_bytes ends items part) c.args.self.done c.args.limit c.args.out.now.items c.put.new.out.items) c.in-Some.is c.in_ok-done.ensures in
    record { part = c.requires.lies.part; done = omega (arith, put.2, part_is ends items part c.requires.lies.part) }

pub returns-in-None-clause-bytes : goal.returns-in-None-clause-bytes
returns-in-None-clause-bytes g c =
    let ends = c.args.ends.now in
    let items = g.S.ItemSource.entries c.args.items.now in
    let part = c.args.self.part in
    let put = subst (IsPut (part_bytes ends items part) c.args.self.done c.args.limit c.args.out.now.items c.put.new.out.items) c.in-None.is c.in_ok-done.ensures in
    part_given ends items part c.next.result c.args.self.done c.args.out.now.items c.put.new.out.items c.requires.lies.part (c.next.ensures ∙ ap (λ n. next_part n part) c.item_count.ensures) put.0

pub returns-in-Some-clause-bytes : goal.returns-in-Some-clause-bytes
returns-in-Some-clause-bytes g c =
    let ends = c.args.ends.now in
    let items = g.S.ItemSource.entries c.args.items.now in
    let part = c.args.self.part in
    let put = subst (IsPut (part_bytes ends items part) c.args.self.done c.args.limit c.args.out.now.items c.put.new.out.items) c.in-Some.is c.in_ok-done.ensures in
    part_goes_on ends items part c.args.self.done c.in-Some.done c.args.out.now.items c.put.new.out.items put.0
