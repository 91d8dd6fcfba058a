use Rattle.std.proofs.Common.{ap, arith, drop, length, sym, take, ◌+◌, ◌∙◌, ◌≡◌, ◌≤◌}
use Rattle.std.proofs.lemmas.List.{with_items_is}
use Rattle.xt_session.proofs.IntakeLemmas.{came, held_more, small}
use Rattle.xt_session.proofs.intake.Intake.fetch.Goals as goal

pub returns-in-Ok : goal.returns-in-Ok
returns-in-Ok g c =
    let same : length c.read_into.new.bytes ≡ length c.self.inside.bytes.items = c.read_into.ensures.same ∙ ap length c.deref_mut.ensures.value in
    let fits : c.self.inside.held + c.in-Ok.count ≤ 8401 = omega (arith, c.in-Ok.ensures.room, c.min-room.ensures, c.self.invariant.1) in
    record {
      more = take c.in-Ok.count (drop c.self.inside.held c.read_into.new.bytes);
      grown = ap (take (c.self.inside.held + c.in-Ok.count)) (with_items_is c.self.inside.bytes c.read_into.new.bytes (same ∙ sym c.self.inside.bytes.ok.0)) ∙ held_more _ _ _ _ _ (c.read_into.ensures.kept ∙ ap (take c.self.inside.held) c.deref_mut.ensures.value) c.self.view_is;
      counted = came c.self.inside.held c.in-Ok.count c.read_into.new.bytes (omega (arith, fits, same, c.self.invariant.0));
      some = omega (arith, c.in-Ok.count-test.1);
      few = omega (arith, c.in-Ok.ensures.room, c.min-room.ensures);
      room = small (c.self.inside.held + c.in-Ok.count) _ fits;
      consumed = c.in-Ok.ensures.read;
    }
