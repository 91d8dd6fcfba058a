use Rattle.std.proofs.Common.{◌≡◌, ◌∙◌, ◌<◌, List, None, Some, ap, arith, false, length, sym, ℕ}
use Rattle.std.specs.Prelude.{option_map}
use Rattle.xt_base.specs.Maps.{at, is_in, put}
use Rattle.xt_frames.proofs.BusyLemmas.{busy_exchanged, busy_put, found_at, in_busy, key_there, length_tied, moved_key, none_at, tied_exchanged, tied_put}
use Rattle.xt_frames.specs.Kept.{Framed}
use Rattle.xt_frames.proofs.busy.BusyFrames.exchange.Goals as goal

pub remove-before-requires : goal.remove-before-requires
remove-before-requires c = key_there c.self.inside.frames c.self.inside.index c.args.block c.in-Ok.key.now c.self.invariant c.in-Ok.ensures.there

pub invariant_of-self : goal.invariant_of-self
invariant_of-self c =
    tied_exchanged c.self.inside.frames c.remove-before.new.self c.insert_reserved-key.new.self c.self.inside.index c.args.block c.in-Ok.key.now c.args.frame c.self.invariant
    c.in-Ok.ensures.there c.remove-before.ensures.updates (moved_key c.remove-before.new.self c.insert_reserved-key.new.self c.insert_reserved-key.result c.in-Ok.key.now _ (c.insert_reserved-key.ensures.key ∙ c.remove-before.ensures.key_is_next) c.insert_reserved-key.ensures.updates) c.remove-before.ensures.len c.insert_reserved-key.ensures.len c.remove-before.ensures.capacity
    c.insert_reserved-key.ensures.capacity

pub insert_reserved-key-requires-in-Err : goal.insert_reserved-key-requires-in-Err
insert_reserved-key-requires-in-Err c =
    let absent : is_in c.args.block c.args.self.now ≡ false = sym (in_busy c.self.inside.frames c.self.inside.index c.args.block c.self.invariant ∙ ap (is_in c.args.block) c.self.view_is) ∙ c.in-Err.ensures.place.1 in
    let room : length c.args.self.now < 128 = c.requires absent in
    omega (arith, room, c.self.invariant.count, c.self.invariant.room, length_tied c.self.inside.frames c.self.inside.index c.self.invariant, ap (λ (xs : List (ℕ × Framed)). length xs) c.self.view_is)

pub insert_at-requires-clause-room : goal.insert_at-requires-clause-room
insert_at-requires-clause-room c =
    let absent : is_in c.args.block c.args.self.now ≡ false = sym (in_busy c.self.inside.frames c.self.inside.index c.args.block c.self.invariant ∙ ap (is_in c.args.block) c.self.view_is) ∙ c.in-Err.ensures.place.1 in
    let room : length c.args.self.now < 128 = c.requires absent in
    omega (arith, room, length_tied c.self.inside.frames c.self.inside.index c.self.invariant, ap (λ (xs : List (ℕ × Framed)). length xs) c.self.view_is)

pub invariant_of-self-in-Err : goal.invariant_of-self-in-Err
invariant_of-self-in-Err c =
    tied_put c.self.inside.frames c.insert_reserved-key-in-Err.new.self c.self.inside.index c.args.block c.insert_reserved-key-in-Err.result c.args.frame c.self.invariant
    c.insert_reserved-key-in-Err.ensures.was_vacant c.insert_reserved-key-in-Err.ensures.updates c.insert_at.new.self c.in-Err.ensures.place.1 c.insert_at.ensures
    c.insert_reserved-key-in-Err.ensures.len c.insert_reserved-key-in-Err.ensures.capacity

pub returns-in-Ok-clause-value : goal.returns-in-Ok-clause-value
returns-in-Ok-clause-value c =
    ap (option_map (λ (e : ℕ × Framed). e.1)) (sym c.remove-before.ensures.value)
    ∙ found_at c.self.inside.frames c.self.inside.index c.args.block (Some c.in-Ok.key.now) c.self.invariant (sym c.in-Ok.ensures.there) ∙ ap (at c.args.block) c.self.view_is

pub returns-in-Ok-clause-contents : goal.returns-in-Ok-clause-contents
returns-in-Ok-clause-contents c =
    busy_exchanged c.self.inside.frames c.remove-before.new.self c.insert_reserved-key.new.self c.self.inside.index c.args.block c.in-Ok.key.now c.args.frame c.self.invariant
    c.in-Ok.ensures.there c.remove-before.ensures.updates (moved_key c.remove-before.new.self c.insert_reserved-key.new.self c.insert_reserved-key.result c.in-Ok.key.now _ (c.insert_reserved-key.ensures.key ∙ c.remove-before.ensures.key_is_next) c.insert_reserved-key.ensures.updates) ∙ ap (put c.args.block c.args.frame) c.self.view_is

pub returns-in-Err-clause-value : goal.returns-in-Err-clause-value
returns-in-Err-clause-value c =
    found_at c.self.inside.frames c.self.inside.index c.args.block None c.self.invariant (none_at c.args.block c.self.inside.index c.in-Err.ensures.place.1) ∙ ap (at c.args.block) c.self.view_is

pub returns-in-Err-clause-contents : goal.returns-in-Err-clause-contents
returns-in-Err-clause-contents c =
    busy_put c.self.inside.frames c.insert_reserved-key-in-Err.new.self c.self.inside.index c.args.block c.insert_reserved-key-in-Err.result c.args.frame c.self.invariant
    c.insert_reserved-key-in-Err.ensures.was_vacant c.insert_reserved-key-in-Err.ensures.updates c.insert_at.new.self c.insert_at.ensures
    ∙ ap (put c.args.block c.args.frame) c.self.view_is
