-- What was newer is older, untouched, and the other file has just the next header.
use Rattle.std.proofs.Common.{option_map, rules, subst, sym, ◌≡◌}
use Rattle.std.specs.Prelude.{IfSome}
use Rattle.xt_dev.proofs.Sealed.{nothing_left, turn_holds}
use Rattle.xt_dev.specs.Segments.{all_safe, emptied}
use Rattle.xt_seal.specs.Headers.{header_bytes}
use Rattle.xt_dev.proofs.sealed_files.SealedFiles.take_turn.Goals as goal

pub returns-clause-kept : goal.returns-clause-kept
returns-clause-kept g c = λ log same held.
    let stored = g.S.Segment.stored in
    let gone : stored c.empty.new.self ≡ option_map emptied (stored c.args.self.now.older) = search rules in
    let begun : IfSome (stored c.write_header.new.file) (λ s. s ≡ all_safe (header_bytes c.args.header)) = c.in_ok-sealer.ensures.stored (nothing_left _ _ _ gone c.in_ok-sync_all.ensures.stored) in
    turn_holds stored c.args.self.now log _ _ _ _ _ same held c.requires.closed (subst (λ x. IfSome (stored x) (λ s. s ≡ all_safe (header_bytes c.args.header))) (sym c.swap.ensures.x_after) begun) c.swap.ensures.y_after
    c.in_ok-sealer.ensures.sums c.in_ok-sealer.ensures.seal
