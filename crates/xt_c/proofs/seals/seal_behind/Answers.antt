use Rattle.std.proofs.Common.{ap, arith, drop, length, take, ◌-◌, ◌∙◌}
use Rattle.std.proofs.lemmas.List.{length-drop, length-take, take_all}
use Rattle.std.specs.List.{concat}
use Rattle.xt_seal.specs.Seal.{text_seal}
use Rattle.xt_c.proofs.seals.seal_behind.Goals as goal

pub slice_bounds-seal_of-end : goal.slice_bounds-seal_of-end
slice_bounds-seal_of-end c = omega (arith, length-take 56 c.args.log.now, c.requires.whole)

pub returns-clause-seal : goal.returns-clause-seal
returns-clause-seal c =
    let log = c.args.log.now in
    c.seal_of.ensures.seal ∙ ap (λ b. text_seal (take 56 log) b (concat c.args.pieces.now)) (take_all (length log - 56) (drop 56 log) (omega (arith, length-drop 56 log)))
