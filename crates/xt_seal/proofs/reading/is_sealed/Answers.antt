use Rattle.std.proofs.Common.{ap, arith, drop, length, sym, take, List, [], ℕ, ◌++◌, ◌-◌, ◌≡◌, ◌≤◌, ◌∙◌}
use Rattle.std.proofs.lemmas.List.{length-drop}
use Rattle.xt_seal.proofs.SealLemmas.{front_found, front_missed, seal_parts, seal_room}
use Rattle.xt_seal.specs.Seal.{text_seal}
use Rattle.xt_seal.proofs.reading.is_sealed.Goals as goal

pub returns-clause-parts : goal.returns-clause-parts
returns-clause-parts c = λ same head before seals.
    let rest : List ℕ = drop c.args.len c.args.input.now in
    let seal : c.seal-seal.result ≡ text_seal head before (take c.args.len c.args.input.now) = c.seal-seal.ensures.seal head before (take c.args.len c.args.input.now) (c.note.ensures head before [] seals) in
    let whole : length rest ≤ length c.args.input.now - c.args.len = omega (arith, length-drop c.args.len c.args.input.now) in
    seal_parts c.args.input.now c.seal-seal.result (text_seal head before (take c.args.len c.args.input.now)) c.args.len c.requires.within
    (front_found rest c.seal-seal.result (length c.args.input.now - c.args.len) whole (sym c.if-not-starts_with.false ∙ c.starts_with.ensures.value)) c.seal-seal.ensures.length seal

pub returns-clause-room : goal.returns-clause-room
returns-clause-room c = λ same.
    let rest : List ℕ = drop c.args.len c.args.input.now in
    let whole : length rest ≤ length c.args.input.now - c.args.len = omega (arith, length-drop c.args.len c.args.input.now) in
    seal_room c.args.input.now c.seal-seal.result c.args.len c.requires.within (front_found rest c.seal-seal.result (length c.args.input.now - c.args.len) whole (sym c.if-not-starts_with.false ∙ c.starts_with.ensures.value)) c.seal-seal.ensures.length

pub returns-then-not-starts_with-clause-no : goal.returns-then-not-starts_with-clause-no
returns-then-not-starts_with-clause-no c = λ same head before more seals is.
    let rest : List ℕ = drop c.args.len c.args.input.now in
    let seal : c.seal-seal.result ≡ text_seal head before (take c.args.len c.args.input.now) = c.seal-seal.ensures.seal head before (take c.args.len c.args.input.now) (c.note.ensures head before [] seals) in
    let whole : length rest ≤ length c.args.input.now - c.args.len = omega (arith, length-drop c.args.len c.args.input.now) in
    front_missed rest c.seal-seal.result more (length c.args.input.now - c.args.len) whole (sym c.if-not-starts_with.true ∙ c.starts_with.ensures.value) (is ∙ ap (λ xs. xs ++ more) (sym seal))
