-- Where nothing was written the bytes are zeros.
use Rattle.std.proofs.Common.{rules, ◌≡◌, length, replicate, sym, ap, ◌∙◌, unwrap_or}
use Rattle.xt_dev.proofs.Doubted.{zeros_asked}
use Rattle.xt_dev.specs.Devices.{as_asked}
use Rattle.xt_dev.proofs.mem_home.MemHome.give.Goals as goal

pub returns-in-None : goal.returns-in-None
returns-in-None c =
    let size = length c.args.into.now in
    let zeroed : c.fill.new.self ≡ replicate size 0 = c.fill.ensures.after (λ y e. search rules) in
    zeroed ∙ (sym (zeros_asked size) ∙ ap (λ o. as_asked size (unwrap_or o (replicate size 0))) (rw c.block.view_is at c.in-None.ensures.value))
