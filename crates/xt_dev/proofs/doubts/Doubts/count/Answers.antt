use Rattle.std.proofs.Common.{length, rules, sym, ◌≡◌, ◌∙◌}
use Rattle.std.proofs.lemmas.Cmp.{nat_eq_equiv}
use Rattle.std.proofs.lemmas.Map.Made.{distinct_count-from_IsDistinct}
use Rattle.xt_dev.proofs.doubts.Doubts.count.Goals as goal

pub returns : goal.returns
returns c =
    let len : c.len.result ≡ length c.args.self.now.doubtful.items = search rules in
    len ∙ sym (distinct_count-from_IsDistinct nat_eq_equiv c.args.self.now.doubtful.items c.args.self.now.once)
