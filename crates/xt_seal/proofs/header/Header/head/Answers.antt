use Rattle.std.proofs.Common.{◌≡◌, ◌∙◌, length, rules}
use Rattle.xt_seal.proofs.HeaderLemmas.{head_is}
use Rattle.xt_seal.proofs.header.Header.head.Goals as goal

pub returns : goal.returns
returns c =
    let long : length c.copy_from_slice-6.new.self ≡ 8 = search rules in
    head_is c.args.self.now _ _ _ _ _ _ _ c.copy_from_slice.ensures.after (c.copy_from_slice-2.ensures.after ∙ c.to_be_bytes.ensures) (c.copy_from_slice-3.ensures.after ∙ c.to_be_bytes-2.ensures)
    (c.copy_from_slice-4.ensures.after ∙ c.to_be_bytes-3.ensures) (c.copy_from_slice-5.ensures.after ∙ c.to_be_bytes-4.ensures) c.copy_from_slice-6.ensures.after c.copy_from_slice-7.ensures.after
    long
