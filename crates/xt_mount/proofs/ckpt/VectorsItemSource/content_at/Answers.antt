use Rattle.std.proofs.Common.{◌<◌, ◌∙◌, length, subst, sym}
use Rattle.std.proofs.lemmas.List.{length-map}
use Rattle.xt_mount.specs.Texts.{entry_of}
use Rattle.xt_mount.proofs.CkptLemmas.{bytes_are}
use Rattle.xt_mount.proofs.ckpt.VectorsItemSource.content_at.Goals as goal

pub returns : goal.returns
returns c =
    let vs = c.args.self.now.0.now in
    let lt : c.args.index < length vs = subst (λ n. c.args.index < n) (length-map vs entry_of) c.requires in
    c.bytes.ensures.value ∙ sym (bytes_are vs c.args.index c.index-self-index.result lt)
