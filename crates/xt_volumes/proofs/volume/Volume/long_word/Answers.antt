use Rattle.std.proofs.Common.{◌≡◌, IfOk}
use Rattle.std.specs.Fmt.{decimal}
use Rattle.std.specs.String.{string_bytes}
use Rattle.xt_volumes.specs.Volumes.{parted}
use Rattle.xt_volumes.proofs.volume.Volume.long_word.Goals as goal

-- the pieces of the text, each as what it was made of
pub returns : goal.returns
returns c =
    let text : IfOk c.format.result (λ s. string_bytes s ≡ parted (decimal c.index-index.result) (parted (decimal c.args.self.now.log_bytes) (parted (decimal c.args.self.now.blocks) (parted c.as_str-home.result.now (parted c.as_str-log.result.now (decimal c.args.self.now.size)))))) = c.format.ensures.ok in
    rw c.as_str-log.ensures.value at (rw c.as_str-home.ensures.value at (rw c.index-index.ensures.value at text))
