use Rattle.std.proofs.Common.{All, arith, subst}
use Rattle.std.proofs.lemmas.List.{take_all}
use Rattle.xt_ckpt.specs.Entries.{IsWhole}
use Rattle.xt_mount.specs.Texts.{entries_of}
use Rattle.xt_mount.proofs.CkptLemmas.{whole_more}
use Rattle.xt_mount.proofs.ckpt.Vectors.are_whole.Goals as goal

pub loop-v-preserved : goal.loop-v-preserved
loop-v-preserved c =
    let vs = c.args.self.now.0.now in
    whole_more vs c.loop-v.v-index c.v-item.result c.loop-v-test.true c.bytes-bytes.result.now c.v-item.is c.bytes-bytes.ensures.value c.bytes-bytes.ensures.form c.loop-v.invariant

pub returns : goal.returns
returns c =
    let vs = c.args.self.now.0.now in
    subst (λ xs. All IsWhole (entries_of xs)) (take_all c.loop-v.v-index vs (omega arith)) c.loop-v.invariant
