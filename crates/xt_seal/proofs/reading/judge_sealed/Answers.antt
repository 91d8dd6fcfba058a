use Rattle.std.proofs.Common.{inl, refl, subst}
use Rattle.std.specs.Prelude.{IsNone}
use Rattle.xt_ckpt.specs.Fields.{IsUnfinished}
use Rattle.xt_ckpt.specs.Reading.{BeginsNoText, IsWhy}
use Rattle.xt_seal.proofs.SealLemmas.{broken_on, none_sealed}
use Rattle.xt_seal.proofs.reading.judge_sealed.Goals as goal

pub returns-in-Ok-None-clause-judged : goal.returns-in-Ok-None-clause-judged
returns-in-Ok-None-clause-judged c = λ head before seals.
    none_sealed head before c.args.input.now (subst (λ o. IsNone o → BeginsNoText c.args.input.now × IsUnfinished c.args.input.now) c.in-Ok-None.field-0-is c.in-Ok-None.ensures.none refl).0

pub returns-in-Err-Ckpt-clause-judged : goal.returns-in-Err-Ckpt-clause-judged
returns-in-Err-Ckpt-clause-judged c = λ head before seals more.
    broken_on head before c.args.input.now more c.in-Err-Ckpt.fault.at (subst (IsWhy c.args.input.now) c.in-Err-Ckpt.field-0-is c.in-Err-Ckpt.ensures.fault)

pub returns-in-Ok-None-clause-more : goal.returns-in-Ok-None-clause-more
returns-in-Ok-None-clause-more c = inl (subst (λ o. IsNone o → BeginsNoText c.args.input.now × IsUnfinished c.args.input.now) c.in-Ok-None.field-0-is c.in-Ok-None.ensures.none refl).1
