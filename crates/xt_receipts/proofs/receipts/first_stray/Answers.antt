use Rattle.std.proofs.lemmas.Bool.{false≢true}
use Rattle.xt_receipts.proofs.ReceiptLemmas.{stray_here}
use Rattle.xt_receipts.proofs.receipts.first_stray.Goals as goal

pub returns-then-not-may_stand : goal.returns-then-not-may_stand
returns-then-not-may_stand c = c.loop-receipt.invariant.2 _ (stray_here _ _ _ _ _ _ c.in-Some.ensures.cases.0 (λ stands. false≢true (c.if-not-may_stand.ensures.value.1 stands)))
