use Rattle.xt_base.proofs.CancelLemmas as cancels
use Rattle.xt_base.proofs.laws.clean_cancel.Goals as goal

pub returns : goal.returns
returns c = λ s sound unit count perm looks answer t given all. cancels.clean_cancel s sound unit count perm looks answer t given all
