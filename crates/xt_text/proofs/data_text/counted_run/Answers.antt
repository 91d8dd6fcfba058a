use Rattle.xt_text.proofs.DataStrict.{counted_strict, taken}
use Rattle.xt_text.proofs.data_text.counted_run.Goals as goal

pub returns-clause-value : goal.returns-clause-value
returns-clause-value c =
    let byte = taken _ _ _ c.byte_value.ensures c.in_ok-byte.ensures.value in
    let count = taken _ _ _ c.number_of.ensures.value c.in_ok-count.ensures.value in
    counted_strict _ _ _ c.in-len3-up.len_at_least byte c.if-star-ne42.false count c.if-count-lt-COUNTED.false
