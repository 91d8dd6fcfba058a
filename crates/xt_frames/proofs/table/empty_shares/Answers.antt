use Rattle.xt_frames.proofs.TableLemmas.{there_more}
use Rattle.xt_frames.proofs.table.empty_shares.Goals as goal

pub loop-number-preserved : goal.loop-number-preserved
loop-number-preserved c =
    let more =
    there_more c.loop-number.shares.items c.push.new.self.items c.loop-number.number c.slot_at.result c.in_ok-new.field-0 c.loop-number.invariant.count c.loop-number.invariant.there c.slot_at.ensures
    c.in_ok-new.ensures c.in_ok-push.ensures.items
    in record { count = more.0; there = more.1 }
