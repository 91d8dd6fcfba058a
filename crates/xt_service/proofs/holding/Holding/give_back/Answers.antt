use Rattle.std.proofs.Common.{sym, ◌∙◌}
use Rattle.xt_service.proofs.HostLemmas.{gave_more, gave_none}
use Rattle.xt_service.proofs.holding.Holding.give_back.Goals as goal

pub loop-init : goal.loop-init
loop-init g c = gave_none c.args.self.now

pub loop-preserved-then-is_no_memory : goal.loop-preserved-then-is_no_memory
loop-preserved-then-is_no_memory g c = gave_more c.args.self.now c.loop.self c.ask.new.self _ _ c.ask.result c.loop.invariant (sym c.next_back.ensures.value ∙ c.in-Some-next_back.is) c.ask.ensures.asked

pub loop-preserved : goal.loop-preserved
loop-preserved g c = gave_more c.args.self.now c.loop.self c.ask.new.self _ _ c.ask.result c.loop.invariant (sym c.next_back.ensures.value ∙ c.in-Some-next_back.is) c.ask.ensures.asked
