use Rattle.std.proofs.Common.{◌∙◌}
use Rattle.xt_service.proofs.HostChains.{host_session_used, is_host_session}
use Rattle.xt_service.proofs.host_session.host_session.Goals as goal

pub returns-clause-session : goal.returns-clause-session
returns-clause-session g c = is_host_session (λ s. s.holding) c.new-calls.result c.session-end.new.calls c.args.seat c.into_seat.result _ _ _ _ _ c.new-calls.ensures.seat c.new-calls.ensures.trans c.new-calls.ensures.held c.into_seat.ensures c.session-end.ensures

pub returns-clause-used : goal.returns-clause-used
returns-clause-used g c = host_session_used _ _ _ _ _ _ _ (returns-clause-session g c)

pub returns-clause-board : goal.returns-clause-board
returns-clause-board g c = (returns-clause-used g c).board ∙ c.requires.board
