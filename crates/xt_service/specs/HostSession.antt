-- A whole session over a host that others use too.
use Rattle.std.specs.Prelude.{List, Option, [], ℕ, ◌≡◌}
use Rattle.xt_cell.specs.HostSeats.{HostSeatView}
use Rattle.xt_service.specs.HostCalls.{Answers, Ends, SessionView}
use Rattle.xt_session.specs.Session.{IsSession}
use Rattle.xt_session.specs.declared.session_end.SessionEnd.{SessionEnd}

-- a session that holds nothing yet
abbrev pub new_session : HostSeatView → SessionView
new_session seat = record { seat = seat; trans = []; held = [] }

-- a session by a seat, from its first line to its end, with the seat that comes back
pub record IsHostSession (old new : HostSeatView) (had has held holds : Option (List ℕ)) (end : SessionEnd) : Type 0 where
  pub last : SessionView
  pub session : IsSession Answers Ends 1000000000 (new_session old) last had has held holds end
  pub seat : new ≡ last.seat
