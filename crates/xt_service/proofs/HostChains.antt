-- Whole sessions over a host: what they leave, and what becomes of their seats, whatever they are answered.
use Rattle.std.proofs.Common.{Bool, List, Option, [], false, refl, subst, sym, true, ℕ, ◌≡◌}
use Rattle.xt_base.specs.declared.steps.Reply.{Reply}
use Rattle.xt_base.specs.declared.steps.Request.{Request}
use Rattle.xt_base.specs.declared.steps.Step.{Step}
use Rattle.xt_base.specs.declared.steps.Step.TheVariants.{Call, Peek}
use Rattle.xt_cell.specs.HostSeats.{HostSeatView}
use Rattle.xt_cell.specs.declared.mount_ref.MountRef.{MountRef}
use Rattle.xt_service.specs.Holding.{holds}
use Rattle.xt_service.specs.HostCalls.{Answers, Ends, GaveBack, GaveBack.more, GaveBack.none, IsCalled, IsShown, IsTold, SessionView, forgotten}
use Rattle.xt_service.proofs.SeatLemmas.{used_both, used_none, used_served}
use Rattle.xt_session.proofs.SessionMaps.{by_part, ends_part, session_part}
use Rattle.xt_service.specs.HostSession.{IsHostSession, new_session}
use Rattle.xt_service.specs.Seats.{IsUsed}
use Rattle.xt_session.specs.Session.{Answered, Answered.asked, Answered.bad, Answered.starved, IsSession, Ran, Says, Says.more as line_more, Says.none as line_none}
use Rattle.xt_session.specs.declared.session_end.SessionEnd.{SessionEnd}
use Rattle.xt_session.specs.declared.session_end.SessionEnd.TheVariants.{End, Memory, ReadFault, TooLong, WriteFault}

told_used : (at : MountRef) (request : Request) (reply : Reply) (old new : HostSeatView) → IsTold at request reply old new → IsUsed old new
told_used at request reply old new h =
    let u = used_served at request reply (forgotten old) new h.served h.board h.rises in
    record { caller = u.caller; board = h.board; rises = h.rises; splits = u.splits; rank = u.rank }

same_used : (old new : SessionView) → new ≡ old → IsUsed old.seat new.seat
same_used old new same = subst (λ s. IsUsed old.seat s.seat) (sym same) (used_none old.seat)

called_used : (at : MountRef) (request : Request) (reply : Reply) (old new : SessionView) → IsCalled at request reply old new → IsUsed old.seat new.seat
called_used at request reply old new h = by (holds at request old.trans old.held) refl
  where
    by : (b : Bool) → holds at request old.trans old.held ≡ b → IsUsed old.seat new.seat
    by true is = told_used at request reply old.seat new.seat (h.asked is).told
    by false is = same_used old new (h.strange is).1

shown_used : (slot : ℕ) (reply : Reply) (old new : HostSeatView) → IsShown slot reply old new → IsUsed old new
shown_used slot reply old new h = record { caller = h.caller; board = h.board; rises = h.rises; splits = h.splits; rank = h.rank }

answers_used : (old : SessionView) (step : Step) (reply : Reply) (new : SessionView) → Answers old step reply new → IsUsed old.seat new.seat
answers_used old (Call slot life request answer) reply new h = called_used (record { slot = slot; life = life }) request reply old new h
answers_used old (Peek slot) reply new h = shown_used slot reply old.seat new.seat h.shown
answers_used old other reply new h = absurd h

answered_used : (old : SessionView) (line reply : List ℕ) (new : SessionView) → Answered Answers old line reply new → IsUsed old.seat new.seat
answered_used old line reply new (bad is) = used_none old.seat
answered_used old line reply new (starved is) = used_none old.seat
answered_used old line reply new (asked step told next is h) = answers_used old step told next h

says_used : (first last : SessionView) (lines : List (List ℕ)) (text : List ℕ) → Says Answers first lines text last → IsUsed first.seat last.seat
says_used first last lines text (line_none now) = used_none now.seat
says_used first last lines text (line_more now next end line reply rest more_text one says) = used_both now.seat next.seat end.seat (answered_used now line reply next one) (says_used next end rest more_text says)

gave_used : (first last : SessionView) → GaveBack first last → IsUsed first.seat last.seat
gave_used first last none = used_none first.seat
gave_used first last (more now end at request reply gave next told) = used_both first.seat now.seat end.seat (gave_used first now gave) (told_used at request reply now.seat end.seat told.told)

ran_used : (bound : ℕ) (first now : SessionView) (a b c d : Option (List ℕ)) (end : SessionEnd) → Ran Answers bound first now a b c d end → IsUsed first.seat now.seat
ran_used bound first now a b c d End h = says_used first now h.lines h.writes.text h.writes.says
ran_used bound first now a b c d TooLong h = says_used first now h.lines h.writes.text h.writes.says
ran_used bound first now a b c d ReadFault h = says_used first now h.lines h.writes.text h.writes.says
ran_used bound first now a b c d WriteFault h =
    used_both first.seat h.breaks.state.seat now.seat (says_used first h.breaks.state h.breaks.before h.breaks.text h.breaks.says) (answered_used h.breaks.state h.breaks.line h.breaks.reply now h.breaks.last)
ran_used bound first now a b c d Memory h = same_used first now h.same

-- a whole session
pub session_used : (bound : ℕ) (first last : SessionView) (a b c d : Option (List ℕ)) (end : SessionEnd) → IsSession Answers Ends bound first last a b c d end → IsUsed first.seat last.seat
session_used bound first last a b c d end h = used_both first.seat h.now.seat last.seat (ran_used bound first h.now a b c d end h.ran) (gave_used h.now last h.closed.gave)

-- a whole session by a seat, of which it gives back that same one
pub host_session_used : (old new : HostSeatView) (a b c d : Option (List ℕ)) (end : SessionEnd) → IsHostSession old new a b c d end → IsUsed old new
host_session_used old new a b c d end h = subst (λ s. IsUsed old s) (sym h.seat) (session_used 1000000000 (new_session old) h.last a b c d end h.session)

-- a session begins with the seat that it is given
begins : (first : SessionView) (seat : HostSeatView) → first.seat ≡ seat → first.trans ≡ [] → first.held ≡ [] → first ≡ new_session seat
begins first seat own idle empty = λ i. record { seat = own i; trans = idle i; held = empty i }

module _ {C : Type 0} (part : C → SessionView) (first last : C) (old new : HostSeatView) (a b c d : Option (List ℕ)) (end : SessionEnd) where
  -- a session of an object of which this part is that of a host
  pub is_host_session : (part first).seat ≡ old → (part first).trans ≡ [] → (part first).held ≡ [] → new ≡ (part last).seat → IsSession (by_part part Answers Ends) (ends_part part Answers Ends) 1000000000 first last a b c d end → IsHostSession old new a b c d end
  is_host_session seat idle empty back h = record {
    last = part last;
    session = subst (λ s. IsSession Answers Ends 1000000000 s (part last) a b c d end) (begins (part first) old seat idle empty) (session_part part Answers Ends 1000000000 first last a b c d end h);
    seat = back;
  }
