-- What a session says of the states of its object, said of a part of each state.
use Rattle.std.proofs.Common.{List, Option, ap, ℕ}
use Rattle.xt_base.specs.declared.steps.Reply.{Reply}
use Rattle.xt_base.specs.declared.steps.Step.{Step}
use Rattle.xt_session.specs.Session.{Answered, Answered.asked, Answered.bad, Answered.starved, Breaks, IsServed, IsSession, Ran, Says, Says.more, Says.none, Writes}
use Rattle.xt_session.specs.declared.session_end.SessionEnd.{SessionEnd}
use Rattle.xt_session.specs.declared.session_end.SessionEnd.TheVariants.{End, Memory, ReadFault, TooLong, WriteFault}

module _ {C D : Type 0} (part : C → D) (answers : D → Step → Reply → D → Type 0) (ends : D → D → Type 0) where
  -- what an object answers, by a part of its state
  abbrev pub by_part : C → Step → Reply → C → Type 0
  by_part old step reply new = answers (part old) step reply (part new)

  -- what its end leaves, by that part
  abbrev pub ends_part : C → C → Type 0
  ends_part old new = ends (part old) (part new)

  answered_part : (now : C) (line reply : List ℕ) (next : C) → Answered by_part now line reply next → Answered answers (part now) line reply (part next)
  answered_part now line reply next (bad is) = bad is
  answered_part now line reply next (starved is) = starved is
  answered_part now line reply next (asked step told then is h) = asked step told (part then) is h

  says_part : (first last : C) (lines : List (List ℕ)) (text : List ℕ) → Says by_part first lines text last → Says answers (part first) lines text (part last)
  says_part first last lines text (none now) = none (part now)
  says_part first last lines text (more now next end line reply rest more_text one says) = more (part now) (part next) (part end) line reply rest more_text (answered_part now line reply next one) (says_part next end rest more_text says)

  writes_part : (lines : List (List ℕ)) (first now : C) (a b : Option (List ℕ)) → Writes by_part lines first now a b → Writes answers lines (part first) (part now) a b
  writes_part lines first now a b w = record { text = w.text; says = says_part first now lines w.text w.says; written = w.written }

  breaks_part : (lines : List (List ℕ)) (first now : C) (a b : Option (List ℕ)) → Breaks by_part lines first now a b → Breaks answers lines (part first) (part now) a b
  breaks_part lines first now a b w = record {
    before = w.before;
    line = w.line;
    more = w.more;
    place = w.place;
    text = w.text;
    state = part w.state;
    says = says_part first w.state w.before w.text w.says;
    reply = w.reply;
    last = answered_part w.state w.line w.reply now w.last;
    count = w.count;
    partial = w.partial;
    written = w.written;
  }

  served_part : (bound : ℕ) (end : SessionEnd) (first now : C) (a b c d : Option (List ℕ)) → IsServed by_part bound end first now a b c d → IsServed answers bound end (part first) (part now) a b c d
  served_part bound end first now a b c d h = record { bytes = h.bytes; lines = h.lines; reads = h.reads; are = h.are; writes = writes_part h.lines first now c d h.writes }

  ran_part : (bound : ℕ) (first now : C) (a b c d : Option (List ℕ)) (end : SessionEnd) → Ran by_part bound first now a b c d end → Ran answers bound (part first) (part now) a b c d end
  ran_part bound first now a b c d End h = served_part bound End first now a b c d h
  ran_part bound first now a b c d TooLong h = served_part bound TooLong first now a b c d h
  ran_part bound first now a b c d ReadFault h = served_part bound ReadFault first now a b c d h
  ran_part bound first now a b c d WriteFault h = record { bytes = h.bytes; lines = h.lines; reading = h.reading; reads = h.reads; are = h.are; breaks = breaks_part h.lines first now c d h.breaks }
  ran_part bound first now a b c d Memory h = record { same = ap part h.same; unread = h.unread; unwritten = h.unwritten }

  -- a whole session
  pub session_part : (bound : ℕ) (first last : C) (a b c d : Option (List ℕ)) (end : SessionEnd) → IsSession by_part ends_part bound first last a b c d end → IsSession answers ends bound (part first) (part last) a b c d end
  session_part bound first last a b c d end h = record { now = part h.now; ran = ran_part bound first h.now a b c d end h.ran; closed = h.closed }
