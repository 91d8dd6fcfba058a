-- The jobs of a mount: their names, and their steps.
use Rattle.std.specs.List.{list_all}
use Rattle.std.specs.Prelude.{Bool, List, None, Option, Some, [], false, filter, if◌then◌else◌, is_some, length, map, nat_le, nat_lt, not, take, true, ℕ, ◌&&◌, ◌++◌, ◌+◌, ◌==◌, ◌∷◌}
use Rattle.xt_base.specs.Calls.{Outcome, gives, shut_down}
use Rattle.xt_base.specs.Maps.{has, is_in, put, without}
use Rattle.xt_base.specs.Owed.{is_owed, job}
use Rattle.xt_base.specs.Settle.{Dropped, settled}
use Rattle.xt_base.specs.Space.{cost, flight_items, still_needed}
use Rattle.xt_base.specs.State.{Flight, Items, Jobs, State}
use Rattle.xt_base.specs.Text.{content_at, log_offers_of, pieces, text_of}
use Rattle.xt_base.specs.declared.names.JobKind.{JobKind}
use Rattle.xt_base.specs.declared.names.JobName.{JobName}
use Rattle.xt_base.specs.declared.sizes.TheConstants.{FLUSH_BLOCKS}
use Rattle.xt_base.specs.declared.steps.HomeAnswers.{HomeAnswers}
use Rattle.xt_base.specs.declared.steps.HomeOffer.{HomeOffer}
use Rattle.xt_base.specs.declared.steps.LogAnswers.{LogAnswers}
use Rattle.xt_base.specs.declared.steps.LogOffer.{LogOffer}
use Rattle.xt_base.specs.declared.steps.Owner.{Owner}
use Rattle.xt_base.specs.declared.steps.Owner.TheVariants.{Stale}
use Rattle.xt_base.specs.declared.steps.Reason.TheVariants.{LogIoError}
use Rattle.xt_base.specs.declared.steps.Reply.TheVariants.{Begun, Failed, Flushed, Landed, Nothing}

-- ---- posted, outstanding
-- another outstanding job of a kind
abbrev pub with_job : JobKind → Option ℕ → Jobs → Jobs
with_job JobKind.Ckpt serial j = record j { ckpt = serial }
with_job JobKind.Flush serial j = record j { flush = serial }

-- whether a job has this serial
abbrev pub is_serial : ℕ → Option ℕ → Bool
is_serial n None = false
is_serial n (Some k) = k == n

-- a name of the present life with the next serial, of a kind that is owed
abbrev pub is_owed_as : JobName → State → Bool
is_owed_as name s = (name.life == s.life) && (name.serial == s.jobs.last_serial + 1) && is_owed name.kind s

-- a job of this life that was posted and not finished
abbrev pub is_outstanding : JobName → State → Bool
is_outstanding name s = (name.life == s.life) && is_serial name.serial (job name.kind s.jobs)

-- whether a job is a checkpoint
abbrev pub is_ckpt : JobKind → Bool
is_ckpt JobKind.Ckpt = true
is_ckpt JobKind.Flush = false

-- a checkpoint job is begun while there is a flight
abbrev pub is_begun : JobName → State → Bool
is_begun name s = is_outstanding name s && is_ckpt name.kind && is_some s.items.flight

-- outstanding and not begun
abbrev pub is_waiting : JobName → State → Bool
is_waiting name s = is_outstanding name s && not (is_ckpt name.kind && is_some s.items.flight)

-- the next serial is outstanding
abbrev pub posted : JobKind → State → State
posted kind s = record s { jobs = with_job kind (Some (s.jobs.last_serial + 1)) (record s.jobs { last_serial = s.jobs.last_serial + 1 }) }

-- no job of the kind is outstanding
abbrev pub finished : JobKind → State → State
finished kind s = record s { jobs = with_job kind None s.jobs }

-- ---- begin
-- the pieces that a checkpoint would have now
abbrev pub next_pieces : State → List (List ℕ)
next_pieces s = pieces (text_of s.form s.items.open_number s.items.cil s.frames.committed)

-- the committed item list becomes the flight, the next number opens, and the asking is met
abbrev pub flown : List (List ℕ) → State → State
flown ps s = record s {
  items = record s.items { open_number = s.items.open_number + 1; cil = []; flight = Some (record { number = s.items.open_number; items = s.items.cil; pieces = ps }) };
  jobs = record s.jobs { asked_ckpt = false };
}

-- the reply to a begin, and the flight
abbrev pub begun : List (List ℕ) → State → Outcome
begun ps s = gives (Begun s.items.open_number (length ps)) (flown ps s)

-- on a shut mount there is nothing to do
abbrev pub begin : State → Outcome
begin s = if is_some s.shut then gives Nothing (finished JobKind.Ckpt s) else begun (next_pieces s) s

-- ---- end
-- cancelled blocks leave the active list, and each other block goes there unless it is there
abbrev pub activated : ℕ → List (ℕ × List ℕ) → List (ℕ × ℕ) → List (ℕ × ℕ)
activated number [] ail = ail
activated number (e ∷ es) ail = activated number es (if length e.1 == 0 then without e.0 ail else (if is_in e.0 ail then ail else put e.0 number ail))

-- the lists with another active list, and the costs that still count
abbrev pub with_active : List (ℕ × ℕ) → List (ℕ × ℕ) → Items → Items
with_active ail landed l = record l { ail = ail; landed = still_needed ail landed }

-- the lists after the flight has landed
abbrev pub landed_items : ℕ → Flight → Items → Items
landed_items ends f l = with_active (activated f.number f.items l.ail) (put f.number (cost ends f.items) l.landed) (record l { flight = None })

-- whether an owner waits for a checkpoint
abbrev pub waits_on : ℕ → Owner → Bool
waits_on number (Stale n) = n == number
waits_on number other = false

-- the checkpoint is on the log
abbrev pub landed : Dropped → Flight → State → State
landed dropped f s = settled dropped (finished JobKind.Ckpt (record s { owners = filter (λ e. not (waits_on f.number e.1)) s.owners; items = landed_items s.form.ends f s.items }))

-- the flight is given up
abbrev pub failed : Dropped → State → State
failed dropped s = settled dropped (finished JobKind.Ckpt (shut_down LogIoError (record s { items = record s.items { flight = None } })))

-- whether a sync was answered Ok
abbrev pub is_ok : Option Bool → Bool
is_ok None = false
is_ok (Some ok) = ok

-- landed where the sync was Ok, else failed
abbrev pub end_of : Dropped → LogAnswers → State → Option Flight → Outcome
end_of dropped answers s None = gives Nothing s
end_of dropped answers s (Some f) = if is_ok answers.sync then gives (Landed f.number) (landed dropped f s) else gives (Failed f.number) (failed dropped s)

-- the end of the checkpoint in flight
abbrev pub end : Dropped → LogAnswers → State → Outcome
end dropped answers s = end_of dropped answers s s.items.flight

-- the pieces in flight
abbrev pub flight_pieces : Option Flight → List (List ℕ)
flight_pieces None = []
flight_pieces (Some f) = f.pieces

-- what an end offered to the log
abbrev pub end_offers : LogAnswers → State → List LogOffer
end_offers answers s = log_offers_of answers (flight_pieces s.items.flight)

-- all pieces were taken and the sync answered, or one was not taken
abbrev pub fits_pieces : LogAnswers → ℕ → Bool
fits_pieces answers n = if is_some answers.sync then answers.taken == n else nat_lt answers.taken n

-- ---- flush
-- on the active list, on neither other list, and with no owner of any kind
abbrev pub is_eligible : State → ℕ × ℕ → Bool
is_eligible s e = not (is_in e.0 s.items.cil) && not (is_in e.0 (flight_items s.items.flight)) && not (is_in e.0 s.owners)

-- the blocks that may be written home
abbrev pub eligible : State → List (ℕ × ℕ)
eligible s = filter (is_eligible s) s.items.ail

-- an entry of a lower block goes before the first whose number is no lower
abbrev pub placed : ℕ × ℕ → List (ℕ × ℕ) → List (ℕ × ℕ)
placed e [] = e ∷ []
placed e (x ∷ xs) = if nat_le e.1 x.1 then e ∷ x ∷ xs else x ∷ placed e xs

-- entries that rise by block, in the order of (number, block)
abbrev pub by_number : List (ℕ × ℕ) → List (ℕ × ℕ)
by_number [] = []
by_number (e ∷ es) = placed e (by_number es)

-- the blocks that a flush writes, the first ones; none on a shut mount
abbrev pub flush_plan : State → List ℕ
flush_plan s = if is_some s.shut then [] else map (λ e. e.0) (take FLUSH_BLOCKS (by_number (eligible s)))

-- the blocks whose write was answered Ok
abbrev pub written : List ℕ → List Bool → List ℕ
written [] answers = []
written (b ∷ bs) [] = []
written (b ∷ bs) (ok ∷ oks) = if ok then b ∷ written bs oks else written bs oks

-- the answers to the writes, in order
abbrev pub write_answers : HomeAnswers → List Bool
write_answers answers = take answers.count answers.writes

-- they leave the active list if the sync was Ok
abbrev pub gone : List ℕ → HomeAnswers → List ℕ
gone plan answers = if answers.sync then written plan (write_answers answers) else []

-- the lists without blocks that were written
abbrev pub cleaned : List ℕ → Items → Items
cleaned blocks l = with_active (filter (λ e. not (has blocks e.0)) l.ail) l.landed l

-- whether every answer was Ok
abbrev pub all_ok : HomeAnswers → Bool
all_ok answers = answers.sync && list_all (λ ok. ok) (write_answers answers)

-- the asking ends, and is renewed where all was Ok and an eligible block is left
abbrev pub renewed : HomeAnswers → State → State
renewed answers s = record s { jobs = record s.jobs { asked_flush = all_ok answers && not (length (eligible s) == 0) } }

-- what the answers to a flush make of the mount
abbrev pub flushed : Dropped → List ℕ → HomeAnswers → State → Outcome
flushed dropped plan answers s =
    gives (Flushed (length (gone plan answers)))
    (settled dropped (renewed answers (finished JobKind.Flush (record s { items = cleaned (gone plan answers) s.items }))))

-- a flush with nothing to write
abbrev pub unflushed : State → State
unflushed s = finished JobKind.Flush (record s { jobs = record s.jobs { asked_flush = false } })

-- a flush of this plan
abbrev pub flush_of : Dropped → HomeAnswers → State → List ℕ → Outcome
flush_of dropped answers s plan = if length plan == 0 then gives Nothing (unflushed s) else flushed dropped plan answers s

-- a flush of the blocks that are due
abbrev pub flush : Dropped → HomeAnswers → State → Outcome
flush dropped answers s = flush_of dropped answers s (flush_plan s)

-- each write with its answer
abbrev pub writes : ℕ → List (ℕ × List ℕ) → List ℕ → List Bool → List HomeOffer
writes size contents [] answers = []
writes size contents (b ∷ bs) [] = []
writes size contents (b ∷ bs) (ok ∷ oks) = HomeOffer.Write b (content_at size b contents) ok ∷ writes size contents bs oks

-- the sync with its answer, where something was written
abbrev pub sync_offer : HomeAnswers → List HomeOffer
sync_offer answers = if answers.count == 0 then [] else HomeOffer.Sync answers.sync ∷ []

-- what a flush offered to the home device
abbrev pub flush_offers : HomeAnswers → State → List HomeOffer
flush_offers answers s = writes s.form.size s.frames.committed (flush_plan s) (write_answers answers) ++ sync_offer answers

-- one answer for each planned write (and one for the sync, where there is one)
abbrev pub fits_plan : HomeAnswers → List ℕ → Bool
fits_plan answers plan = answers.count == length plan
