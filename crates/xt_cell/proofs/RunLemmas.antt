-- Begins, ends and flushes as events of a locked slot.
use Rattle.std.proofs.Common.{Bool, List, None, Option, Some, ap, false, length, refl, sym, true, ℕ, ◌∙◌, ◌≡◌}
use Rattle.std.proofs.lemmas.Bool.{and_parts, false≢true}
use Rattle.std.specs.Bool.{Decides}
use Rattle.std.specs.Cmp.{unsigned_Decides}
use Rattle.std.specs.Cmp.Lexicographic.{pointwise, pointwise_decides}
use Rattle.std.specs.Prelude.{[], if◌then◌else◌, is_none, is_some, nat_eq, nat_lt, not, ◌&&◌, ◌==◌, ◌||◌}
use Rattle.xt_base.proofs.MemoryLemmas.{alone_no_want}
use Rattle.xt_base.specs.Alone.{Turn, goes_on, has_begun, on_mount}
use Rattle.xt_base.specs.Calls.{Outcome, gives}
use Rattle.xt_base.specs.Isolation.{is_no_memory}
use Rattle.xt_base.specs.Jobs.{begin, begun, end, end_of, end_offers, failed, finished, flush, flush_offers, flush_plan, flushed, is_begun, is_ckpt, is_ok, is_serial, is_waiting, landed, next_pieces, unflushed}
use Rattle.xt_base.specs.Order.{mount_is}
use Rattle.xt_base.specs.Owed.{job}
use Rattle.xt_base.specs.State.{Flight, Lone, State}
use Rattle.xt_base.specs.declared.names.JobKind.{JobKind}
use Rattle.xt_base.specs.declared.names.JobKind.TheVariants.{Ckpt, Flush as AFlush}
use Rattle.xt_base.specs.declared.names.JobName.{JobName}
use Rattle.xt_base.specs.declared.steps.HomeAnswers.{HomeAnswers}
use Rattle.xt_base.specs.declared.steps.HomeOffer.{HomeOffer}
use Rattle.xt_base.specs.declared.steps.LogAnswers.{LogAnswers}
use Rattle.xt_base.specs.declared.steps.LogOffer.{LogOffer}
use Rattle.xt_base.specs.declared.steps.Reply.{Reply}
use Rattle.xt_base.specs.declared.steps.Reply.TheVariants.{Nothing, Okay}
use Rattle.xt_base.specs.declared.steps.Step.{Step}
use Rattle.xt_base.specs.declared.steps.Step.TheVariants.{Begin, End, Flush}
use Rattle.xt_cell.proofs.CallLemmas.{Keeps}
use Rattle.xt_cell.specs.Facts.{has_log, is_flown_by_job, is_last_of, is_last_post}
use Rattle.xt_mount.specs.Slots.{IsServed, SlotState, lone_with}

-- a step that was served was not refused memory
pub happened : (x : Step) (r : Reply) (new old : SlotState) → IsServed x r new old → is_no_memory r ≡ false
happened x r new old served = ap is_no_memory (served.reply 0 None) ∙ alone_no_want x (lone_with 0 None old)

-- ---- what a job's step makes of a mount
-- the mount, where there is one, after this
abbrev pub state_by : (State → Outcome) → Option State → Option State
state_by f None = None
state_by f (Some m) = Some (f m).state

-- the reply of the mount, where there is one
abbrev pub reply_by : (State → Outcome) → Option State → Reply
reply_by f None = Okay
reply_by f (Some m) = (f m).reply

-- a step moved the mount of a slot, and nothing else
pub record Moves (f : State → Outcome) (r : Reply) (new old : SlotState) : Type 0 where
  pub last_life : new.last_life ≡ old.last_life
  pub reply : r ≡ reply_by f old.mounted
  pub state : new.mounted ≡ state_by f old.mounted

module _ (f : State → Outcome) (log : State → List LogOffer) (home : State → List HomeOffer) (s : Lone) where
  abbrev turned : Option State → Turn
  turned o = on_mount o s (λ m. goes_on (f m) (log m) (home m) s)

  same_last_life : (o : Option State) → (turned o).slot.last_life ≡ s.last_life
  same_last_life None = refl
  same_last_life (Some m) = refl

  told : (o : Option State) → (turned o).reply ≡ reply_by f o
  told None = refl
  told (Some m) = refl

  moved : (o : Option State) → s.mounted ≡ o → (turned o).slot.mounted ≡ state_by f o
  moved None e = e
  moved (Some m) e = refl

  moves : (r : Reply) (new old : SlotState) → s ≡ lone_with 0 None old → r ≡ (turned old.mounted).reply → lone_with 0 None new ≡ (turned old.mounted).slot → Moves f r new old
  moves r new old is reply state = record {
    last_life = ap (λ (l : Lone). l.last_life) state ∙ same_last_life old.mounted ∙ ap (λ (l : Lone). l.last_life) is;
    reply = reply ∙ told old.mounted;
    state = ap (λ (l : Lone). l.mounted) state ∙ moved old.mounted (ap (λ (l : Lone). l.mounted) is);
  }

begin_moves : (worker : ℕ) (name : JobName) (r : Reply) (new old : SlotState) → IsServed (Begin worker name) r new old → Moves begin r new old
begin_moves worker name r new old served =
    moves begin (λ m. []) (λ m. []) (lone_with 0 None old) r new old refl (served.reply 0 None) (served.state 0 None)

end_moves : (worker : ℕ) (name : JobName) (answers : LogAnswers) (r : Reply) (new old : SlotState) → IsServed (End worker name answers) r new old → Moves (end [] answers) r new old
end_moves worker name answers r new old served =
    moves (end [] answers) (end_offers answers) (λ m. []) (lone_with 0 None old) r new old refl (served.reply 0 None) (served.state 0 None)

flush_moves : (worker : ℕ) (name : JobName) (answers : HomeAnswers) (r : Reply) (new old : SlotState) → IsServed (Flush worker name answers) r new old → Moves (flush [] answers) r new old
flush_moves worker name answers r new old served =
    moves (flush [] answers) (λ m. []) (flush_offers answers) (lone_with 0 None old) r new old refl (served.reply 0 None) (served.state 0 None)

-- ---- what a move keeps
-- it keeps the life and the last serial
record IsSteady (f : State → Outcome) : Type 0 where
  life : (m : State) → (f m).state.life ≡ m.life
  serial : (m : State) → (f m).state.jobs.last_serial ≡ m.jobs.last_serial

abbrev last_at : ℕ × ℕ → ℕ → ℕ → ℕ → Bool
last_at p own life serial = (life == own) && (if serial == 0 then nat_lt p.0 life else (p.0 == life) && (p.1 == serial))

module _ (f : State → Outcome) (steady : IsSteady f) where
  last_by : (p : ℕ × ℕ) (own : ℕ) (o : Option State) → is_last_of p own (state_by f o) ≡ is_last_of p own o
  last_by p own None = refl
  last_by p own (Some m) = ap (λ n. last_at p own n (f m).state.jobs.last_serial) (steady.life m) ∙ ap (λ n. last_at p own m.life n) (steady.serial m)

  home_by : (o : Option State) → is_some (state_by f o) ≡ is_some o
  home_by None = refl
  home_by (Some m) = refl

  module _ (r : Reply) (new old : SlotState) (move : Moves f r new old) where
    moved_last : (p : ℕ × ℕ) → is_last_post p old ≡ true → is_last_post p new ≡ true
    moved_last p kept =
        ap (λ l. is_last_of p l new.mounted) move.last_life ∙ ap (λ o. is_last_of p old.last_life o) move.state ∙ last_by p old.last_life old.mounted ∙ kept

    moved_home : is_some new.mounted ≡ is_some old.mounted
    moved_home = ap (λ (o : Option State). is_some o) move.state ∙ home_by old.mounted

-- ---- a flush
module _ (answers : HomeAnswers) where
  module _ (m : State) (plan : List ℕ) where
    abbrev flush_as : Bool → State
    flush_as b = (if b then gives Nothing (unflushed m) else flushed [] plan answers m).state

    flush_life : (b : Bool) → (flush_as b).life ≡ m.life
    flush_life true = refl
    flush_life false = refl

    flush_serial : (b : Bool) → (flush_as b).jobs.last_serial ≡ m.jobs.last_serial
    flush_serial true = refl
    flush_serial false = refl

    flush_flight : (b : Bool) → (flush_as b).items.flight ≡ m.items.flight
    flush_flight true = refl
    flush_flight false = refl

    flush_ckpt : (b : Bool) → (flush_as b).jobs.ckpt ≡ m.jobs.ckpt
    flush_ckpt true = refl
    flush_ckpt false = refl

  flush_steady : IsSteady (flush [] answers)
  flush_steady = record {
    life = λ m. flush_life m (flush_plan m) (length (flush_plan m) == 0);
    serial = λ m. flush_serial m (flush_plan m) (length (flush_plan m) == 0);
  }

  log_flushed : (o : Option State) → has_log (state_by (flush [] answers) o) ≡ has_log o
  log_flushed None = refl
  log_flushed (Some m) = ap (λ f. is_none f) (flush_flight m (flush_plan m) (length (flush_plan m) == 0))

  idle_flushed : (o : Option State) → is_flown_by_job (state_by (flush [] answers) o) ≡ is_flown_by_job o
  idle_flushed None = refl
  idle_flushed (Some m) =
      let b = length (flush_plan m) == 0 in
      ap (λ f. is_none f || is_some (flush_as m (flush_plan m) b).jobs.ckpt) (flush_flight m (flush_plan m) b)
      ∙ ap (λ k. is_none m.items.flight || is_some k) (flush_ckpt m (flush_plan m) b)

-- a flush keeps all
pub flush_keeps : (worker : ℕ) (name : JobName) (answers : HomeAnswers) (r : Reply) (new old : SlotState) → IsServed (Flush worker name answers) r new old → Keeps new old
flush_keeps worker name answers r new old served =
    let move = flush_moves worker name answers r new old served in
    let f = flush [] answers in
    let steady = flush_steady answers in
    record {
      last = moved_last f steady r new old move;
      home = moved_home f steady r new old move;
      log = ap has_log move.state ∙ log_flushed answers old.mounted;
      idle = λ kept. ap is_flown_by_job move.state ∙ idle_flushed answers old.mounted ∙ kept;
    }

-- ---- an end
module _ (answers : LogAnswers) where
  module _ (m : State) where
    module _ (f : Flight) where
      abbrev end_as : Bool → State
      end_as b = (if b then gives (Reply.Landed f.number) (landed [] f m) else gives (Reply.Failed f.number) (failed [] m)).state

      as_life : (b : Bool) → (end_as b).life ≡ m.life
      as_life true = refl
      as_life false = refl

      as_serial : (b : Bool) → (end_as b).jobs.last_serial ≡ m.jobs.last_serial
      as_serial true = refl
      as_serial false = refl

      as_log : (b : Bool) → is_none (end_as b).items.flight ≡ true
      as_log true = refl
      as_log false = refl

    end_life : (o : Option Flight) → (end_of [] answers m o).state.life ≡ m.life
    end_life None = refl
    end_life (Some f) = as_life f (is_ok answers.sync)

    end_serial : (o : Option Flight) → (end_of [] answers m o).state.jobs.last_serial ≡ m.jobs.last_serial
    end_serial None = refl
    end_serial (Some f) = as_serial f (is_ok answers.sync)

    end_log : (o : Option Flight) → m.items.flight ≡ o → is_none (end_of [] answers m o).state.items.flight ≡ true
    end_log None e = ap (λ f. is_none f) e
    end_log (Some f) e = as_log f (is_ok answers.sync)

  end_steady : IsSteady (end [] answers)
  end_steady = record { life = λ m. end_life m m.items.flight; serial = λ m. end_serial m m.items.flight }

  log_ended : (o : Option State) → is_some o ≡ true → has_log (state_by (end [] answers) o) ≡ true
  log_ended None some = absurd (false≢true some)
  log_ended (Some m) some = end_log m m.items.flight refl

-- with no checkpoint in flight none is without its job
idle_if_log : (o : Option State) → has_log o ≡ true → is_flown_by_job o ≡ true
idle_if_log None log = refl
idle_if_log (Some m) log = ap (λ b. b || is_some m.jobs.ckpt) log

is_mounted : (test : State → Bool) (o : Option State) → mount_is test o ≡ true → is_some o ≡ true
is_mounted test None is = absurd (false≢true is)
is_mounted test (Some m) is = refl

-- what an end keeps: after it the log is at hand
pub record Ends (new old : SlotState) : Type 0 where
  pub last : (p : ℕ × ℕ) → is_last_post p old ≡ true → is_last_post p new ≡ true
  pub home : is_some new.mounted ≡ is_some old.mounted
  pub log : has_log new.mounted ≡ true
  pub idle : is_flown_by_job new.mounted ≡ true

pub end_keeps : (worker : ℕ) (name : JobName) (answers : LogAnswers) (r : Reply) (new old : SlotState) → mount_is (is_begun name) old.mounted ≡ true → IsServed (End worker name answers) r new old → Ends new old
end_keeps worker name answers r new old begun served =
    let move = end_moves worker name answers r new old served in
    let f = end [] answers in
    let steady = end_steady answers in
    let log : has_log new.mounted ≡ true = ap has_log move.state ∙ log_ended answers old.mounted (is_mounted (is_begun name) old.mounted begun) in
    record {
      last = moved_last f steady r new old move;
      home = moved_home f steady r new old move;
      log = log;
      idle = idle_if_log new.mounted log;
    }

-- ---- a begin
module _ (m : State) (ps : List (List ℕ)) where
  abbrev begin_as : Bool → Outcome
  begin_as b = if b then gives Nothing (finished Ckpt m) else begun ps m

  begin_life : (b : Bool) → (begin_as b).state.life ≡ m.life
  begin_life true = refl
  begin_life false = refl

  begin_serial : (b : Bool) → (begin_as b).state.jobs.last_serial ≡ m.jobs.last_serial
  begin_serial true = refl
  begin_serial false = refl

  begin_idle : (b : Bool) → is_none m.items.flight ≡ true → is_some m.jobs.ckpt ≡ true → is_flown_by_job (Some (begin_as b).state) ≡ true
  begin_idle true none some = ap (λ c. c || false) none
  begin_idle false none some = some

  begin_log : (b : Bool) → has_begun (begin_as b).reply ≡ true → has_log (Some (begin_as b).state) ≡ false
  begin_log true has = absurd (false≢true has)
  begin_log false has = refl

  begin_other : (b : Bool) → has_begun (begin_as b).reply ≡ false → has_log (Some (begin_as b).state) ≡ is_none m.items.flight
  begin_other true not_so = refl
  begin_other false not_so = absurd (false≢true (sym not_so))

begin_steady : IsSteady begin
begin_steady = record { life = λ m. begin_life m (next_pieces m) (is_some m.shut); serial = λ m. begin_serial m (next_pieces m) (is_some m.shut) }

-- a checkpoint that waits is outstanding, and nothing is in flight
not_some : {A : Type 0} (b : Bool) (o : Option A) → b ≡ true → not (b && is_some o) ≡ true → is_none o ≡ true
not_some b None is none = refl
not_some b (Some x) is none = absurd (false≢true (sym (ap (λ c. not (c && true)) is) ∙ none))

some_serial : (n : ℕ) (o : Option ℕ) → is_serial n o ≡ true → is_some o ≡ true
some_serial n None is = absurd (false≢true is)
some_serial n (Some k) is = refl

some_ckpt : (n : ℕ) (kind : JobKind) (m : State) → is_ckpt kind ≡ true → is_serial n (job kind m.jobs) ≡ true → is_some m.jobs.ckpt ≡ true
some_ckpt n Ckpt m is serial = some_serial n m.jobs.ckpt serial
some_ckpt n AFlush m is serial = absurd (false≢true is)

module _ (name : JobName) (kind : is_ckpt name.kind ≡ true) where
  waits_unflown : (m : State) → is_waiting name m ≡ true → is_none m.items.flight ≡ true
  waits_unflown m waits = not_some (is_ckpt name.kind) m.items.flight kind (and_parts _ _ waits).1

  waits_posted : (m : State) → is_waiting name m ≡ true → is_some m.jobs.ckpt ≡ true
  waits_posted m waits = some_ckpt name.serial name.kind m kind (and_parts _ _ (and_parts _ _ waits).0).1

  log_waits : (o : Option State) → mount_is (is_waiting name) o ≡ true → has_log o ≡ true
  log_waits None waits = absurd (false≢true waits)
  log_waits (Some m) waits = waits_unflown m waits

  idle_begun : (o : Option State) → mount_is (is_waiting name) o ≡ true → is_flown_by_job (state_by begin o) ≡ true
  idle_begun None waits = refl
  idle_begun (Some m) waits = begin_idle m (next_pieces m) (is_some m.shut) (waits_unflown m waits) (waits_posted m waits)

log_begun : (o : Option State) → has_begun (reply_by begin o) ≡ true → has_log (state_by begin o) ≡ false
log_begun None has = refl
log_begun (Some m) has = begin_log m (next_pieces m) (is_some m.shut) has

log_other : (o : Option State) → has_begun (reply_by begin o) ≡ false → has_log (state_by begin o) ≡ has_log o
log_other None not_so = refl
log_other (Some m) not_so = begin_other m (next_pieces m) (is_some m.shut) not_so

-- what a begin keeps: it takes the log where it begins a checkpoint, and leaves it where there is nothing to do
pub record Begins (r : Reply) (new old : SlotState) : Type 0 where
  pub last : (p : ℕ × ℕ) → is_last_post p old ≡ true → is_last_post p new ≡ true
  pub home : is_some new.mounted ≡ is_some old.mounted
  pub idle : is_flown_by_job new.mounted ≡ true
  pub before : has_log old.mounted ≡ true
  pub begun : has_begun r ≡ true → has_log new.mounted ≡ false
  pub other : has_begun r ≡ false → has_log new.mounted ≡ has_log old.mounted

pub begin_keeps : (worker : ℕ) (name : JobName) (r : Reply) (new old : SlotState) → is_ckpt name.kind ≡ true → mount_is (is_waiting name) old.mounted ≡ true → IsServed (Begin worker name) r new old → Begins r new old
begin_keeps worker name r new old kind waits served =
    let move = begin_moves worker name r new old served in
    record {
      last = moved_last begin begin_steady r new old move;
      home = moved_home begin begin_steady r new old move;
      idle = ap is_flown_by_job move.state ∙ idle_begun name kind old.mounted waits;
      before = log_waits name kind old.mounted waits;
      begun = λ has. ap has_log move.state ∙ log_begun old.mounted (sym (ap has_begun move.reply) ∙ has);
      other = λ not_so. ap has_log move.state ∙ log_other old.mounted (sym (ap has_begun move.reply) ∙ not_so);
    }

-- where it is refused memory it begins none
pub not_begun : (r : Reply) → is_no_memory r ≡ true → has_begun r ≡ false
not_begun (Reply.Begun number pieces) refused = absurd (false≢true refused)
not_begun other refused = refl

-- ---- the checkpoint in flight
-- two lists of pieces are compared piece by piece, and these byte by byte
pub pieces_decide : (xs ys : List (List ℕ)) → Decides (pointwise (pointwise nat_eq) xs ys) (xs ≡ ys)
pieces_decide = pointwise_decides (pointwise_decides unsigned_Decides)
