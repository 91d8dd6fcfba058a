-- What a run of steps wrote.
use Rattle.std.proofs.Common.{◌≡◌, ◌∙◌, ◌+◌, ◌++◌, ◌∷◌, ◌≤◌, ◌<◌, ℕ, List, [], ap, append_assoc, append-nil, cond, get_or, length, take, Option, Some, None, false, inl, inr, refl, subst, sym, true, true≢false}
use Rattle.std.proofs.lemmas.Bool.{cases_Bool}
use Rattle.std.proofs.lemmas.Grind.{flat_map-append}
use Rattle.std.proofs.lemmas.List.{take_all}
use Rattle.std.proofs.lemmas.List.Concat.{flat_map-cons}
use Rattle.std.proofs.lemmas.Option.{get_or_from_slice_get}
use Rattle.std.specs.Prelude.{Err, IfErr, IfOk, IfSome, MatchResult, Ok, OnErr, OnOk, Result, is_ok, ◌==◌}
use Rattle.std.specs.Io.KnownBytes.{Appends, Keeps}
use Rattle.xt_base.specs.Alone.{Said}
use Rattle.xt_base.specs.Isolation.{BreaksAt, Tells, Told}
use Rattle.xt_base.specs.Sound.{Each}
use Rattle.xt_base.specs.Steps.{slot_of, strike}
use Rattle.xt_base.specs.declared.outcomes.RunFault.TheVariants.{Disorder}
use Rattle.xt_base.specs.declared.steps.Step.{Step}
use Rattle.xt_core.proofs.ToldLemmas.{told_all, told_before, told_next}
use Rattle.xt_core.specs.Host.{Host, IsNew, may_come}
use Rattle.xt_core.specs.Runs.{AreTurnsOf, IsBarred, IsToldBy}
use Rattle.xt_offline.proofs.AppendLemmas.{appends_kept, appends_more, appends_none, begins_all, begins_same, begins_then, keeps_same}
use Rattle.xt_offline.specs.Printing.{Begins, disorder_text, turn_text, turns_text}
use Rattle.xt_offline.specs.Script.{is_of_script, picked, status_of, IsBegun, IsCutShort, IsFault, IsFaultIn, IsOutput, IsPlayed, IsPrinted, IsPutBehind, IsReported, IsRun, IsScript}
use Rattle.xt_offline.specs.declared.fault.ScriptFault.{ScriptFault}
use Rattle.xt_offline.specs.declared.fault.ScriptFault.TheVariants.{BadLine, Io, Memory, TooLong}
use Rattle.xt_text.specs.Lines.{IsStep}

-- a fact that holds whatever came about
pub on_err : {T E : Type 0} (r : Result T E) (P : Type 0) → P → OnErr r P
on_err (Ok x) P is = tt
on_err (Err e) P is = is

-- what holds if nothing failed
pub on_ok : {T E : Type 0} (r : Result T E) (P : Type 0) → true ≡ is_ok r → OnOk r P → P
on_ok (Ok x) P is held = held
on_ok (Err e) P is held = absurd (true≢false is)

-- the value of a result, if it has one
abbrev value : {T E : Type 0} → T → Result T E → T
value other (Ok x) = x
value other (Err e) = other

-- what holds of the value that a call gives, once its error was named anew
pub if_ok : {T E D : Type 0} (r : Result T E) (q : Result T D) (x : T) (Q : E → Type 0) (P : T → Type 0) → q ≡ Ok x → MatchResult r (λ y. q ≡ Ok y) Q → true ≡ is_ok r → IfOk r P → P x
if_ok (Ok y) q x Q P got cases is held = subst P (ap (value x) (sym cases ∙ got)) held
if_ok (Err e) q x Q P got cases is held = absurd (true≢false is)

-- what all steps said is what a run of them prints
pub output_all : (steps : List Step) (told : Told) → Tells steps told → AreTurnsOf steps told → IsOutput steps (turns_text told.turns) 0
output_all steps told tells are = inl (refl, (told, (tells, (are, refl))))

-- what the steps before one that breaks order said, and its place, is what a run of them prints
pub output_up_to : (steps : List Step) (at : ℕ) (told : Told) → BreaksAt at steps told → IsBarred steps (Disorder at told) → IsOutput steps (turns_text told.turns ++ disorder_text at) 3
output_up_to steps at told breaks barred = inr (refl, (at, (told, (breaks, (barred, refl)))))

-- ---- step by step
-- steps led to a host, and what they told was written, but for lines that wait
pub record HasPrinted (done : List Step) (host : Host) (lines : List ℕ) (old new : Option (List ℕ)) : Type 0 where
  pub turns : List Said
  pub written : List ℕ
  pub told : IsToldBy done turns host
  pub appended : Appends old new written
  pub text : turns_text turns ≡ written ++ lines

-- the lines of turns, one after another
turns_then : (turns more : List Said) → turns_text (turns ++ more) ≡ turns_text turns ++ turns_text more
turns_then turns more = flat_map-append turn_text turns more

turns_one : (t : Said) (more : List Said) → turns_text (t ∷ more) ≡ turn_text t ++ turns_text more
turns_one t more = flat_map-cons turn_text t more

turns_last : (turns : List Said) (t : Said) → turns_text (turns ++ t ∷ []) ≡ turns_text turns ++ turn_text t
turns_last turns t = turns_then turns (t ∷ []) ∙ ap (λ l. turns_text turns ++ l) (turns_one t [] ∙ append-nil (turn_text t))

-- before the first step
pub way_none : (host : Host) (old : Option (List ℕ)) → IsNew host → HasPrinted [] host [] old old
way_none host old is = record { turns = []; written = []; told = IsToldBy.none host is; appended = appends_none old; text = refl }

-- the lines that waited were written
pub way_written : (done : List Step) (host : Host) (lines none : List ℕ) (old now new : Option (List ℕ)) → HasPrinted done host lines old now → Appends now new lines → none ≡ [] → HasPrinted done host none old new
way_written done host lines none old now new way more is = record {
  turns = way.turns;
  written = way.written ++ lines;
  told = way.told;
  appended = appends_more old now new way.written lines way.appended more;
  text = way.text ∙ sym (append-nil (way.written ++ lines)) ∙ ap (λ l. (way.written ++ lines) ++ l) (sym is);
}

module _ (steps : List Step) (at : ℕ) (host : Host) (lines : List ℕ) (old now : Option (List ℕ)) (way : HasPrinted (take at steps) host lines old now) where
  -- all steps were run, and the lines that waited were written
  pub way_all : (new : Option (List ℕ)) → length steps ≤ at → Appends now new lines → IsPrinted steps old new 0
  way_all new over more =
      let told = told_all steps at way.turns host over way.told in
      let text : turns_text told.0.turns ≡ way.written ++ lines = ap turns_text told.1.0 ∙ way.text in
      let are : AreTurnsOf steps told.0 = (host, subst (λ l. IsToldBy steps l host) (sym told.1.0) (subst (λ xs. IsToldBy xs way.turns host) (take_all at steps over) way.told)) in
      (turns_text told.0.turns, (output_all steps told.0 told.1.1 are, subst (Appends old new) (sym text) (appends_more old now new way.written lines way.appended more)))

  -- a beginning of what they told was written
  pub way_begun : (new : Option (List ℕ)) → Begins now new lines → IsCutShort steps old new
  way_begun new begun =
      inr (turns_text way.turns, (inl (at, (host, (way.turns, (way.told, refl)))), subst (Begins old new) (sym way.text) (begins_then old now new way.written lines way.appended begun)))

  -- and of the lines that wait nothing
  pub way_cut : IsCutShort steps old now
  way_cut = way_begun now (begins_same now lines)

  module _ (x : Step) (within : at < length steps) (is : x ≡ get_or steps at x) where
    -- one more step was taken, and what it said waits
    pub way_more : (next : Host) (longer : List ℕ) → IsPutBehind x next host longer lines → HasPrinted (take (at + 1) steps) next longer old now
    way_more next longer put = record {
      turns = way.turns ++ put.0 ∷ [];
      written = way.written;
      told = told_next steps at way.turns x put.0 next within is (put.1.0 (take at steps) way.turns way.told);
      appended = way.appended;
      text = turns_last way.turns put.0 ∙ ap (λ l. l ++ turn_text put.0) way.text ∙ append_assoc way.written lines (turn_text put.0) ∙ ap (λ l. way.written ++ l) (sym put.1.1);
    }

    broken : (o : Told) → o.turns ≡ way.turns → turns_text o.turns ++ disorder_text at ≡ way.written ++ (lines ++ disorder_text at)
    broken o same = ap (λ l. l ++ disorder_text at) (ap turns_text same ∙ way.text) ∙ append_assoc way.written lines (disorder_text at)

    -- it may not come where the steps before it led
    barred : may_come host x ≡ false → (o : Told) → o.turns ≡ way.turns → IsBarred steps (Disorder at o)
    barred cannot o same =
        (host, (subst (λ l. IsToldBy (take at steps) l host) (sym same) way.told, λ y there. ap (may_come host) (sym (is ∙ get_or_from_slice_get steps at y x there)) ∙ cannot))

    -- a step breaks order, and the lines that waited and its place were written
    pub way_stop : (new : Option (List ℕ)) → may_come host x ≡ false → Appends now new (lines ++ disorder_text at) → IsPrinted steps old new 3
    way_stop new cannot more =
        let told = told_before steps at way.turns x host within is way.told cannot in
        (turns_text told.0.turns ++ disorder_text at, (output_up_to steps at told.0 told.1.1 (barred cannot told.0 told.1.0), subst (Appends old new) (sym (broken told.0 told.1.0)) (appends_more old now new way.written (lines ++ disorder_text at) way.appended more)))

    -- the same, and only a beginning of them was written
    pub stop_cut : (new : Option (List ℕ)) → may_come host x ≡ false → Begins now new (lines ++ disorder_text at) → IsCutShort steps old new
    stop_cut new cannot begun =
        let told = told_before steps at way.turns x host within is way.told cannot in
        inr (turns_text told.0.turns ++ disorder_text at, (inr (3, output_up_to steps at told.0 told.1.1 (barred cannot told.0 told.1.0)), subst (Begins old new) (sym (broken told.0 told.1.0)) (begins_then old now new way.written (lines ++ disorder_text at) way.appended begun)))

-- each of the steps of one slot is a step, as all are
pub picked_steps : (only : Option ℕ) (steps : List Step) → Each IsStep steps → Each IsStep (picked only steps)
picked_steps None steps are = are
picked_steps (Some slot) [] are = tt
picked_steps (Some slot) (x ∷ xs) are =
    elim (cases_Bool (slot_of x == slot)) [
      | inl own ↦ subst (λ b. Each IsStep (cond b (x ∷ strike xs slot) (strike xs slot))) (sym own) (are.0, picked_steps (Some slot) xs are.1)
      | inr other ↦ subst (λ b. Each IsStep (cond b (x ∷ strike xs slot) (strike xs slot))) (sym other) (picked_steps (Some slot) xs are.1)
    ]

-- no step was run
pub cut_none : (steps : List Step) (old : Option (List ℕ)) → IsCutShort steps old old
cut_none steps old = inl (keeps_same old)

-- what was printed stays
pub printed_kept : (steps : List Step) (old between new : Option (List ℕ)) (status : ℕ) → IsPrinted steps old between status → Keeps between new → IsPrinted steps old new status
printed_kept steps old between new status printed kept = (printed.0, (printed.1.0, appends_kept old between new printed.0 printed.1.1 kept))

-- what was printed is a beginning of itself
pub cut_last : (steps : List Step) (old between new : Option (List ℕ)) (status : ℕ) → IsPrinted steps old between status → Keeps between new → IsCutShort steps old new
cut_last steps old between new status printed kept = inr (printed.0, (inr (status, printed.1.0), begins_all old new printed.0 (appends_kept old between new printed.0 printed.1.1 kept)))

-- a script was played
pub played : (left : Option (List ℕ)) (only : Option ℕ) (script : List ℕ) (steps chosen : List Step) (old new : Option (List ℕ)) (status : ℕ) → IfSome left (λ bytes. script ≡ bytes) → length script ≤ 16777216 → IsScript script steps → chosen ≡ picked only steps → IsPrinted chosen old new status → IfSome left (λ bytes. IsPlayed only bytes old new status)
played None only script steps chosen old new status read short says picks printed = tt
played (Some bytes) only script steps chosen old new status read short says picks printed =
    (subst (λ s. length s ≤ 16777216) read short, (steps, (subst (λ s. IsScript s steps) read says, subst (λ xs. IsPrinted xs old new status) picks printed)))

-- the same of a result
pub played_whole : (r : Result ℕ ScriptFault) (left : Option (List ℕ)) (only : Option ℕ) (script : List ℕ) (steps chosen : List Step) (old new : Option (List ℕ)) → IfSome left (λ bytes. script ≡ bytes) → length script ≤ 16777216 → IsScript script steps → chosen ≡ picked only steps → IfOk r (IsPrinted chosen old new) → IfOk r (λ status. IfSome left (λ bytes. IsPlayed only bytes old new status))
played_whole (Ok status) left only script steps chosen old new read short says picks printed = played left only script steps chosen old new status read short says picks printed
played_whole (Err fault) left only script steps chosen old new read short says picks printed = tt

-- ---- faults
-- nothing was written before a fault of a script
pub fault_in : (only : Option ℕ) (script : List ℕ) (old : Option (List ℕ)) (fault : ScriptFault) → IsFaultIn script fault → IsFault only script old old fault
fault_in only script old (BadLine number) is = (keeps_same old, is)
fault_in only script old TooLong is = (keeps_same old, is)
fault_in only script old (Io error) is = inl (keeps_same old)
fault_in only script old (Memory error) is = inl (keeps_same old)

-- a script was not read
pub fault_unread : (left : Option (List ℕ)) (only : Option ℕ) (old : Option (List ℕ)) (fault : ScriptFault) → IfSome left (λ bytes. IsFaultIn bytes fault) → IfSome left (λ bytes. IsFault only bytes old old fault)
fault_unread None only old fault is = tt
fault_unread (Some bytes) only old fault is = fault_in only bytes old fault is

-- a script was read, and not parsed
pub fault_unparsed : (left : Option (List ℕ)) (only : Option ℕ) (script : List ℕ) (old : Option (List ℕ)) (fault : ScriptFault) → IfSome left (λ bytes. script ≡ bytes) → IsFaultIn script fault → IfSome left (λ bytes. IsFault only bytes old old fault)
fault_unparsed None only script old fault read is = tt
fault_unparsed (Some bytes) only script old fault read is = fault_in only bytes old fault (subst (λ s. IsFaultIn s fault) read is)

-- a script was parsed, and its steps were not picked
pub fault_unpicked : (left : Option (List ℕ)) (only : Option ℕ) (old : Option (List ℕ)) (fault : ScriptFault) → is_of_script fault ≡ false → IfSome left (λ bytes. IsFault only bytes old old fault)
fault_unpicked None only old fault other = tt
fault_unpicked (Some bytes) only old (BadLine number) other = absurd (true≢false other)
fault_unpicked (Some bytes) only old TooLong other = absurd (true≢false other)
fault_unpicked (Some bytes) only old (Io error) other = inl (keeps_same old)
fault_unpicked (Some bytes) only old (Memory error) other = inl (keeps_same old)

-- a script's steps were picked, and their run was cut short
pub fault_late : (left : Option (List ℕ)) (only : Option ℕ) (script : List ℕ) (steps chosen : List Step) (old new : Option (List ℕ)) (fault : ScriptFault) → IfSome left (λ bytes. script ≡ bytes) → IsScript script steps → chosen ≡ picked only steps → IsCutShort chosen old new → is_of_script fault ≡ false → IfSome left (λ bytes. IsFault only bytes old new fault)
fault_late None only script steps chosen old new fault read says picks cut other = tt
fault_late (Some bytes) only script steps chosen old new fault read says picks cut other = given fault other cut
  where
    begun : IsBegun chosen old new → (xs : List Step) × (IsScript bytes xs × IsBegun (picked only xs) old new)
    begun is = (steps, (subst (λ s. IsScript s steps) read says, subst (λ xs. IsBegun xs old new) picks is))

    given : (f : ScriptFault) → is_of_script f ≡ false → IsCutShort chosen old new → IsFault only bytes old new f
    given (BadLine number) o c = absurd (true≢false o)
    given TooLong o c = absurd (true≢false o)
    given (Io error) o (inl kept) = inl kept
    given (Io error) o (inr is) = inr (begun is)
    given (Memory error) o (inl kept) = inl kept
    given (Memory error) o (inr is) = inr (begun is)

-- the same of a result
pub played_late : (r : Result ℕ ScriptFault) (left : Option (List ℕ)) (only : Option ℕ) (script : List ℕ) (steps chosen : List Step) (old new : Option (List ℕ)) → IfSome left (λ bytes. script ≡ bytes) → IsScript script steps → chosen ≡ picked only steps → OnErr r (IsCutShort chosen old new) → IfErr r (λ fault. is_of_script fault ≡ false) → IfErr r (λ fault. IfSome left (λ bytes. IsFault only bytes old new fault))
played_late (Ok status) left only script steps chosen old new read says picks cut other = tt
played_late (Err fault) left only script steps chosen old new read says picks cut other = fault_late left only script steps chosen old new fault read says picks cut other

-- a run of a script came to its end
pub run_whole : (left : Option (List ℕ)) (only : Option ℕ) (old new err : Option (List ℕ)) (status : ℕ) → IfSome left (λ script. IsPlayed only script old new status) → IfSome left (λ script. IsRun only script old new err err status)
run_whole None only old new err status is = tt
run_whole (Some script) only old new err status is = inl (is, keeps_same err)

-- a run of a script came to a fault
pub run_stopped : (left : Option (List ℕ)) (only : Option ℕ) (old new err_old err_new : Option (List ℕ)) (status : ℕ) (fault : ScriptFault) → IfSome left (λ script. IsFault only script old new fault) → IsReported fault err_old err_new → status ≡ status_of fault → IfSome left (λ script. IsRun only script old new err_old err_new status)
run_stopped None only old new err_old err_new status fault is told same = tt
run_stopped (Some script) only old new err_old err_new status fault is told same = inr (fault, record { written = is; told = told; ended = same })
