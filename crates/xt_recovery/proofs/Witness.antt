-- The premises of the promise can be met: of each form there is a run whose checkpoint lands, and there is one whose log may turn.
use Rattle.std.proofs.Common.{◌≡◌, ◌∙◌, ◌∷◌, ◌++◌, Bool, List, None, Option, Some, [], ap, arith, false, inl, length, refl, subst, suc, sym, true, zero, ℕ}
use Rattle.std.proofs.lemmas.List.{take-append-drop}
use Rattle.std.specs.Prelude.{drop, if◌then◌else◌, is_none, is_some, not, replicate, take, unwrap_or}
use Rattle.xt_base.specs.Alone.{after, alone, mounted_new, unless_refused}
use Rattle.xt_base.specs.Calls.{first_of}
use Rattle.xt_base.specs.Chunks.{chunks_where}
use Rattle.xt_base.specs.Form.{Form, form_of, form_one, is_size}
use Rattle.xt_base.specs.Space.{cost, flight_items}
use Rattle.xt_base.specs.Sound.{Each}
use Rattle.xt_base.specs.State.{Lone, State, empty, mount_of}
use Rattle.xt_base.specs.declared.names.JobKind.{JobKind}
use Rattle.xt_base.specs.declared.names.JobName.{JobName}
use Rattle.xt_base.specs.declared.steps.Answer.{Answer}
use Rattle.xt_base.specs.declared.steps.Errno.{Errno}
use Rattle.xt_base.specs.declared.steps.Errno.TheVariants.{Busy, Invalid, NoSpace}
use Rattle.xt_base.specs.declared.steps.Request.{Request}
use Rattle.xt_base.specs.declared.steps.Step.{Step}
use Rattle.xt_base.specs.declared.steps.Step.TheVariants.{Begin, Call, End, Mount, Post, Take}
use Rattle.xt_recovery.proofs.FailedLemmas.{stands_from}
use Rattle.xt_recovery.proofs.Formed.{FitsTexts}
use Rattle.xt_recovery.proofs.FormedLemmas.{MountFitsTexts}
use Rattle.xt_recovery.proofs.MatchLemmas.{each_append}
use Rattle.xt_recovery.proofs.QuietSteps.{IsQuiet, all_suit, quiet_begin, quiet_call, quiet_disks, quiet_end, quiet_post, quiet_steps, quiet_take, suit_by, uncut}
use Rattle.xt_recovery.proofs.SuitedSteps.{suited_steps}
use Rattle.xt_recovery.proofs.TurnLemmas.{flight_cost}
use Rattle.xt_recovery.specs.Crash.{Lands}
use Rattle.xt_recovery.specs.DiskSteps.{AllSuit, AreDiskSteps, may_cut}
use Rattle.xt_recovery.specs.Disks.{Disks, new_disks}
use Rattle.xt_recovery.specs.Log.{Image}
use Rattle.xt_recovery.specs.Turns.{LogTurns, log_length}

-- ---- steps of slot 0
-- the n-th checkpoint
abbrev job : ℕ → JobName
job n = record { slot = 0; life = 1; kind = JobKind.Ckpt; serial = n }

-- a mount
abbrev mounts : Option ℕ → Step
mounts size = Mount 0 65536 1024 size

-- a call of it
abbrev calls : Request → Step
calls request = Call 0 1 request Answer.None

-- commit, force, and the begin of a checkpoint
abbrev begins : ℕ → List Step
begins n = calls (Request.Commit n) ∷ calls Request.Force ∷ Post (job n) ∷ Take 0 (job n) ∷ Begin 0 (job n) ∷ []

-- and its end, with a text of so many pieces
abbrev lands : ℕ → ℕ → List Step
lands n pieces = begins n ++ End 0 (job n) (record { taken = pieces; sync = Some true }) ∷ []

-- a checkpoint that cancels a block
abbrev cancels : ℕ → ℕ → List Step
cancels n b = calls (Request.Alloc 52 1 false) ∷ calls (Request.Get n b) ∷ calls (Request.Inval n b) ∷ lands n 1

-- each block below so many is written whole
abbrev logs : ℕ → ℕ → List Step
logs n zero = []
logs n (suc b) = calls (Request.Get n b) ∷ calls (Request.Log 0 n b (replicate 4096 1)) ∷ logs n b

-- three checkpoints land, of which no block waits to be written home, and one of fifteen blocks is in flight
abbrev turning : List Step
turning = cancels 1 20 ++ (calls (Request.Alloc 4144 1 false) ∷ logs 2 1 ++ lands 2 2) ++ cancels 3 0 ++ (calls (Request.Alloc 61712 1 false) ∷ logs 4 15 ++ begins 4)

-- ---- none of them touches the home device
-- a begin, and what comes before it
begins_quiet : (n : ℕ) → Each IsQuiet (begins n)
begins_quiet n = (quiet_call 0 1 (Request.Commit n) Answer.None (λ home m. tt), (quiet_call 0 1 Request.Force Answer.None (λ home m. tt), (quiet_post (job n), (quiet_take 0 (job n), (quiet_begin 0 (job n), tt)))))

-- nor does an end
lands_quiet : (n pieces : ℕ) → Each IsQuiet (lands n pieces)
lands_quiet n pieces = each_append IsQuiet (begins n) (End 0 (job n) (record { taken = pieces; sync = Some true }) ∷ []) (begins_quiet n) (quiet_end 0 (job n) (record { taken = pieces; sync = Some true }), tt)

-- nor a checkpoint that cancels
cancels_quiet : (n b : ℕ) → Each IsQuiet (cancels n b)
cancels_quiet n b =
    (quiet_call 0 1 (Request.Alloc 52 1 false) Answer.None (λ home m. tt), (quiet_call 0 1 (Request.Get n b) Answer.None (λ home m. tt), (quiet_call 0 1 (Request.Inval n b) Answer.None (λ home m. tt), lands_quiet n 1)))

-- nor what writes blocks in a transaction
logs_quiet : (n b : ℕ) → Each IsQuiet (logs n b)
logs_quiet n zero = tt
logs_quiet n (suc b) = (quiet_call 0 1 (Request.Get n b) Answer.None (λ home m. tt), (quiet_call 0 1 (Request.Log 0 n b (replicate 4096 1)) Answer.None (λ home m. tt), logs_quiet n b))

-- so none of all these
turning_quiet : Each IsQuiet turning
turning_quiet =
    let second : List Step = calls (Request.Alloc 4144 1 false) ∷ logs 2 1 ++ lands 2 2 in
    let last : List Step = calls (Request.Alloc 61712 1 false) ∷ logs 4 15 ++ begins 4 in
    each_append IsQuiet (cancels 1 20) (second ++ cancels 3 0 ++ last) (cancels_quiet 1 20)
    (each_append IsQuiet second (cancels 3 0 ++ last) (quiet_call 0 1 (Request.Alloc 4144 1 false) Answer.None (λ home m. tt), each_append IsQuiet (logs 2 1) (lands 2 2) (logs_quiet 2 1) (lands_quiet 2 2))
    (each_append IsQuiet (cancels 3 0) last (cancels_quiet 3 0) (quiet_call 0 1 (Request.Alloc 61712 1 false) Answer.None (λ home m. tt), each_append IsQuiet (logs 4 15) (begins 4) (logs_quiet 4 15) (begins_quiet 4))))

-- ---- the mount
-- the slot after it
abbrev mounted_slot : Option ℕ → Lone
mounted_slot size = record { last_life = 1; seen_life = 0; seen_reason = None; mounted = Some (mount_of 0 1 65536 1024 (form_of size)) }

-- why a mount of a size is refused, by whether it may have the size
abbrev why : Bool → Option Errno
why one_of = first_of ((false, Busy) ∷ (not one_of, Invalid) ∷ (false, NoSpace) ∷ [])

-- a mount of one of the sizes is made
it_mounts : (size : Option ℕ) → is_size size ≡ true → (alone (mounts size) empty).slot ≡ mounted_slot size
it_mounts size one_of = ap (λ b. (unless_refused (why b) empty (mounted_new 0 65536 1024 size empty)).slot) one_of

-- the disks of a new mount are those of the mount before it where they are new too
new_again : (b : Bool) (d : Disks) → d ≡ (if b then d else d)
new_again true d = refl
new_again false d = refl

-- steps that suit it suit behind it
suit_mounted : (size : Option ℕ) (xs : List Step) → is_size size ≡ true → all_suit xs (mounted_slot size) ≡ true → AllSuit (mounts size ∷ xs) empty
suit_mounted size xs one_of suit = (refl, subst (AllSuit xs) (sym (it_mounts size one_of)) (suit_by xs (mounted_slot size) suit))

-- and take the disks of a new mount to the same
disks_mounted : (size : Option ℕ) (xs : List Step) (start : Image) → is_size size ≡ true → Each IsQuiet xs
    → AreDiskSteps (mounts size ∷ xs) empty (new_disks (form_of size) start) (quiet_disks xs (mounted_slot size) (new_disks (form_of size) start))
disks_mounted size xs start one_of quiet =
    let d : Disks = new_disks (form_of size) start in (
      d,
      d,
      record { form = λ ok. refl; told = tt; home = λ ok. ([], inl refl, λ b k less. refl); after = new_again (is_none (why (is_size size))) d },
      uncut (alone (mounts size) empty).slot.mounted d,
      subst (λ s. AreDiskSteps xs s d (quiet_disks xs (mounted_slot size) d)) (sym (it_mounts size one_of)) (quiet_steps xs (mounted_slot size) d quiet),
    )

-- ---- a checkpoint lands
-- one that cancels a block
they_suit : (size : Option ℕ) → all_suit (cancels 1 7) (mounted_slot size) ≡ true
unfolding all_suit
they_suit None = refl
they_suit (Some n) = refl

-- its text is on the log
one_text : (size : Option ℕ) (start : Image) → length (quiet_disks (cancels 1 7) (mounted_slot size) (new_disks (form_of size) start)).log ≡ 1
unfolding quiet_disks
one_text None start = refl
one_text (Some n) start = refl

-- so a run of each form lands a checkpoint
pub it_lands : Lands
it_lands size one_of start = (
  mounts size ∷ cancels 1 7,
  quiet_disks (cancels 1 7) (mounted_slot size) (new_disks (form_of size) start),
  suit_mounted size (cancels 1 7) one_of (they_suit size),
  disks_mounted size (cancels 1 7) start one_of (cancels_quiet 1 7),
  one_text size start,
)

-- ---- a log may turn
-- the steps are in order
they_suit_turning : all_suit turning (mounted_slot None) ≡ true
unfolding all_suit chunks_where
they_suit_turning = refl

-- the disks then
abbrev disks_turning : Image → Disks
disks_turning start = quiet_disks turning (mounted_slot None) (new_disks form_one start)

-- there is one text more than the two newer ones
three_texts : (start : Image) → length (drop 2 (disks_turning start).log) ≡ 1
unfolding quiet_disks chunks_where
three_texts start = refl

-- these have 4,192 bytes
newer_bytes : (start : Image) → log_length (disks_turning start).form (take 2 (disks_turning start).log) ≡ 4192
unfolding quiet_disks chunks_where
newer_bytes start = refl

-- the mount then
abbrev mount_turning : State
mount_turning = unwrap_or (after (mounts None ∷ turning) empty).mounted (mount_of 0 1 65536 1024 form_one)

-- there is one
some_there : is_some (after (mounts None ∷ turning) empty).mounted ≡ true
unfolding chunks_where
some_there = refl

-- and that is it
it_is_there : (after (mounts None ∷ turning) empty).mounted ≡ Some mount_turning
it_is_there = some_is (after (mounts None ∷ turning) empty).mounted (mount_of 0 1 65536 1024 form_one) some_there
  where
    some_is : (o : Option State) (other : State) → is_some o ≡ true → o ≡ Some (unwrap_or o other)
    some_is None other is = absurd (cc)
    some_is (Some m) other is = refl

-- its checkpoint in flight has 61,712 bytes, and its log 65,536
flight_costs : cost form_one.ends (flight_items mount_turning.items.flight) ≡ 61712
unfolding chunks_where
flight_costs = refl

log_has : mount_turning.log_bytes ≡ 65536
unfolding chunks_where
log_has = refl

-- the mount is live, and the form is as it was
it_may : may_cut mount_turning ≡ true
unfolding chunks_where
it_may = refl

form_turning : (start : Image) → (disks_turning start).form ≡ form_one
unfolding quiet_disks chunks_where
form_turning start = refl

-- so the log may drop the oldest text
pub it_turns : LogTurns
it_turns start =
    let d : Disks = disks_turning start in
    let steps : List Step = mounts None ∷ turning in
    let suit : AllSuit steps empty = suit_mounted None turning refl they_suit_turning in
    let went : AreDiskSteps steps empty (new_disks form_one start) d = disks_mounted None turning start refl turning_quiet in
    let stands = stands_from steps form_one start d (suited_steps steps empty (new_disks form_one start) d suit went) in
    let fits : FitsTexts d mount_turning = subst (MountFitsTexts d) it_is_there stands.proper.mount in
    let flies = flight_cost mount_turning.items.flight d (λ f is. (fits.flight f is).proper) in
    let costs : cost d.form.ends (flight_items mount_turning.items.flight) ≡ 61712 = ap (λ (x : Form). cost x.ends (flight_items mount_turning.items.flight)) (form_turning start) ∙ flight_costs in (
      steps,
      d,
      record d { log = take 2 d.log },
      mount_turning,
      suit,
      went,
      it_is_there,
      record {
        newer = take 2 d.log;
        older = drop 2 d.log;
        allowed = it_may;
        parts = sym (take-append-drop 2 d.log);
        enough = omega (arith, newer_bytes start, flies, costs, log_has);
        left = refl;
      },
      omega (arith, three_texts start),
    )
