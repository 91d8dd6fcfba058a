-- Printed replies and offers have no newline.
use Rattle.std.proofs.Common.{Bool, List, None, Option, Some, [], arith, codes, cond, eqb, false, flat_map, not, refl, replicate, suc, true, zero, ℕ, ◌&&◌, ◌++◌, ◌/◌, ◌%◌, ◌≡◌, ◌≤◌, ◌∷◌}
use Rattle.std.specs.Fmt.{decimal, digits, digits_onto}
use Rattle.std.proofs.lemmas.Bool.{cond_both, ne_eqb}
use Rattle.std.proofs.lemmas.List.Folds.{list_all-append}
use Rattle.xt_base.specs.Errors.{name_of}
use Rattle.xt_base.specs.declared.stat.Stat.{Stat}
use Rattle.xt_base.specs.declared.steps.Errno.{Errno}
use Rattle.xt_base.specs.declared.steps.Errno.TheVariants.{Again, Busy, Invalid, Io, NoBufs, NoDevice, NoMemory, NoSpace, Stale}
use Rattle.xt_base.specs.declared.steps.HomeOffer.{HomeOffer}
use Rattle.xt_base.specs.declared.steps.LogOffer.{LogOffer}
use Rattle.xt_base.specs.declared.steps.Reason.{Reason}
use Rattle.xt_base.specs.declared.steps.Reason.TheVariants.{CorruptIncore, ForceUmount, LogIoError, MetaIoError}
use Rattle.xt_base.specs.declared.steps.Reply.{Reply}
use Rattle.xt_text.proofs.ReadAgain.{digit_high}
use Rattle.xt_text.specs.DataText.{after_run, between, hex, hex_digit, is_short, run_text, runs, runs_text, spelling}
use Rattle.xt_text.specs.Lines.{ckpt_text, ok_text, trans_text, ◌␣◌}
use Rattle.xt_text.specs.Replies.{blocks_text, frozen_text, held_text, home_offer_text, is_one_line, jobs_text, lists_text, log_offer_text, reply_text, seen_text, slot_reply_text, space_text, stat_text}
use Rattle.xt_text.specs.declared.data_text.Run.{Run}

-- two texts of one line, one behind the other
pub joined : (a b : List ℕ) → is_one_line a ≡ true → is_one_line b ≡ true → is_one_line (a ++ b) ≡ true
joined a b one two = rw (list_all-append (λ c. not (eqb c 10)) a b, one, two) refl

-- a character above a newline before a text of one line
pub onto : (c : ℕ) (a : List ℕ) → 11 ≤ c → is_one_line a ≡ true → is_one_line (c ∷ a) ≡ true
onto c a high one = rw (ne_eqb c 10 (λ e. omega arith), one) refl

-- two words of one line, with a space between them
pub spaced : (a b : List ℕ) → is_one_line a ≡ true → is_one_line b ≡ true → is_one_line (a ␣ b) ≡ true
spaced a b one two = joined a (32 ∷ b) one (onto 32 b (omega arith) two)

-- ---- numbers
-- a digit before a text of one line
pub digit_onto : (d : ℕ) (a : List ℕ) → is_one_line a ≡ true → is_one_line (hex_digit d ∷ a) ≡ true
digit_onto d a one = onto (hex_digit d) a (omega (arith, digit_high d)) one

-- the digits of a number before a text of one line
pub digits_before : (k n : ℕ) (a : List ℕ) → is_one_line a ≡ true → is_one_line (digits_onto k 10 false n a) ≡ true
digits_before zero n a one = one
digits_before (suc k) n a one =
    let next = digit_onto (n % 10) a one in
    cond_both (eqb (n / 10) 0) (hex_digit (n % 10) ∷ a) (digits_onto k 10 false (n / 10) (hex_digit (n % 10) ∷ a)) (λ text. is_one_line text ≡ true)
    (λ last. next)
    (λ more. digits_before k (n / 10) (hex_digit (n % 10) ∷ a) next)

-- a number
pub decimal_one_line : (n : ℕ) → is_one_line (decimal n) ≡ true
unfolding digits
decimal_one_line n = digits_before 64 n [] refl

-- the number of a transaction
pub trans_one_line : (n : ℕ) → is_one_line (trans_text n) ≡ true
trans_one_line n = onto 116 (decimal n) (omega arith) (decimal_one_line n)

-- the number of a checkpoint
pub ckpt_one_line : (n : ℕ) → is_one_line (ckpt_text n) ≡ true
ckpt_one_line n = onto 99 (decimal n) (omega arith) (decimal_one_line n)

-- ---- data
-- a byte before a text of one line
pub hex_before : (b : ℕ) (a : List ℕ) → is_one_line a ≡ true → is_one_line (hex b ++ a) ≡ true
hex_before b a one = digit_onto (b / 16) (hex_digit (b % 16) ∷ a) (digit_onto (b % 16) a one)

-- a byte repeated
pub repeated_one_line : (b n : ℕ) → is_one_line (flat_map hex (replicate n b)) ≡ true
repeated_one_line b zero = refl
repeated_one_line b (suc n) = hex_before b (flat_map hex (replicate n b)) (repeated_one_line b n)

-- a run
pub run_one_line : (r : Run) → is_one_line (run_text r) ≡ true
run_one_line r =
    cond_both (is_short r) (flat_map hex (replicate r.count r.byte)) (hex r.byte ++ 42 ∷ decimal r.count) (λ text. is_one_line text ≡ true)
    (λ short. repeated_one_line r.byte r.count)
    (λ counted. hex_before r.byte (42 ∷ decimal r.count) (onto 42 (decimal r.count) (omega arith) (decimal_one_line r.count)))

-- a dot, or nothing
pub dot_one_line : (p q : Bool) → is_one_line (cond (p && q) [] (46 ∷ [])) ≡ true
dot_one_line true true = refl
dot_one_line true false = refl
dot_one_line false true = refl
dot_one_line false false = refl

-- the runs that come after a run
pub after_one_line : (rs : List Run) (r : Run) → is_one_line (after_run r rs) ≡ true
after_one_line [] r = refl
after_one_line (s ∷ rs) r = joined (between r s ++ run_text s) (after_run s rs) (joined (between r s) (run_text s) (dot_one_line (is_short r) (is_short s)) (run_one_line s)) (after_one_line rs s)

-- some runs
pub runs_one_line : (rs : List Run) → is_one_line (runs_text rs) ≡ true
runs_one_line [] = refl
runs_one_line (r ∷ rs) = joined (run_text r) (after_run r rs) (run_one_line r) (after_one_line rs r)

-- data
pub spelling_one_line : (bytes : List ℕ) → is_one_line (spelling bytes) ≡ true
spelling_one_line bytes = runs_one_line (runs bytes)

-- ---- replies
-- blocks, each with a space in front
pub blocks_one_line : (blocks : List ℕ) → is_one_line (flat_map (λ b. 32 ∷ decimal b) blocks) ≡ true
blocks_one_line [] = refl
blocks_one_line (b ∷ blocks) = joined (32 ∷ decimal b) (flat_map (λ c. 32 ∷ decimal c) blocks) (onto 32 (decimal b) (omega arith) (decimal_one_line b)) (blocks_one_line blocks)

-- blocks that stay held
pub held_one_line : (blocks : List ℕ) → is_one_line (held_text blocks) ≡ true
held_one_line blocks = joined (codes " held") (flat_map (λ b. 32 ∷ decimal b) blocks) refl (blocks_one_line blocks)

-- what the board shows of a life
pub seen_one_line : (reason : Option Reason) → is_one_line (seen_text reason) ≡ true
seen_one_line None = refl
seen_one_line (Some MetaIoError) = refl
seen_one_line (Some LogIoError) = refl
seen_one_line (Some ForceUmount) = refl
seen_one_line (Some CorruptIncore) = refl

-- the name of a refusal
pub name_one_line : (errno : Errno) → is_one_line (name_of errno) ≡ true
name_one_line Io = refl
name_one_line Again = refl
name_one_line NoMemory = refl
name_one_line Busy = refl
name_one_line NoDevice = refl
name_one_line Invalid = refl
name_one_line NoSpace = refl
name_one_line NoBufs = refl
name_one_line Stale = refl

-- three numbers
numbers_one_line : (a b c : ℕ) → is_one_line (decimal a ␣ decimal b ␣ decimal c) ≡ true
numbers_one_line a b c = spaced (decimal a) (decimal b ␣ decimal c) (decimal_one_line a) (spaced (decimal b) (decimal c) (decimal_one_line b) (decimal_one_line c))

-- what a mount tells of its lists
lists_one_line : (stat : Stat) → is_one_line (lists_text stat) ≡ true
lists_one_line stat =
    let active = spaced (decimal stat.active) (ckpt_text stat.least) (decimal_one_line stat.active) (ckpt_one_line stat.least) in
    let flight = spaced (ckpt_text stat.flight) (decimal stat.active ␣ ckpt_text stat.least) (ckpt_one_line stat.flight) active in
    let cost = spaced (decimal stat.cost) (ckpt_text stat.flight ␣ decimal stat.active ␣ ckpt_text stat.least) (decimal_one_line stat.cost) flight in
    spaced (decimal stat.committed) (decimal stat.cost ␣ ckpt_text stat.flight ␣ decimal stat.active ␣ ckpt_text stat.least) (decimal_one_line stat.committed) cost

-- whether it is frozen
frozen_one_line : (frozen : Bool) → is_one_line (frozen_text frozen) ≡ true
frozen_one_line false = refl
frozen_one_line true = refl

-- and of its jobs
jobs_one_line : (stat : Stat) → is_one_line (jobs_text stat) ≡ true
jobs_one_line stat =
    let jobs = spaced (decimal stat.owed) (decimal stat.outstanding) (decimal_one_line stat.owed) (decimal_one_line stat.outstanding) in
    spaced (frozen_text stat.frozen) (decimal stat.owed ␣ decimal stat.outstanding) (frozen_one_line stat.frozen) jobs

-- all of it
stat_one_line : (stat : Stat) → is_one_line (stat_text stat) ≡ true
stat_one_line stat =
    let space = spaced (space_text stat) (jobs_text stat) (numbers_one_line stat.granted stat.used stat.free) (jobs_one_line stat) in
    let lists = spaced (lists_text stat) (space_text stat ␣ jobs_text stat) (lists_one_line stat) space in
    let blocks = spaced (blocks_text stat) (lists_text stat ␣ space_text stat ␣ jobs_text stat) (numbers_one_line stat.transactions stat.busy stat.idle) lists in
    spaced (codes "stat") (blocks_text stat ␣ lists_text stat ␣ space_text stat ␣ jobs_text stat) refl blocks

-- a reply
pub reply_one_line : (reply : Reply) → is_one_line (reply_text reply) ≡ true
reply_one_line Reply.Okay = refl
reply_one_line (Reply.OkayHeld held) = joined (codes "ok") (held_text held) refl (held_one_line held)
reply_one_line (Reply.Life life) = spaced (codes "life") (decimal life) refl (decimal_one_line life)
reply_one_line (Reply.Trans trans) = trans_one_line trans
reply_one_line (Reply.Committed number) = ckpt_one_line number
reply_one_line (Reply.CommittedHeld number held) = joined (ckpt_text number) (held_text held) (ckpt_one_line number) (held_one_line held)
reply_one_line (Reply.Aborted held) = joined (codes "EIO") (held_text held) refl (held_one_line held)
reply_one_line (Reply.Wait number) = spaced (codes "wait") (ckpt_text number) refl (ckpt_one_line number)
reply_one_line Reply.Done = refl
reply_one_line Reply.Kept = refl
reply_one_line Reply.Free = refl
reply_one_line (Reply.Data content) = spaced (codes "data") (spelling content) refl (spelling_one_line content)
reply_one_line Reply.Nothing = refl
reply_one_line (Reply.Begun number pieces) = spaced (codes "begun") (ckpt_text number ␣ decimal pieces) refl (spaced (ckpt_text number) (decimal pieces) (ckpt_one_line number) (decimal_one_line pieces))
reply_one_line (Reply.Landed number) = spaced (codes "landed") (ckpt_text number) refl (ckpt_one_line number)
reply_one_line (Reply.Failed number) = spaced (codes "failed") (ckpt_text number) refl (ckpt_one_line number)
reply_one_line (Reply.Flushed count) = spaced (codes "flushed") (decimal count) refl (decimal_one_line count)
reply_one_line (Reply.Seen life reason) = spaced (codes "seen") (decimal life ␣ seen_text reason) refl (spaced (decimal life) (seen_text reason) (decimal_one_line life) (seen_one_line reason))
reply_one_line (Reply.Stat stat) = stat_one_line stat
reply_one_line (Reply.Refused errno) = name_one_line errno

-- a reply with its slot in front
pub slot_reply_one_line : (slot : ℕ) (reply : Reply) → is_one_line (slot_reply_text slot reply) ≡ true
slot_reply_one_line slot reply = spaced (decimal slot) (reply_text reply) (decimal_one_line slot) (reply_one_line reply)

-- ---- offers
-- an answer of a device
pub ok_one_line : (ok : Bool) → is_one_line (ok_text ok) ≡ true
ok_one_line true = refl
ok_one_line false = refl

-- what was offered to a log device
pub log_offer_one_line : (slot : ℕ) (offer : LogOffer) → is_one_line (log_offer_text slot offer) ≡ true
log_offer_one_line slot (LogOffer.Piece bytes ok) =
    let end = spaced (spelling bytes) (ok_text ok) (spelling_one_line bytes) (ok_one_line ok) in
    spaced (decimal slot) (codes "log" ␣ spelling bytes ␣ ok_text ok) (decimal_one_line slot) (spaced (codes "log") (spelling bytes ␣ ok_text ok) refl end)
log_offer_one_line slot (LogOffer.Sync ok) = spaced (decimal slot) (codes "logsync" ␣ ok_text ok) (decimal_one_line slot) (spaced (codes "logsync") (ok_text ok) refl (ok_one_line ok))

-- what was offered to a home device
pub home_offer_one_line : (slot : ℕ) (offer : HomeOffer) → is_one_line (home_offer_text slot offer) ≡ true
home_offer_one_line slot (HomeOffer.Write block content ok) =
    let written = spaced (spelling content) (ok_text ok) (spelling_one_line content) (ok_one_line ok) in
    let end = spaced (decimal block) (spelling content ␣ ok_text ok) (decimal_one_line block) written in
    spaced (decimal slot) (codes "home" ␣ decimal block ␣ spelling content ␣ ok_text ok) (decimal_one_line slot) (spaced (codes "home") (decimal block ␣ spelling content ␣ ok_text ok) refl end)
home_offer_one_line slot (HomeOffer.Sync ok) = spaced (decimal slot) (codes "homesync" ␣ ok_text ok) (decimal_one_line slot) (spaced (codes "homesync") (ok_text ok) refl (ok_one_line ok))
