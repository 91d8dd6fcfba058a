-- How long texts are at most.
use Rattle.std.proofs.Common.{Bool, List, None, Option, Some, [], append_assoc, arith, cond, eqb, false, inl, inr, flat_map, length, length-append, ltb, replicate, refl, suc, true, zero, ℕ, ◌&&◌, ◌%◌, ◌*◌, ◌++◌, ◌+◌, ◌/◌, ◌<◌, ◌^◌, ◌≡◌, ◌≤◌, ◌∷◌}
use Rattle.std.specs.Fmt.{decimal}
use Rattle.std.specs.Prelude.{IfSome}
use Rattle.std.specs.List.{AllByRecursion}
use Rattle.std.proofs.lemmas.Bool.{cases_lt, cond_both, ltb-false}
use Rattle.std.proofs.lemmas.Fmt.{decimal_digit, decimal_step, length-decimal-le}
use Rattle.std.proofs.lemmas.List.{length-take-le}
use Rattle.xt_base.specs.declared.names.JobKind.{JobKind}
use Rattle.xt_base.specs.declared.names.JobKind.TheVariants.{Ckpt}
use Rattle.xt_base.specs.declared.names.JobName.{JobName}
use Rattle.xt_base.specs.Jobs.{write_answers}
use Rattle.xt_base.specs.declared.steps.Answer.{Answer}
use Rattle.xt_base.specs.declared.steps.HomeAnswers.{HomeAnswers}
use Rattle.xt_base.specs.declared.steps.Request.{Request}
use Rattle.xt_base.specs.declared.steps.Request.TheVariants.{Alloc, Cancel, Commit, Force, ForceTo, Freeze, Get, Hold, Inval, Join, Log, Push, Read, Release, Relse, Roll, Shutdown, Stat, Thaw, Unhold, Unmount, View}
use Rattle.xt_base.specs.declared.steps.Step.{Step}
use Rattle.xt_base.specs.declared.steps.Step.TheVariants.{Begin, Call, End, Flush, Mount, Peek, Post, Show, Take}
use Rattle.xt_text.specs.DataText.{after_run, between, hex, is_short, onto_runs, run_text, runs, runs_text, spelling}
use Rattle.xt_text.specs.Lines.{IsAnswer, IsAnswerTo, IsHomeAnswers, IsName, IsRequest, IsStep, answer_text, home_text, kind_text, line_of, name_text, ok_text, oks_text, perm_text, request_text, size_text, sync_text, trans_text, ◌·◌, ◌␣◌}
use Rattle.xt_text.specs.declared.data_text.Run.{Run}

-- ---- numbers
-- a number has at most 20 digits
pub decimal_fits : (n : ℕ) → n < 2 ^ 64 → length (decimal n) ≤ 20
decimal_fits n small = length-decimal-le 20 n (omega arith) (omega arith) small

-- one of two digits
pub two_digits : (n : ℕ) → 10 ≤ n → n < 100 → decimal n ≡ (48 + n / 10) ∷ (48 + n % 10) ∷ []
two_digits n least small = rw (decimal_step n least (omega arith), decimal_digit (n / 10) (omega arith)) refl

-- one of more is its hundreds and two digits
pub hundreds : (n : ℕ) → 100 ≤ n → n < 2 ^ 64 → decimal n ≡ decimal (n / 100) ++ (48 + n % 100 / 10) ∷ (48 + n % 100 % 10) ∷ []
hundreds n least small =
    let tens : n / 10 / 10 ≡ n / 100 = omega arith in
    let ten : n / 10 % 10 ≡ n % 100 / 10 = omega arith in
    let one : n % 10 ≡ n % 100 % 10 = omega arith in
    rw (decimal_step n (omega arith) small, decimal_step (n / 10) (omega arith) (omega arith), tens, ten, one)
    (append_assoc (decimal (n / 100)) ((48 + n % 100 / 10) ∷ []) ((48 + n % 100 % 10) ∷ []))

-- ---- data
-- how many bytes some runs have
abbrev pub total : List Run → ℕ
total [] = 0
total (r ∷ rs) = r.count + total rs

-- no run has more than data has
abbrev pub AreRuns : List Run → Type 0
AreRuns rs = AllByRecursion (λ r. r.count ≤ 4096) rs

-- what a counted run leaves for a dot
abbrev pub dots : Bool → ℕ
dots true = 0
dots false = 1

-- a byte has two digits
pub hex_twice : (b n : ℕ) → length (flat_map hex (replicate n b)) ≡ 2 * n
hex_twice b zero = refl
hex_twice b (suc n) = omega (arith, hex_twice b n)

-- a count of four or more leaves two characters
pub counted_fits : (n : ℕ) → 4 ≤ n → n ≤ 4096 → length (decimal n) + 5 ≤ 2 * n
counted_fits n many few =
    elim (cases_lt n 10) [
      | inl low ↦ omega (arith, length-decimal-le 1 n (omega arith) low (omega arith))
      | inr high ↦ omega (arith, length-decimal-le 4 n (omega arith) (omega arith) (omega arith))
    ]

-- a run's text has at most two characters a byte, and two fewer where it is counted
pub text_fits : (p : Bool) (b n : ℕ) → ltb n 4 ≡ p → n ≤ 4096 → length (cond p (flat_map hex (replicate n b)) (hex b ++ 42 ∷ decimal n)) + 2 * dots p ≤ 2 * n
text_fits true b n short few = omega (arith, hex_twice b n)
text_fits false b n counted few = omega (arith, counted_fits n (ltb-false n 4 counted) few)

-- the same of a run
pub run_fits : (r : Run) → r.count ≤ 4096 → length (run_text r) + 2 * dots (is_short r) ≤ 2 * r.count
run_fits r few = text_fits (ltb r.count 4) r.byte r.count refl few

-- a dot stands only where a run beside it is counted
pub dot_fits : (p q : Bool) → length {A = ℕ} (cond (p && q) [] (46 ∷ [])) ≤ dots p + dots q
dot_fits true true = omega arith
dot_fits true false = omega arith
dot_fits false true = omega arith
dot_fits false false = omega arith

-- what stands between two runs is no longer than what they leave
pub between_fits : (r s : Run) → length (between r s) ≤ dots (is_short r) + dots (is_short s)
between_fits r s = dot_fits (is_short r) (is_short s)

-- the runs behind a run, with the dot before them
pub after_fits : (rs : List Run) (r : Run) → AreRuns rs → length (after_run r rs) ≤ 2 * total rs + dots (is_short r)
after_fits [] r are = omega arith
after_fits (s ∷ rs) r are =
    omega (arith, length-append (between r s ++ run_text s) (after_run s rs), length-append (between r s) (run_text s), between_fits r s, run_fits s are.0, after_fits rs s are.1)

-- one more byte makes one more
pub onto_runs_are : (x : ℕ) (rs : List Run) → total rs < 4096 → AreRuns rs → AreRuns (onto_runs x rs) × (total (onto_runs x rs) ≡ total rs + 1)
onto_runs_are x [] few are = ((omega arith, tt), omega arith)
onto_runs_are x (r ∷ rs) few are =
    cond_both (eqb r.byte x) (record { byte = x; count = r.count + 1 } ∷ rs) (record { byte = x; count = 1 } ∷ r ∷ rs) (λ ss. AreRuns ss × (total ss ≡ r.count + total rs + 1))
    (λ same. ((omega arith, are.1), omega arith))
    (λ other. ((omega arith, are), omega arith))

-- the runs of some bytes have as many
pub runs_are : (xs : List ℕ) → length xs ≤ 4096 → AreRuns (runs xs) × (total (runs xs) ≡ length xs)
runs_are [] few = (tt, refl)
runs_are (x ∷ xs) few =
    let rest = runs_are xs (omega arith) in
    let all = onto_runs_are x (runs xs) (omega (arith, rest.1)) rest.0 in
    (all.0, omega (arith, rest.1, all.1))

-- the text of runs
pub runs_text_fits : (rs : List Run) → AreRuns rs → total rs ≤ 4096 → length (runs_text rs) ≤ 8192
runs_text_fits [] are few = omega arith
runs_text_fits (r ∷ rs) are few = omega (arith, length-append (run_text r) (after_run r rs), run_fits r are.0, after_fits rs r are.1)

-- a spelling has at most 8,192 characters
pub spelling_fits : (bytes : List ℕ) → length bytes ≤ 4096 → length (spelling bytes) ≤ 8192
spelling_fits bytes few = let are = runs_are bytes few in runs_text_fits (runs bytes) are.0 (omega (arith, are.1))

-- ---- lines
-- the length of two words
pub joined : (a b : List ℕ) → length (a ␣ b) ≡ length a + length b + 1
joined a b = omega (arith, length-append a (32 ∷ b))

-- the length of two parts of a word
pub dotted : (a b : List ℕ) → length (a · b) ≡ length a + length b + 1
dotted a b = omega (arith, length-append a (46 ∷ b))

-- what a job does has at most five characters
pub kind_fits : (kind : JobKind) → length (kind_text kind) ≤ 5
kind_fits Ckpt = omega arith
kind_fits JobKind.Flush = omega arith

-- a name has at most 68
pub name_fits : (name : JobName) → IsName name → length (name_text name) ≤ 68
name_fits name is =
    let rest = kind_text name.kind · decimal name.serial in
    omega (
      arith,
      dotted (decimal name.slot) (decimal name.life · rest),
      dotted (decimal name.life) rest,
      dotted (kind_text name.kind) (decimal name.serial),
      decimal_fits name.slot (omega arith),
      decimal_fits name.life (omega arith),
      kind_fits name.kind,
      decimal_fits name.serial is.2,
    )

-- plain or perm has at most five
pub perm_fits : (perm : Bool) → length (perm_text perm) ≤ 5
perm_fits false = omega arith
perm_fits true = omega arith

-- the answer to a sync has at most four
pub sync_fits : (sync : Option Bool) → length (sync_text sync) ≤ 4
sync_fits None = omega arith
sync_fits (Some true) = omega arith
sync_fits (Some false) = omega arith

-- a transaction and a block have at most 42
pub own_fits : (trans block : ℕ) → trans < 2 ^ 64 → block < 2 ^ 64 → length (trans_text trans ␣ decimal block) ≤ 42
own_fits trans block is_trans is_block = omega (arith, joined (trans_text trans) (decimal block), decimal_fits trans is_trans, decimal_fits block is_block)

-- a request has at most 8,300
pub request_fits : (r : Request) → IsRequest r → length (request_text r) ≤ 8300
request_fits (Alloc unit count perm) is =
    omega (
      arith,
      joined (decimal unit) (decimal count ␣ perm_text perm),
      joined (decimal count) (perm_text perm),
      decimal_fits unit (omega arith),
      decimal_fits count (omega arith),
      perm_fits perm,
    )
request_fits (Get trans block) is = omega (arith, own_fits trans block is.0 is.1)
request_fits (Read trans block) is = omega (arith, own_fits trans block is.0 is.1)
request_fits (View trans block) is = omega (arith, own_fits trans block is.0 is.1)
request_fits (Log first trans block bytes) is =
    let c = decimal first ␣ spelling bytes in
    omega (
      arith,
      joined (trans_text trans) (decimal block ␣ c),
      joined (decimal block) c,
      joined (decimal first) (spelling bytes),
      decimal_fits trans is.0,
      decimal_fits block is.1,
      decimal_fits first (omega arith),
      spelling_fits bytes is.3.few,
    )
request_fits (Hold trans block) is = omega (arith, own_fits trans block is.0 is.1)
request_fits (Unhold trans block) is = omega (arith, own_fits trans block is.0 is.1)
request_fits (Relse trans block) is = omega (arith, own_fits trans block is.0 is.1)
request_fits (Join trans block) is = omega (arith, own_fits trans block is.0 is.1)
request_fits (Release block) is = omega (arith, decimal_fits block is)
request_fits (Inval trans block) is = omega (arith, own_fits trans block is.0 is.1)
request_fits (Commit trans) is = omega (arith, decimal_fits trans is)
request_fits (Roll trans) is = omega (arith, decimal_fits trans is)
request_fits (Cancel trans) is = omega (arith, decimal_fits trans is)
request_fits Force is = omega arith
request_fits (ForceTo number) is = omega (arith, decimal_fits number is)
request_fits Push is = omega arith
request_fits Shutdown is = omega arith
request_fits Freeze is = omega arith
request_fits Thaw is = omega arith
request_fits Stat is = omega arith
request_fits Unmount is = omega arith

-- an answer has at most 8,195
pub answer_fits : (a : Answer) → IsAnswer a → length (answer_text a) ≤ 8195
answer_fits Answer.None is = omega arith
answer_fits (Answer.Content bytes) is = omega (arith, spelling_fits bytes is.0.few)
answer_fits Answer.Failed is = omega arith

-- a request and its answer have at most 8,300
pub asked_fits : (r : Request) (a : Answer) → IsRequest r → IsAnswerTo r a → length (request_text r ++ answer_text a) ≤ 8300
asked_fits (Read trans block) a is fits = omega (arith, length-append (request_text (Read trans block)) (answer_text a), own_fits trans block is.0 is.1, answer_fits a fits)
asked_fits r Answer.None is fits = omega (arith, length-append (request_text r) [], request_fits r is)
asked_fits r other is fits = absurd fits

-- an answer of a device has at most four
pub ok_fits : (ok : Bool) → length (ok_text ok) ≤ 4
ok_fits true = omega arith
ok_fits false = omega arith

-- answers of a device have at most five each
pub oks_fit : (oks : List Bool) → length (oks_text oks) ≤ 5 * length oks
oks_fit [] = omega arith
oks_fit (ok ∷ oks) = omega (arith, length-append (32 ∷ ok_text ok) (oks_text oks), ok_fits ok, oks_fit oks)

-- the answers to a flush have at most 45
pub home_fits : (answers : HomeAnswers) → IsHomeAnswers answers → length (home_text answers) ≤ 45
home_fits answers is =
    cond_both (eqb answers.count 0) [] (oks_text (write_answers answers) ++ 32 ∷ ok_text answers.sync) (λ text. length text ≤ 45)
    (λ none. omega arith)
    (λ some. omega (
      arith,
      length-append (oks_text (write_answers answers)) (32 ∷ ok_text answers.sync),
      oks_fit (write_answers answers),
      length-take-le answers.count answers.writes (omega (arith, is.eight, is.few)),
      is.few,
      ok_fits answers.sync,
    ))

-- the size of a block, where one is said
size_fits : (size : Option ℕ) → IfSome size (λ bytes. bytes < 2 ^ 32) → length (size_text size) ≤ 21
size_fits None is = omega arith
size_fits (Some bytes) is = omega (arith, decimal_fits bytes (omega arith))

-- a line has at most 8,400 characters
pub line_fits : (s : Step) → IsStep s → length (line_of s) ≤ 8400
line_fits (Mount slot log_bytes blocks size) is =
    omega (
      arith,
      joined (decimal slot) (decimal log_bytes ␣ (decimal blocks ++ size_text size)),
      joined (decimal log_bytes) (decimal blocks ++ size_text size),
      length-append (decimal blocks) (size_text size),
      decimal_fits slot (omega arith),
      decimal_fits log_bytes (omega arith),
      decimal_fits blocks is.2,
      size_fits size is.3,
    )
line_fits (Call slot life r answer) is =
    omega (
      arith,
      joined (decimal slot · decimal life) (request_text r ++ answer_text answer),
      dotted (decimal slot) (decimal life),
      decimal_fits slot (omega arith),
      decimal_fits life (omega arith),
      asked_fits r answer is.2 is.3,
    )
line_fits (Post name) is = omega (arith, name_fits name is)
line_fits (Take worker name) is = omega (arith, joined (decimal worker) (name_text name), decimal_fits worker (omega arith), name_fits name is.1)
line_fits (Begin worker name) is = omega (arith, joined (decimal worker) (name_text name), decimal_fits worker (omega arith), name_fits name is.1)
line_fits (End worker name answers) is =
    let tail = decimal answers.taken ␣ sync_text answers.sync in
    omega (
      arith,
      joined (decimal worker) (name_text name ␣ tail),
      joined (name_text name) tail,
      joined (decimal answers.taken) (sync_text answers.sync),
      decimal_fits worker (omega arith),
      name_fits name is.1,
      decimal_fits answers.taken (omega arith),
      sync_fits answers.sync,
    )
line_fits (Flush worker name answers) is =
    omega (
      arith,
      joined (decimal worker) (name_text name ++ home_text answers),
      length-append (name_text name) (home_text answers),
      decimal_fits worker (omega arith),
      name_fits name is.1,
      home_fits answers is.2,
    )
line_fits (Show slot) is = omega (arith, decimal_fits slot (omega arith))
line_fits (Peek slot) is = omega (arith, decimal_fits slot (omega arith))
