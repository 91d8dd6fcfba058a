-- The line of a step, read, gives the step back.
use Rattle.std.proofs.Common.{List, None, Option, Some, [], ap, append-nil, append_assoc, arith, codes, eqb, false, length, refl, subst, sym, ℕ, ◌++◌, ◌+◌, ◌<◌, ◌%◌, ◌^◌, ◌∙◌, ◌≡◌, ◌≤◌, ◌∷◌}
use Rattle.std.specs.Fmt.{decimal}
use Rattle.std.specs.Prelude.{IfSome}
use Rattle.std.specs.Str.{bytes_eq}
use Rattle.std.proofs.lemmas.Bool.{false_from_ne_true, ne_eqb}
use Rattle.std.proofs.lemmas.Option.{none-some}
use Rattle.std.proofs.lemmas.Slice.Eq.{bytes_eq-Decides}
use Rattle.std.proofs.lemmas.Fmt.{decimal_by_steps}
use Rattle.xt_base.specs.declared.steps.Answer.{Answer}
use Rattle.xt_base.specs.declared.steps.Request.{Request}
use Rattle.xt_base.specs.declared.steps.Request.TheVariants.{Alloc, Cancel, Commit, Force, ForceTo, Freeze, Get, Hold, Inval, Join, Log, Push, Read, Release, Relse, Roll, Shutdown, Stat, Thaw, Unhold, Unmount, View}
use Rattle.xt_base.specs.declared.steps.Step.{Step}
use Rattle.xt_base.specs.declared.steps.Step.TheVariants.{Begin, Call, End, Flush, Mount, Peek, Post, Show, Take}
use Rattle.xt_text.proofs.HomeAgain.{home_again}
use Rattle.xt_text.proofs.DataStrict.{spelled_again}
use Rattle.xt_text.proofs.ReadAgain.{data_again}
use Rattle.xt_text.proofs.WordsAgain.{before_joined, before_whole, behind_joined, behind_whole, below_again, decimal_lacks, lacks_joined, lettered_again, name_again, name_lacks, number_again, perm_again, sync_again, trans_again, u32_again}
use Rattle.xt_text.specs.DataReading.{read_content, read_data}
use Rattle.xt_text.specs.DataText.{IsData, spelling}
use Rattle.xt_text.specs.LineReading.{alloc_of, answer_of, asked_of, before, begin_of, behind, call_of, drop_of, end_of, flush_of, log_of, mount_of, mount_request, own_of, own_request, peek_of, post_of, read_of, request_of, show_of, size_of, step_of, take_of, trans_request, u32_of, words_step}
use Rattle.xt_text.specs.Lines.{IsAnswer, IsAnswerTo, IsContent, IsRequest, IsStep, answer_text, home_text, line_of, name_text, perm_text, request_text, size_text, sync_text, trans_text, ◌·◌, ◌␣◌}

-- what stands before the space behind a number
pub before_number : (n : ℕ) (b : List ℕ) → n < 2 ^ 64 → before 32 (decimal n ␣ b) ≡ decimal n
before_number n b small = before_joined 32 (decimal n) b (decimal_lacks 32 n (omega arith) small)

-- what stands behind a number and a space
pub behind_number : (n : ℕ) (b : List ℕ) → n < 2 ^ 64 → behind 32 (decimal n ␣ b) ≡ b
behind_number n b small = behind_joined 32 (decimal n) b (decimal_lacks 32 n (omega arith) small)

-- what stands before the space behind the number of a transaction
pub before_trans : (n : ℕ) (b : List ℕ) → n < 2 ^ 64 → before 32 (trans_text n ␣ b) ≡ trans_text n
before_trans n b small = before_joined 32 (trans_text n) b (refl, decimal_lacks 32 n (omega arith) small)

-- what stands behind the number of a transaction and a space
pub behind_trans : (n : ℕ) (b : List ℕ) → n < 2 ^ 64 → behind 32 (trans_text n ␣ b) ≡ b
behind_trans n b small = behind_joined 32 (trans_text n) b (refl, decimal_lacks 32 n (omega arith) small)

-- ---- requests
-- a transaction and a block give themselves
pub own_again : (trans block : ℕ) → trans < 2 ^ 64 → block < 2 ^ 64 → own_of (trans_text trans ␣ decimal block) ≡ Some (trans, block)
unfolding own_of
own_again trans block is_trans is_block = rw (before_trans trans (decimal block) is_trans, behind_trans trans (decimal block) is_trans, trans_again trans is_trans, number_again block is_block) refl

-- the request that may have an answer
abbrev pub IsRead : Request → Type 0
IsRead (Read trans block) = Unit {0}
IsRead other = ⊥

-- a request other than a read gives itself
pub request_again : (r : Request) → IsRequest r → (IsRead r → ⊥) → request_of (before 32 (request_text r)) (behind 32 (request_text r)) ≡ Some r
unfolding request_of alloc_of log_of drop_of own_request trans_request mount_request
request_again (Alloc unit count perm) is other =
    rw (
      before_number unit (decimal count ␣ perm_text perm) (omega arith),
      behind_number unit (decimal count ␣ perm_text perm) (omega arith),
      before_number count (perm_text perm) (omega arith),
      behind_number count (perm_text perm) (omega arith),
      u32_again unit is.0,
      u32_again count is.1,
      perm_again perm,
    )
    refl
request_again (Get trans block) is other = rw (own_again trans block is.0 is.1) refl
request_again (Read trans block) is other = absurd (other tt)
request_again (View trans block) is other = rw (own_again trans block is.0 is.1) refl
request_again (Log first trans block bytes) is other =
    rw (
      before_trans trans (decimal block ␣ decimal first ␣ spelling bytes) is.0,
      behind_trans trans (decimal block ␣ decimal first ␣ spelling bytes) is.0,
      before_number block (decimal first ␣ spelling bytes) is.1,
      behind_number block (decimal first ␣ spelling bytes) is.1,
      before_number first (spelling bytes) (omega arith),
      behind_number first (spelling bytes) (omega arith),
      trans_again trans is.0,
      number_again block is.1,
      u32_again first is.2,
      spelled_again bytes is.3,
    )
    refl
request_again (Hold trans block) is other = rw (own_again trans block is.0 is.1) refl
request_again (Unhold trans block) is other = rw (own_again trans block is.0 is.1) refl
request_again (Relse trans block) is other = rw (own_again trans block is.0 is.1) refl
request_again (Join trans block) is other = rw (own_again trans block is.0 is.1) refl
request_again (Release block) is other = rw (number_again block is) refl
request_again (Inval trans block) is other = rw (own_again trans block is.0 is.1) refl
request_again (Commit trans) is other = rw (trans_again trans is) refl
request_again (Roll trans) is other = rw (trans_again trans is) refl
request_again (Cancel trans) is other = rw (trans_again trans is) refl
request_again Force is other = refl
request_again (ForceTo number) is other = rw (lettered_again 99 number is) refl
request_again Push is other = refl
request_again Shutdown is other = refl
request_again Freeze is other = refl
request_again Thaw is other = refl
request_again Stat is other = refl
request_again Unmount is other = refl

-- ---- answers of a read
-- the content of a block gives itself
pub content_again : (bytes : List ℕ) → IsContent bytes → read_content (spelling bytes) ≡ Some bytes
content_again bytes is = rw (data_again bytes is.0, is.1) refl

-- and is no failure: its text gives it, and fail gives nothing
pub content_no_fail : (bytes : List ℕ) → IsData bytes → bytes_eq (spelling bytes) (codes "fail") ≡ false
content_no_fail bytes is = false_from_ne_true (bytes_eq (spelling bytes) (codes "fail")) (λ same. none-some bytes (ap read_data (sym ((bytes_eq-Decides (spelling bytes) (codes "fail")).0 same)) ∙ data_again bytes is))

-- a block and the answer behind it give the block, and the answer
pub answer_again : (block : ℕ) (a : Answer) → block < 2 ^ 64 → IsAnswer a →
    (before 32 (decimal block ++ answer_text a) ≡ decimal block) × (answer_of (behind 32 (decimal block ++ answer_text a)) ≡ Some a)
unfolding answer_of
answer_again block Answer.None small is =
    let lacks = decimal_lacks 32 block (omega arith) small in
    rw (append-nil (decimal block), behind_whole 32 (decimal block) lacks) (before_whole 32 (decimal block) lacks, refl)
answer_again block (Answer.Content bytes) small is =
    let tail = codes "= " ++ spelling bytes in
    rw (behind_number block tail small, ne_eqb (length tail) 0 (λ e. omega arith), content_no_fail bytes is.0, content_again bytes is) (before_number block tail small, refl)
answer_again block Answer.Failed small is = rw (behind_number block (codes "= fail") small) (before_number block (codes "= fail") small, refl)

-- a read gives itself
pub read_again : (slot life trans block : ℕ) (a : Answer) → trans < 2 ^ 64 → block < 2 ^ 64 → IsAnswer a →
    read_of slot life (trans_text trans ␣ (decimal block ++ answer_text a)) ≡ Some (Call slot life (Read trans block) a)
unfolding read_of
read_again slot life trans block a is_trans is_block is =
    let tail = decimal block ++ answer_text a in
    let both = answer_again block a is_block is in
    rw (before_trans trans tail is_trans, behind_trans trans tail is_trans, both.0, both.1, trans_again trans is_trans, number_again block is_block) refl

-- the verb and the words of a call give it
pub asked_again : (slot life : ℕ) (r : Request) (a : Answer) → IsRequest r → IsAnswerTo r a →
    let text = request_text r ++ answer_text a in
    asked_of slot life (before 32 text) (behind 32 text) ≡ Some (Call slot life r a)
unfolding asked_of
asked_again slot life (Read trans block) a is fits =
    rw (append_assoc (decimal trans) (32 ∷ decimal block) (answer_text a)) (read_again slot life trans block a is.0 is.1 fits)
asked_again slot life r Answer.None is fits =
    subst (λ text. asked_of slot life (before 32 text) (behind 32 text) ≡ Some (Call slot life r Answer.None)) (sym (append-nil (request_text r)))
    (rw (request_again r is (λ e. e)) refl)
asked_again slot life r other is fits = absurd fits

-- ---- the size of a block
-- a text that is something has a length
not_empty : (text : List ℕ) → (text ≡ [] → ⊥) → eqb (length text) 0 ≡ false
not_empty [] some = absurd (some refl)
not_empty (c ∷ cs) some = ne_eqb (length (c ∷ cs)) 0 (λ e. omega arith)

-- blocks and the size behind them give the blocks, and the size
pub size_again : (blocks : ℕ) (size : Option ℕ) → blocks < 2 ^ 64 → IfSome size (λ bytes. bytes < 2 ^ 32) →
    (before 32 (decimal blocks ++ size_text size) ≡ decimal blocks) × (size_of (behind 32 (decimal blocks ++ size_text size)) ≡ Some size)
unfolding size_of
size_again blocks None small is =
    let lacks = decimal_lacks 32 blocks (omega arith) small in
    rw (append-nil (decimal blocks), behind_whole 32 (decimal blocks) lacks) (before_whole 32 (decimal blocks) lacks, refl)
size_again blocks (Some bytes) small is =
    let again = u32_again bytes is in
    let some : decimal bytes ≡ [] → ⊥ = λ empty. none-some bytes (ap u32_of (sym empty) ∙ again) in
    rw (behind_number blocks (decimal bytes) small, not_empty (decimal bytes) some, again) (before_number blocks (decimal bytes) small, refl)

-- ---- steps
-- a word that begins with a digit is none that begins with a letter
pub no_verb : (n c : ℕ) (more cs : List ℕ) → 58 ≤ c → n < 2 ^ 64 → bytes_eq (decimal n ++ more) (c ∷ cs) ≡ false
no_verb n c more cs letter small =
    decimal_by_steps (λ m ds. (rest : List ℕ) → bytes_eq (ds ++ rest) (c ∷ cs) ≡ false)
    (λ m one rest. rw (ne_eqb (48 + m) c (λ e. omega arith)) refl)
    (λ m ds big other rest. ap (λ text. bytes_eq text (c ∷ cs)) (append_assoc ds ((48 + m % 10) ∷ []) rest) ∙ other ((48 + m % 10) ∷ rest))
    n small more

-- the words of a call give it
pub call_again : (slot life : ℕ) (r : Request) (a : Answer) → slot < 16 → life < 2 ^ 32 → IsRequest r → IsAnswerTo r a →
    call_of (decimal slot · decimal life) (request_text r ++ answer_text a) ≡ Some (Call slot life r a)
unfolding call_of
call_again slot life r a low small is fits =
    let lacks = decimal_lacks 46 slot (omega arith) (omega arith) in
    rw (
      before_joined 46 (decimal slot) (decimal life) lacks,
      behind_joined 46 (decimal slot) (decimal life) lacks,
      below_again 16 slot low (omega arith),
      u32_again life small,
    )
    (asked_again slot life r a is fits)

-- the line of a call gives it
pub call_line_again : (slot life : ℕ) (r : Request) (a : Answer) → slot < 16 → life < 2 ^ 32 → IsRequest r → IsAnswerTo r a →
    step_of ((decimal slot · decimal life) ␣ (request_text r ++ answer_text a)) ≡ Some (Call slot life r a)
unfolding step_of words_step
call_line_again slot life r a low small is fits =
    let word = decimal slot · decimal life in
    let asked = request_text r ++ answer_text a in
    let lacks = lacks_joined 32 (decimal slot) (46 ∷ decimal life) (decimal_lacks 32 slot (omega arith) (omega arith)) (refl, decimal_lacks 32 life (omega arith) (omega arith)) in
    rw (
      before_joined 32 word asked lacks,
      behind_joined 32 word asked lacks,
      no_verb slot 109 (46 ∷ decimal life) (codes "ount") (omega arith) (omega arith),
      no_verb slot 112 (46 ∷ decimal life) (codes "ost") (omega arith) (omega arith),
      no_verb slot 116 (46 ∷ decimal life) (codes "ake") (omega arith) (omega arith),
      no_verb slot 98 (46 ∷ decimal life) (codes "egin") (omega arith) (omega arith),
      no_verb slot 101 (46 ∷ decimal life) (codes "nd") (omega arith) (omega arith),
      no_verb slot 102 (46 ∷ decimal life) (codes "lush") (omega arith) (omega arith),
      no_verb slot 115 (46 ∷ decimal life) (codes "how") (omega arith) (omega arith),
      no_verb slot 112 (46 ∷ decimal life) (codes "eek") (omega arith) (omega arith),
    )
    (call_again slot life r a low small is fits)

-- the line of a step gives the step
pub step_again : (s : Step) → IsStep s → step_of (line_of s) ≡ Some s
unfolding step_of words_step mount_of post_of take_of begin_of end_of flush_of show_of peek_of
step_again (Mount slot log_bytes blocks size) is =
    let last = decimal blocks ++ size_text size in
    let both = size_again blocks size is.2 is.3 in
    rw (
      before_number slot (decimal log_bytes ␣ last) (omega arith),
      behind_number slot (decimal log_bytes ␣ last) (omega arith),
      before_number log_bytes last (omega arith),
      behind_number log_bytes last (omega arith),
      both.0,
      both.1,
      below_again 16 slot is.0 (omega arith),
      u32_again log_bytes is.1,
      number_again blocks is.2,
    )
    refl
step_again (Call slot life r a) is = call_line_again slot life r a is.0 is.1 is.2 is.3
step_again (Post name) is = rw (name_again name is) refl
step_again (Take worker name) is =
    rw (before_number worker (name_text name) (omega arith), behind_number worker (name_text name) (omega arith), below_again 8 worker is.0 (omega arith), name_again name is.1) refl
step_again (Begin worker name) is =
    rw (before_number worker (name_text name) (omega arith), behind_number worker (name_text name) (omega arith), below_again 8 worker is.0 (omega arith), name_again name is.1) refl
step_again (End worker name answers) is =
    let tail = decimal answers.taken ␣ sync_text answers.sync in
    rw (
      before_number worker (name_text name ␣ tail) (omega arith),
      behind_number worker (name_text name ␣ tail) (omega arith),
      before_joined 32 (name_text name) tail (name_lacks name is.1),
      behind_joined 32 (name_text name) tail (name_lacks name is.1),
      before_number answers.taken (sync_text answers.sync) (omega arith),
      behind_number answers.taken (sync_text answers.sync) (omega arith),
      below_again 8 worker is.0 (omega arith),
      name_again name is.1,
      u32_again answers.taken is.2,
      sync_again answers.sync,
    )
    refl
step_again (Flush worker name answers) is =
    let tail = name_text name ++ home_text answers in
    let both = home_again name answers is.1 is.2 in
    rw (
      before_number worker tail (omega arith),
      behind_number worker tail (omega arith),
      both.0,
      both.1,
      below_again 8 worker is.0 (omega arith),
      name_again name is.1,
    )
    refl
step_again (Show slot) is = rw (below_again 16 slot is (omega arith)) refl
step_again (Peek slot) is = rw (below_again 16 slot is (omega arith)) refl
