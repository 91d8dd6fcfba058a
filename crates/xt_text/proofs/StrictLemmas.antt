-- Steps that no other line than their own gives.
use Rattle.std.proofs.Common.{Bool, List, None, Option, Some, [], ap, append-nil, append_assoc, arith, codes, cond, eqb, false, leb, ltb, one-add, refl, subst, suc, sym, true, zero, ℕ, ◌&&◌, ◌*◌, ◌++◌, ◌+◌, ◌-◌, ◌/◌, ◌<◌, ◌%◌, ◌≤◌, ◌∙◌, ◌≡◌, ◌∷◌, bytes_eq}
use Rattle.std.specs.Fmt.{decimal}
use Rattle.std.specs.List.{position_or_len}
use Rattle.std.proofs.lemmas.Bool.{and_parts, eq-eqb, eqb-true, false≢true, leb-true, ltb-true, not_from_true}
use Rattle.std.proofs.lemmas.Fmt.{decimal_digit, decimal_step}
use Rattle.std.proofs.lemmas.Option.{cond_some, none-some, same_Some}
use Rattle.std.proofs.lemmas.Slice.Eq.{bytes_eq-Decides}
use Rattle.xt_base.specs.declared.names.JobKind.{JobKind}
use Rattle.xt_base.specs.declared.names.JobKind.TheVariants.{Ckpt}
use Rattle.xt_base.specs.declared.names.JobName.{JobName}
use Rattle.xt_base.specs.declared.steps.Answer.{Answer}
use Rattle.xt_base.specs.declared.steps.Request.{Request}
use Rattle.xt_base.specs.declared.steps.Request.TheVariants.{Alloc, Cancel, Commit, Force, ForceTo, Freeze, Get, Hold, Inval, Join, Log, Push, Read, Release, Relse, Roll, Shutdown, Stat, Thaw, Unhold, Unmount, View}
use Rattle.xt_base.specs.declared.steps.Step.{Step}
use Rattle.xt_base.specs.declared.steps.Step.TheVariants.{Begin, Call, End, Flush, Mount, Peek, Post, Show, Take}
use Rattle.xt_text.specs.DataReading.{read_data, spelled_data}
use Rattle.xt_text.specs.DataText.{spelling}
use Rattle.xt_text.specs.HomeReading.{home_of}
use Rattle.xt_text.specs.LineReading.{alloc_of, answer_of, asked_of, before, begin_of, behind, call_of, drop_of, end_of, flush_of, is_strict, is_strict_request, kind_of, lettered, log_of, mount_of, mount_request, name_of, own_of, own_request, peek_of, perm_of, post_of, read_of, request_of, show_of, size_of, step_of, sync_of, take_of, trans_request, u32_of, words_step}
use Rattle.xt_text.specs.Lines.{kind_text, line_of, name_text, perm_text, request_text, sync_text, trans_text, ◌·◌, ◌␣◌}
use Rattle.xt_text.specs.Reading.{below, is_plain, number_of, number_on, number_with, ◌>>=◌}

-- ---- values that are there
-- what a value that goes on to another one was
pub bound : {A B P : Type 0} (o : Option A) (f : A → Option B) (y : B) → (o >>= f) ≡ Some y → ((x : A) → o ≡ Some x → f x ≡ Some y → P) → P
bound None f y e k = absurd (none-some y e)
bound (Some x) f y e k = k x refl e

-- which of two values a test gave
pub either : {A P : Type 0} (b : Bool) (x y z : A) → cond b x y ≡ z → (b ≡ true → x ≡ z → P) → (b ≡ false → y ≡ z → P) → P
either true x y z e first second = first refl e
either false x y z e first second = second refl e

-- the same, where the second gives nothing
pub spelled : {A P : Type 0} (word text : List ℕ) (x y : Option A) (z : A) → cond (bytes_eq word text) x y ≡ Some z → (word ≡ text → x ≡ Some z → P) → (y ≡ Some z → P) → P
spelled word text x y z e first second = either (bytes_eq word text) x y (Some z) e (λ same. first ((bytes_eq-Decides word text).0 same)) (λ other. second)

-- a text that gives something is not empty, where an empty one gives nothing
pub some_text : {A : Type 0} (f : List ℕ → Option A) (text : List ℕ) (x : A) → f [] ≡ None → f text ≡ Some x → text ≡ [] → ⊥
some_text f text x none gives empty = none-some x (sym none ∙ ap f (sym empty) ∙ gives)

-- ---- cutting at a separator
-- a text is what stands before its first separator and what stands behind it, if anything does
pub rejoined : (c : ℕ) (text : List ℕ) → (behind c text ≡ [] → ⊥) → text ≡ before c text ++ c ∷ behind c text
rejoined c [] some = absurd (some refl)
rejoined c (x ∷ text) some = by (eqb x c) refl (rejoined c text)
  where
    place : ℕ
    place = position_or_len (λ y. eqb y c) text

    step : 1 + place + 1 ≡ suc (place + 1)
    step = omega arith

    by : (b : Bool) → eqb x c ≡ b → ((behind c text ≡ [] → ⊥) → text ≡ before c text ++ c ∷ behind c text) → x ∷ text ≡ before c (x ∷ text) ++ c ∷ behind c (x ∷ text)
    by true e rest = rw (e) (ap (λ y. y ∷ text) (eqb-true x c e))
    by false e rest =
        let same : behind c (x ∷ text) ≡ behind c text = rw (e, step) refl in
        rw (e, step, one-add) (ap (λ more. x ∷ more) (rest (λ none. some (same ∙ none))))

-- the same by what is read of the two
pub joined_as : (c : ℕ) (text a b : List ℕ) → before c text ≡ a → behind c text ≡ b → (behind c text ≡ [] → ⊥) → text ≡ a ++ c ∷ b
joined_as c text a b ea eb some = rejoined c text some ∙ ap (λ x. x ++ c ∷ behind c text) ea ∙ ap (λ y. a ++ c ∷ y) eb

-- ---- numbers
-- what one more digit makes of a number
pub one_more : (m c more : ℕ) → number_on m c ≡ Some more → (48 ≤ c) × (c ≤ 57) × (more < 18446744073709551616) × (more ≡ 10 * m + (c - 48))
one_more m c more e =
    let both = cond_some (leb 48 c && leb c 57 && ltb (10 * m + (c - 48)) 18446744073709551616) (10 * m + (c - 48)) more e in
    let parts = and_parts (leb 48 c && leb c 57) (ltb (10 * m + (c - 48)) 18446744073709551616) both.0 in
    let digit = and_parts (leb 48 c) (leb c 57) parts.0 in
    (leb-true 48 c digit.0, leb-true c 57 digit.1, subst (λ k. k < 18446744073709551616) both.1 (ltb-true _ _ parts.1), sym both.1)

-- the digits behind a number that is not 0 are the last ones of the number that they make
pub digits_behind : (cs : List ℕ) (m n : ℕ) → 0 < m → number_with m cs ≡ Some n → decimal m ++ cs ≡ decimal n
digits_behind [] m n some e = append-nil (decimal m) ∙ ap decimal (same_Some m n e)
digits_behind (c ∷ cs) m n some e = bound (number_on m c) (λ more. number_with more cs) n e (λ more. by more (digits_behind cs more n))
  where
    by : (more : ℕ) → (0 < more → number_with more cs ≡ Some n → decimal more ++ cs ≡ decimal n) → number_on m c ≡ Some more → number_with more cs ≡ Some n → decimal m ++ c ∷ cs ≡ decimal n
    by more behind_it on rest =
        let is = one_more m c more on in
        let low = is.0 in
        let high = is.1 in
        let fits = is.2 in
        let sum = is.3 in
        let tens : more / 10 ≡ m = omega (arith, low, high, sum) in
        let ones : 48 + more % 10 ≡ c = omega (arith, low, high, sum) in
        let last : decimal more ≡ decimal m ++ c ∷ [] = decimal_step more (omega (arith, sum, some)) (omega (arith, fits)) ∙ ap (λ k. decimal k ++ (48 + more % 10) ∷ []) tens ∙ ap (λ d. decimal m ++ d ∷ []) ones in
        sym (append_assoc (decimal m) (c ∷ []) cs) ∙ ap (λ text. text ++ cs) (sym last) ∙ behind_it (omega (arith, sum, some)) rest

-- a digit other than 0 is more than 0
not_none : (c more : ℕ) → c ≡ 48 + more → (c ≡ 48 → ⊥) → 0 < more
not_none c zero e other = absurd (other e)
not_none c (suc k) e other = omega arith

-- a word that gives a number is its digits
pub number_strict : (word : List ℕ) (n : ℕ) → number_of word ≡ Some n → word ≡ decimal n
number_strict [] n e = absurd (none-some n e)
number_strict (c ∷ []) n e = bound (number_on 0 c) (λ more. number_with more []) n e by
  where
    by : (more : ℕ) → number_on 0 c ≡ Some more → number_with more [] ≡ Some n → c ∷ [] ≡ decimal n
    by more on rest =
        let is = one_more 0 c more on in
        let digit : c ≡ 48 + more = omega (arith, is.0, is.1, is.3) in
        ap (λ d. d ∷ []) digit ∙ sym (decimal_digit more (omega (arith, is.0, is.1, is.3))) ∙ ap decimal (same_Some more n rest)
number_strict (c ∷ d ∷ cs) n e =
    either (is_plain (c ∷ d ∷ cs)) (number_with 0 (c ∷ d ∷ cs)) None (Some n) e
    (λ plain gives. bound (number_on 0 c) (λ more. number_with more (d ∷ cs)) n gives (by plain))
    (λ led none. absurd (none-some n none))
  where
    by : is_plain (c ∷ d ∷ cs) ≡ true → (more : ℕ) → number_on 0 c ≡ Some more → number_with more (d ∷ cs) ≡ Some n → c ∷ d ∷ cs ≡ decimal n
    by plain more on rest =
        let is = one_more 0 c more on in
        let not_zero : c ≡ 48 → ⊥ = λ zero. false≢true (sym (not_from_true (eqb c 48) (eq-eqb c 48 zero)) ∙ plain) in
        let digit : c ≡ 48 + more = omega (arith, is.0, is.1, is.3) in
        ap (λ x. x ∷ d ∷ cs) digit ∙ ap (λ ds. ds ++ d ∷ cs) (sym (decimal_digit more (omega (arith, is.0, is.1, is.3)))) ∙ digits_behind (d ∷ cs) more n (not_none c more digit not_zero) rest

-- a word that gives a number below a limit is its digits
pub below_strict : (limit : ℕ) (word : List ℕ) (n : ℕ) → below limit word ≡ Some n → word ≡ decimal n
below_strict limit word n e =
    bound (number_of word) (λ number. cond (ltb number limit) (Some number) None) n e
    (λ number gives low. number_strict word number gives ∙ ap decimal (cond_some (ltb number limit) number n low).1)

-- a word that gives a number behind a letter is that letter and its digits
pub lettered_strict : (letter : ℕ) (word : List ℕ) (n : ℕ) → lettered letter word ≡ Some n → word ≡ letter ∷ decimal n
lettered_strict letter [] n e = absurd (none-some n e)
lettered_strict letter (c ∷ cs) n e =
    either (eqb c letter) (number_of cs) None (Some n) e
    (λ same gives. ap (λ x. x ∷ cs) (eqb-true c letter same) ∙ ap (λ ds. letter ∷ ds) (number_strict cs n gives))
    (λ other none. absurd (none-some n none))

-- ---- words that stand for a choice
-- what a job does
pub kind_strict : (word : List ℕ) (kind : JobKind) → kind_of word ≡ Some kind → word ≡ kind_text kind
unfolding kind_of
kind_strict word kind e =
    spelled word (codes "ckpt") (Some Ckpt) _ kind e (λ same is. same ∙ ap kind_text (same_Some Ckpt kind is)) (λ more.
    spelled word (codes "flush") (Some JobKind.Flush) None kind more (λ same is. same ∙ ap kind_text (same_Some JobKind.Flush kind is)) (λ none. absurd (none-some kind none)))

-- plain or perm
pub perm_strict : (word : List ℕ) (perm : Bool) → perm_of word ≡ Some perm → word ≡ perm_text perm
unfolding perm_of
perm_strict word perm e =
    spelled word (codes "plain") (Some false) _ perm e (λ same is. same ∙ ap perm_text (same_Some false perm is)) (λ more.
    spelled word (codes "perm") (Some true) None perm more (λ same is. same ∙ ap perm_text (same_Some true perm is)) (λ none. absurd (none-some perm none)))

-- the answer to a sync
pub sync_strict : (word : List ℕ) (sync : Option Bool) → sync_of word ≡ Some sync → word ≡ sync_text sync
unfolding sync_of
sync_strict word sync e =
    spelled word (codes "ok") (Some (Some true)) _ sync e (λ same is. same ∙ ap sync_text (same_Some (Some true) sync is)) (λ more.
    spelled word (codes "fail") (Some (Some false)) _ sync more (λ same is. same ∙ ap sync_text (same_Some (Some false) sync is)) (λ rest.
    spelled word (codes "none") (Some None) None sync rest (λ same is. same ∙ ap sync_text (same_Some None sync is)) (λ none. absurd (none-some sync none))))

-- ---- names of jobs
-- the name of a job
pub name_strict : (word : List ℕ) (name : JobName) → name_of word ≡ Some name → word ≡ name_text name
unfolding name_of
name_strict word name e =
    let a = behind 46 word in
    let b = behind 46 a in
    bound (below 16 (before 46 word)) _ name e (λ slot is_slot after_slot.
    bound (u32_of (before 46 a)) _ name after_slot (λ life is_life after_life.
    bound (kind_of (before 46 b)) _ name after_life (λ kind is_kind after_kind.
    bound (number_of (behind 46 b)) _ name after_kind (λ serial is_serial same.
    let serial_text = some_text number_of (behind 46 b) serial refl is_serial in
    let kind_part : b ≡ kind_text kind · decimal serial = joined_as 46 b (kind_text kind) (decimal serial) (kind_strict _ kind is_kind) (number_strict _ serial is_serial) serial_text in
    let kind_some : b ≡ [] → ⊥ = λ empty. serial_text (ap (behind 46) empty) in
    let life_part : a ≡ decimal life · kind_text kind · decimal serial = joined_as 46 a (decimal life) (kind_text kind · decimal serial) (below_strict 4294967296 _ life is_life) kind_part kind_some in
    let life_some : a ≡ [] → ⊥ = λ empty. kind_some (ap (behind 46) empty) in
    joined_as 46 word (decimal slot) (decimal life · kind_text kind · decimal serial) (below_strict 16 _ slot is_slot) life_part life_some ∙ ap name_text (same_Some _ name same)))))

-- a text that gives a name is not empty
name_some : (word : List ℕ) (name : JobName) → name_of word ≡ Some name → word ≡ [] → ⊥
unfolding name_of
name_some word name e empty = none-some name (sym (ap name_of empty) ∙ e)

-- ---- requests
-- a transaction and a block
pub own_strict : (words : List ℕ) (p : ℕ × ℕ) → own_of words ≡ Some p → words ≡ trans_text p.0 ␣ decimal p.1
unfolding own_of
own_strict words p e =
    bound (lettered 116 (before 32 words)) _ p e (λ trans is_trans after_trans.
    bound (number_of (behind 32 words)) _ p after_trans (λ block is_block same.
    joined_as 32 words (trans_text trans) (decimal block) (lettered_strict 116 _ trans is_trans) (number_strict _ block is_block) (some_text number_of (behind 32 words) block refl is_block)
    ∙ ap (λ q. trans_text q.0 ␣ decimal q.1) (same_Some (trans, block) p same)))

-- nothing is neither plain nor perm
perm_none : perm_of [] ≡ None
unfolding perm_of
perm_none = refl

-- what is opened
pub alloc_strict : (words : List ℕ) (r : Request) → alloc_of words ≡ Some r → codes "alloc" ␣ words ≡ request_text r
unfolding alloc_of
alloc_strict words r e =
    let a = behind 32 words in
    bound (u32_of (before 32 words)) _ r e (λ unit is_unit after_unit.
    bound (u32_of (before 32 a)) _ r after_unit (λ count is_count after_count.
    bound (perm_of (behind 32 a)) _ r after_count (λ perm is_perm same.
    let perm_text_some = some_text perm_of (behind 32 a) perm perm_none is_perm in
    let count_part : a ≡ decimal count ␣ perm_text perm = joined_as 32 a (decimal count) (perm_text perm) (below_strict 4294967296 _ count is_count) (perm_strict _ perm is_perm) perm_text_some in
    let count_some : a ≡ [] → ⊥ = λ empty. perm_text_some (ap (behind 32) empty) in
    ap (λ text. codes "alloc" ␣ text) (joined_as 32 words (decimal unit) (decimal count ␣ perm_text perm) (below_strict 4294967296 _ unit is_unit) count_part count_some)
    ∙ ap request_text (same_Some (Alloc unit count perm) r same))))

-- a verb and what stands behind it are a request's text, and something stands there
abbrev pub Spells : List ℕ → List ℕ → Request → Type 0
Spells verb args r = (verb ␣ args ≡ request_text r) × (args ≡ [] → ⊥)

-- a request that is read loosely is not one that is read strictly
not_loose : {P : Type 0} (q r : Request) → Some q ≡ Some r → is_strict_request q ≡ false → is_strict_request r ≡ true → P
not_loose q r is loose strict = absurd (false≢true (sym loose ∙ ap is_strict_request (same_Some q r is) ∙ strict))

-- nothing is no transaction and block
own_none : own_of [] ≡ None
unfolding own_of
own_none = refl

-- a verb, a transaction and a block
own_case : (verb text args : List ℕ) (f : ℕ → ℕ → Request) (r : Request) → ((t b : ℕ) → text ␣ trans_text t ␣ decimal b ≡ request_text (f t b)) → verb ≡ text → (own_of args >>= λ p. Some (f p.0 p.1)) ≡ Some r → Spells verb args r
own_case verb text args f r texts same e =
    bound (own_of args) (λ p. Some (f p.0 p.1)) r e (λ p is_p is_r. (
      ap (λ v. v ␣ args) same ∙ ap (λ a. text ␣ a) (own_strict args p is_p) ∙ texts p.0 p.1 ∙ ap request_text (same_Some (f p.0 p.1) r is_r),
      some_text own_of args p own_none is_p,
    ))

-- a verb and a number behind a letter
lettered_case : (letter : ℕ) (verb text args : List ℕ) (f : ℕ → Request) (r : Request) → ((n : ℕ) → text ␣ (letter ∷ decimal n) ≡ request_text (f n)) → verb ≡ text → (lettered letter args >>= λ n. Some (f n)) ≡ Some r → Spells verb args r
lettered_case letter verb text args f r texts same e =
    bound (lettered letter args) (λ n. Some (f n)) r e (λ n is_n is_r. (
      ap (λ v. v ␣ args) same ∙ ap (λ a. text ␣ a) (lettered_strict letter args n is_n) ∙ texts n ∙ ap request_text (same_Some (f n) r is_r),
      some_text (lettered letter) args n refl is_n,
    ))

-- a request of the mount as a whole
pub mount_strict : (verb args : List ℕ) (r : Request) → mount_request verb args ≡ Some r → is_strict_request r ≡ true → Spells verb args r
unfolding mount_request
mount_strict verb args r e strict =
    spelled verb (codes "force") _ _ r e (λ same is. not_loose Force r is refl strict) (λ e2.
    spelled verb (codes "forceto") _ _ r e2 (λ same is. lettered_case 99 verb (codes "forceto") args ForceTo r (λ n. refl) same is) (λ e3.
    spelled verb (codes "push") _ _ r e3 (λ same is. not_loose Push r is refl strict) (λ e4.
    spelled verb (codes "shutdown") _ _ r e4 (λ same is. not_loose Shutdown r is refl strict) (λ e5.
    spelled verb (codes "freeze") _ _ r e5 (λ same is. not_loose Freeze r is refl strict) (λ e6.
    spelled verb (codes "thaw") _ _ r e6 (λ same is. not_loose Thaw r is refl strict) (λ e7.
    spelled verb (codes "stat") _ _ r e7 (λ same is. not_loose Stat r is refl strict) (λ e8.
    spelled verb (codes "unmount") _ _ r e8 (λ same is. not_loose Unmount r is refl strict) (λ none. absurd (none-some r none)))))))))

-- a request of a transaction
pub trans_strict : (verb args : List ℕ) (r : Request) → trans_request verb args ≡ Some r → is_strict_request r ≡ true → Spells verb args r
unfolding trans_request
trans_strict verb args r e strict =
    spelled verb (codes "commit") _ _ r e (λ same is. lettered_case 116 verb (codes "commit") args Commit r (λ n. refl) same is) (λ e2.
    spelled verb (codes "roll") _ _ r e2 (λ same is. lettered_case 116 verb (codes "roll") args Roll r (λ n. refl) same is) (λ e3.
    spelled verb (codes "cancel") _ _ r e3 (λ same is. lettered_case 116 verb (codes "cancel") args Cancel r (λ n. refl) same is) (λ e4.
    mount_strict verb args r e4 strict)))

-- a request of a transaction's block
pub block_strict : (verb args : List ℕ) (r : Request) → own_request verb args ≡ Some r → is_strict_request r ≡ true → Spells verb args r
unfolding own_request
block_strict verb args r e strict =
    spelled verb (codes "get") _ _ r e (λ same is. own_case verb (codes "get") args Get r (λ t b. refl) same is) (λ e2.
    spelled verb (codes "view") _ _ r e2 (λ same is. own_case verb (codes "view") args View r (λ t b. refl) same is) (λ e3.
    spelled verb (codes "hold") _ _ r e3 (λ same is. own_case verb (codes "hold") args Hold r (λ t b. refl) same is) (λ e4.
    spelled verb (codes "unhold") _ _ r e4 (λ same is. own_case verb (codes "unhold") args Unhold r (λ t b. refl) same is) (λ e5.
    spelled verb (codes "relse") _ _ r e5 (λ same is. own_case verb (codes "relse") args Relse r (λ t b. refl) same is) (λ e6.
    spelled verb (codes "join") _ _ r e6 (λ same is. own_case verb (codes "join") args Join r (λ t b. refl) same is) (λ e7.
    spelled verb (codes "inval") _ _ r e7 (λ same is. own_case verb (codes "inval") args Inval r (λ t b. refl) same is) (λ e8.
    trans_strict verb args r e8 strict)))))))

-- the one spelling of data
pub data_strict : (text bytes : List ℕ) → spelled_data text ≡ Some bytes → text ≡ spelling bytes
data_strict text bytes e =
    bound (read_data text) (λ read. cond (bytes_eq text (spelling read)) (Some read) None) bytes e
    (λ read gives is.
    let both = cond_some (bytes_eq text (spelling read)) read bytes is in
    (bytes_eq-Decides text (spelling read)).0 both.0 ∙ ap spelling both.1)

-- nothing spells no data
data_none : spelled_data [] ≡ None
data_none = refl

-- what is written
log_strict : (words : List ℕ) (r : Request) → log_of words ≡ Some r → codes "log" ␣ words ≡ request_text r
unfolding log_of
log_strict words r e =
    let a = behind 32 words in
    let b = behind 32 a in
    bound (lettered 116 (before 32 words)) _ r e (λ trans is_trans e2.
    bound (number_of (before 32 a)) _ r e2 (λ block is_block e3.
    bound (u32_of (before 32 b)) _ r e3 (λ first is_first e4.
    bound (spelled_data (behind 32 b)) _ r e4 (λ bytes is_bytes same.
    let data_some = some_text spelled_data (behind 32 b) bytes data_none is_bytes in
    let third : b ≡ decimal first ␣ spelling bytes = joined_as 32 b (decimal first) (spelling bytes) (below_strict 4294967296 _ first is_first) (data_strict _ bytes is_bytes) data_some in
    let third_some : b ≡ [] → ⊥ = λ empty. data_some (ap (behind 32) empty) in
    let second : a ≡ decimal block ␣ decimal first ␣ spelling bytes = joined_as 32 a (decimal block) (decimal first ␣ spelling bytes) (number_strict _ block is_block) third third_some in
    let second_some : a ≡ [] → ⊥ = λ empty. third_some (ap (behind 32) empty) in
    ap (λ text. codes "log" ␣ text) (joined_as 32 words (trans_text trans) (decimal block ␣ decimal first ␣ spelling bytes) (lettered_strict 116 _ trans is_trans) second second_some)
    ∙ ap request_text (same_Some (Log first trans block bytes) r same)))))

-- nothing writes nothing
log_none : log_of [] ≡ None
unfolding log_of
log_none = refl

-- a block is given back
drop_strict : (verb args : List ℕ) (r : Request) → verb ≡ codes "drop" → drop_of args ≡ Some r → Spells verb args r
unfolding drop_of
drop_strict verb args r same e =
    bound (number_of args) _ r e (λ block is_block is_r. (
      ap (λ v. v ␣ args) same ∙ ap (λ a. codes "drop" ␣ a) (number_strict args block is_block) ∙ ap request_text (same_Some (Release block) r is_r),
      some_text number_of args block refl is_block,
    ))

-- nothing opens no transaction
alloc_none : alloc_of [] ≡ None
unfolding alloc_of
alloc_none = refl

-- a request other than a read
pub request_strict : (verb args : List ℕ) (r : Request) → request_of verb args ≡ Some r → is_strict_request r ≡ true → Spells verb args r
unfolding request_of
request_strict verb args r e strict =
    spelled verb (codes "alloc") _ _ r e (λ same is. (ap (λ v. v ␣ args) same ∙ alloc_strict args r is, some_text alloc_of args r alloc_none is)) (λ e2.
    spelled verb (codes "log") _ _ r e2 (λ same is. (ap (λ v. v ␣ args) same ∙ log_strict args r is, some_text log_of args r log_none is)) (λ e3.
    spelled verb (codes "drop") _ _ r e3 (λ same is. drop_strict verb args r same is) (λ e4.
    block_strict verb args r e4 strict)))

-- ---- steps
-- a first word and what stands behind it are a step's line, and something stands there
abbrev pub IsLine : List ℕ → List ℕ → Step → Type 0
IsLine word words s = (word ␣ words ≡ line_of s) × (words ≡ [] → ⊥)

-- a read is read loosely
read_loose : {P : Type 0} (slot life : ℕ) (words : List ℕ) (s : Step) → read_of slot life words ≡ Some s → is_strict s ≡ true → P
unfolding read_of
read_loose slot life words s e strict =
    bound (lettered 116 (before 32 words)) _ s e (λ trans is_trans e2.
    bound (number_of (before 32 (behind 32 words))) _ s e2 (λ block is_block e3.
    bound (answer_of (behind 32 (behind 32 words))) _ s e3 (λ answer is_answer same.
    absurd (false≢true (ap is_strict (same_Some (Call slot life (Read trans block) answer) s same) ∙ strict)))))

-- a call
pub call_strict : (mount words : List ℕ) (s : Step) → call_of mount words ≡ Some s → is_strict s ≡ true → IsLine mount words s
unfolding call_of asked_of
call_strict mount words s e strict =
    bound (below 16 (before 46 mount)) _ s e (λ slot is_slot e2.
    bound (u32_of (behind 46 mount)) _ s e2 (λ life is_life e3.
    spelled (before 32 words) (codes "read") _ _ s e3 (λ same is. read_loose slot life (behind 32 words) s is strict) (λ e4.
    bound (request_of (before 32 words) (behind 32 words)) _ s e4 (λ r is_r same.
    let first = joined_as 46 mount (decimal slot) (decimal life) (below_strict 16 _ slot is_slot) (below_strict 4294967296 _ life is_life) (some_text u32_of (behind 46 mount) life refl is_life) in
    let is_step = same_Some (Call slot life r Answer.None) s same in
    let asked = request_strict (before 32 words) (behind 32 words) r is_r (ap is_strict is_step ∙ strict) in
    let text : words ≡ request_text r ++ [] = rejoined 32 words asked.1 ∙ asked.0 ∙ sym (append-nil (request_text r)) in (
      ap (λ m. m ␣ words) first ∙ ap (λ t. (decimal slot · decimal life) ␣ t) text ∙ ap line_of is_step,
      λ empty. asked.1 (ap (behind 32) empty),
    )))))

-- a word and a slot
slot_case : (word text words : List ℕ) (f : ℕ → Step) (s : Step) → ((n : ℕ) → text ␣ decimal n ≡ line_of (f n)) → word ≡ text → (below 16 words >>= λ n. Some (f n)) ≡ Some s → IsLine word words s
slot_case word text words f s texts same e =
    bound (below 16 words) (λ n. Some (f n)) s e (λ n is_n is_s. (
      ap (λ w. w ␣ words) same ∙ ap (λ t. text ␣ t) (below_strict 16 words n is_n) ∙ texts n ∙ ap line_of (same_Some (f n) s is_s),
      some_text (below 16) words n refl is_n,
    ))

-- a word, a worker and a name
job_case : (word text words : List ℕ) (f : ℕ → JobName → Step) (s : Step) → ((w : ℕ) (name : JobName) → text ␣ decimal w ␣ name_text name ≡ line_of (f w name)) → word ≡ text
    → (below 8 (before 32 words) >>= λ w. name_of (behind 32 words) >>= λ name. Some (f w name)) ≡ Some s → IsLine word words s
job_case word text words f s texts same e =
    bound (below 8 (before 32 words)) (λ w. name_of (behind 32 words) >>= λ name. Some (f w name)) s e (λ w is_w e2.
    bound (name_of (behind 32 words)) (λ name. Some (f w name)) s e2 (λ name is_name is_s.
    let some = name_some (behind 32 words) name is_name in (
      ap (λ v. v ␣ words) same ∙ ap (λ t. text ␣ t) (joined_as 32 words (decimal w) (name_text name) (below_strict 8 _ w is_w) (name_strict _ name is_name) some) ∙ texts w name ∙ ap line_of (same_Some (f w name) s is_s),
      λ empty. some (ap (behind 32) empty),
    )))

-- a mount is read loosely
mount_loose : {P : Type 0} (words : List ℕ) (s : Step) → mount_of words ≡ Some s → is_strict s ≡ true → P
unfolding mount_of
mount_loose words s e strict =
    let a = behind 32 words in
    let b = behind 32 a in
    bound (below 16 (before 32 words)) _ s e (λ slot is_slot e2.
    bound (u32_of (before 32 a)) _ s e2 (λ log_bytes is_log e3.
    bound (number_of (before 32 b)) _ s e3 (λ blocks is_blocks e4.
    bound (size_of (behind 32 b)) _ s e4 (λ size is_size same.
    absurd (false≢true (ap is_strict (same_Some (Mount slot log_bytes blocks size) s same) ∙ strict))))))

-- nothing is no answer to a sync
sync_none : sync_of [] ≡ None
unfolding sync_of
sync_none = refl

-- the end of a checkpoint
end_line : (word words : List ℕ) (s : Step) → word ≡ codes "end" → end_of words ≡ Some s → IsLine word words s
unfolding end_of
end_line word words s same e =
    let a = behind 32 words in
    let b = behind 32 a in
    bound (below 8 (before 32 words)) _ s e (λ worker is_worker e2.
    bound (name_of (before 32 a)) _ s e2 (λ name is_name e3.
    bound (u32_of (before 32 b)) _ s e3 (λ taken is_taken e4.
    bound (sync_of (behind 32 b)) _ s e4 (λ sync is_sync is_s.
    let sync_some = some_text sync_of (behind 32 b) sync sync_none is_sync in
    let third = joined_as 32 b (decimal taken) (sync_text sync) (below_strict 4294967296 _ taken is_taken) (sync_strict _ sync is_sync) sync_some in
    let third_some : b ≡ [] → ⊥ = λ empty. sync_some (ap (behind 32) empty) in
    let second = joined_as 32 a (name_text name) (decimal taken ␣ sync_text sync) (name_strict _ name is_name) third third_some in
    let second_some : a ≡ [] → ⊥ = λ empty. third_some (ap (behind 32) empty) in (
      ap (λ w. w ␣ words) same ∙ ap (λ t. codes "end" ␣ t) (joined_as 32 words (decimal worker) (name_text name ␣ decimal taken ␣ sync_text sync) (below_strict 8 _ worker is_worker) second second_some)
          ∙ ap line_of (same_Some (End worker name (record { taken = taken; sync = sync })) s is_s),
      λ empty. second_some (ap (behind 32) empty),
    )))))

-- a post
post_line : (word words : List ℕ) (s : Step) → word ≡ codes "post" → post_of words ≡ Some s → IsLine word words s
unfolding post_of
post_line word words s same e =
    bound (name_of words) _ s e (λ name is_name is_s. (
      ap (λ w. w ␣ words) same ∙ ap (λ t. codes "post" ␣ t) (name_strict words name is_name) ∙ ap line_of (same_Some (Post name) s is_s),
      name_some words name is_name,
    ))

-- a flush is read loosely
flush_loose : {P : Type 0} (words : List ℕ) (s : Step) → flush_of words ≡ Some s → is_strict s ≡ true → P
unfolding flush_of
flush_loose words s e strict =
    bound (below 8 (before 32 words)) _ s e (λ worker is_worker e2.
    bound (name_of (before 32 (behind 32 words))) _ s e2 (λ name is_name e3.
    bound (home_of (behind 32 (behind 32 words))) _ s e3 (λ answers is_answers same.
    absurd (false≢true (ap is_strict (same_Some (Flush worker name answers) s same) ∙ strict)))))

-- a step
words_strict : (word words : List ℕ) (s : Step) → words_step word words ≡ Some s → is_strict s ≡ true → IsLine word words s
unfolding words_step take_of begin_of show_of peek_of
words_strict word words s e strict =
    spelled word (codes "mount") _ _ s e (λ same is. mount_loose words s is strict) (λ e2.
    spelled word (codes "post") _ _ s e2 (λ same is. post_line word words s same is) (λ e3.
    spelled word (codes "take") _ _ s e3 (λ same is. job_case word (codes "take") words Take s (λ w name. refl) same is) (λ e4.
    spelled word (codes "begin") _ _ s e4 (λ same is. job_case word (codes "begin") words Begin s (λ w name. refl) same is) (λ e5.
    spelled word (codes "end") _ _ s e5 (λ same is. end_line word words s same is) (λ e6.
    spelled word (codes "flush") _ _ s e6 (λ same is. flush_loose words s is strict) (λ e7.
    spelled word (codes "show") _ _ s e7 (λ same is. slot_case word (codes "show") words Show s (λ n. refl) same is) (λ e8.
    spelled word (codes "peek") _ _ s e8 (λ same is. slot_case word (codes "peek") words Peek s (λ n. refl) same is) (λ e9.
    call_strict word words s e9 strict))))))))

-- a line that gives a step which is read strictly is the line of that step
pub step_strict : (line : List ℕ) (s : Step) → step_of line ≡ Some s → is_strict s ≡ true → line ≡ line_of s
unfolding step_of
step_strict line s e strict =
    let is = words_strict (before 32 line) (behind 32 line) s e strict in
    rejoined 32 line is.1 ∙ is.0
