-- Words of a line, read, give their values back.
use Rattle.std.proofs.Common.{Bool, List, None, Option, Some, [], ap, append_assoc, arith, eqb, false, get_or, lt-ltb, one-add, append-nil, refl, suc, sym, true, zero, ℕ, ◌++◌, ◌+◌, ◌/◌, ◌<◌, ◌%◌, ◌^◌, ◌∙◌, ◌≡◌, ◌∷◌}
use Rattle.std.specs.Fmt.{decimal}
use Rattle.std.specs.List.{AllByRecursion, position_or_len}
use Rattle.std.proofs.lemmas.Bool.{eq-eqb, ne_eqb}
use Rattle.std.proofs.lemmas.Fmt.{decimal_by_steps, decimal_digit, first_decimal}
use Rattle.xt_base.specs.declared.names.JobKind.{JobKind}
use Rattle.xt_base.specs.declared.names.JobKind.TheVariants.{Ckpt, Flush}
use Rattle.xt_base.specs.declared.names.JobName.{JobName}
use Rattle.xt_base.specs.declared.steps.Answer.{Answer}
use Rattle.xt_base.specs.declared.steps.Request.{Request}
use Rattle.xt_base.specs.declared.steps.Request.TheVariants.{Read}
use Rattle.xt_text.proofs.ReadAgain.{number_on_digit}
use Rattle.xt_text.specs.LineReading.{before, behind, kind_of, lettered, name_of, perm_of, sync_of, u32_of}
use Rattle.xt_text.specs.Lines.{IsAnswerTo, IsName, kind_text, name_text, perm_text, sync_text, trans_text, ◌·◌}
use Rattle.xt_text.specs.Reading.{below, is_plain, number_of, number_with}

-- ---- cutting at a separator
-- a text without a character
abbrev pub Lacks : ℕ → List ℕ → Type 0
Lacks c text = AllByRecursion (λ x. eqb x c ≡ false) text

-- what stands before the separator
pub before_joined : (c : ℕ) (a b : List ℕ) → Lacks c a → before c (a ++ c ∷ b) ≡ a
before_joined c [] b lacks = rw (eq-eqb c c refl) refl
before_joined c (x ∷ a) b lacks = rw (lacks.0, one-add) (ap (λ text. x ∷ text) (before_joined c a b lacks.1))

-- what stands behind it
pub behind_joined : (c : ℕ) (a b : List ℕ) → Lacks c a → behind c (a ++ c ∷ b) ≡ b
behind_joined c [] b lacks = rw (eq-eqb c c refl) refl
behind_joined c (x ∷ a) b lacks =
    let place = position_or_len (λ y. eqb y c) (a ++ c ∷ b) in
    let step : 1 + place + 1 ≡ suc (place + 1) = omega arith in
    rw (lacks.0, step) (behind_joined c a b lacks.1)

-- a text without the separator is all that stands before it
pub before_whole : (c : ℕ) (a : List ℕ) → Lacks c a → before c a ≡ a
before_whole c [] lacks = refl
before_whole c (x ∷ a) lacks = rw (lacks.0, one-add) (ap (λ text. x ∷ text) (before_whole c a lacks.1))

-- and nothing stands behind it
pub behind_whole : (c : ℕ) (a : List ℕ) → Lacks c a → behind c a ≡ []
behind_whole c [] lacks = refl
behind_whole c (x ∷ a) lacks =
    let place = position_or_len (λ y. eqb y c) a in
    let step : 1 + place + 1 ≡ suc (place + 1) = omega arith in
    rw (lacks.0, step) (behind_whole c a lacks.1)

-- joined texts lack what both lack
pub lacks_joined : (c : ℕ) (a b : List ℕ) → Lacks c a → Lacks c b → Lacks c (a ++ b)
lacks_joined c [] b lacks_a lacks_b = lacks_b
lacks_joined c (x ∷ a) b lacks_a lacks_b = (lacks_a.0, lacks_joined c a b lacks_a.1 lacks_b)

-- a number has no character below the digits
pub decimal_lacks : (c n : ℕ) → c < 48 → n < 2 ^ 64 → Lacks c (decimal n)
decimal_lacks c n low small =
    decimal_by_steps (λ m ds. Lacks c ds)
    (λ m one. (ne_eqb (48 + m) c (λ e. omega arith), tt))
    (λ m ds big lacks. lacks_joined c ds ((48 + m % 10) ∷ []) lacks (ne_eqb (48 + m % 10) c (λ e. omega arith), tt))
    n small

-- ---- numbers
-- the digits of a number give it
pub digits_again : (n : ℕ) (more : List ℕ) → n < 18446744073709551616 → number_with 0 (decimal n ++ more) ≡ number_with n more
digits_again n more small =
    decimal_by_steps (λ m ds. m < 18446744073709551616 → (rest : List ℕ) → number_with 0 (ds ++ rest) ≡ number_with m rest)
    (λ m one fits rest. rw (number_on_digit 0 m (omega arith) one) (ap (λ k. number_with k rest) (omega arith)))
    (λ m ds big again fits rest.
    ap (λ text. number_with 0 text) (append_assoc ds ((48 + m % 10) ∷ []) rest)
    ∙ again (omega arith) ((48 + m % 10) ∷ rest)
    ∙ rw (number_on_digit (m / 10) (m % 10) (omega arith) (omega arith)) (ap (λ k. number_with k rest) (omega arith)))
    n (omega arith) small more

-- a word that begins with a digit above 0 is plain
plain_first : (word : List ℕ) → 48 < get_or word 0 0 → is_plain word ≡ true
plain_first [] high = absurd (omega (arith, high))
plain_first (c ∷ []) high = refl
plain_first (c ∷ d ∷ cs) high = rw (ne_eqb c 48 (λ e. omega (arith, high, e))) refl

-- and so is a number
pub decimal_plain : (n : ℕ) → n < 18446744073709551616 → is_plain (decimal n) ≡ true
decimal_plain zero small = ap is_plain (decimal_digit 0 (omega arith))
decimal_plain (suc n) small = plain_first (decimal (suc n)) (first_decimal (suc n) (omega arith) small)

-- a number gives itself
pub number_again : (n : ℕ) → n < 2 ^ 64 → number_of (decimal n) ≡ Some n
number_again n small = rw (decimal_plain n (omega arith)) (ap (number_with 0) (sym (append-nil (decimal n))) ∙ digits_again n [] (omega arith))

-- a number below a limit gives itself
pub below_again : (limit n : ℕ) → n < limit → n < 2 ^ 64 → below limit (decimal n) ≡ Some n
below_again limit n low small = rw (number_again n small, lt-ltb n limit low) refl

-- a u32 gives itself
pub u32_again : (n : ℕ) → n < 2 ^ 32 → u32_of (decimal n) ≡ Some n
u32_again n low = below_again 4294967296 n low (omega arith)

-- a number behind a letter gives itself
pub lettered_again : (letter n : ℕ) → n < 2 ^ 64 → lettered letter (letter ∷ decimal n) ≡ Some n
lettered_again letter n small = rw (eq-eqb letter letter refl) (number_again n small)

-- the number of a transaction gives itself
pub trans_again : (n : ℕ) → n < 2 ^ 64 → lettered 116 (trans_text n) ≡ Some n
trans_again n small = lettered_again 116 n small

-- ---- words that stand for a choice
-- what a job does gives itself
pub kind_again : (kind : JobKind) → kind_of (kind_text kind) ≡ Some kind
unfolding kind_of
kind_again Ckpt = refl
kind_again Flush = refl

-- plain or perm gives itself
pub perm_again : (perm : Bool) → perm_of (perm_text perm) ≡ Some perm
unfolding perm_of
perm_again false = refl
perm_again true = refl

-- the answer to a sync gives itself
pub sync_again : (sync : Option Bool) → sync_of (sync_text sync) ≡ Some sync
unfolding sync_of
sync_again None = refl
sync_again (Some true) = refl
sync_again (Some false) = refl

-- any request may have no answer
pub none_fits : (r : Request) → IsAnswerTo r Answer.None
none_fits (Read trans block) = tt
none_fits other = tt

-- ---- names of jobs
-- what a job does has no dot
pub kind_lacks_dot : (kind : JobKind) → Lacks 46 (kind_text kind)
kind_lacks_dot Ckpt = (refl, (refl, (refl, (refl, tt))))
kind_lacks_dot Flush = (refl, (refl, (refl, (refl, (refl, tt)))))

-- a name gives itself
pub name_again : (name : JobName) → IsName name → name_of (name_text name) ≡ Some name
unfolding name_of
name_again name is =
    let rest = kind_text name.kind · decimal name.serial in
    rw (
      before_joined 46 (decimal name.slot) (decimal name.life · rest) (decimal_lacks 46 name.slot (omega arith) (omega arith)),
      behind_joined 46 (decimal name.slot) (decimal name.life · rest) (decimal_lacks 46 name.slot (omega arith) (omega arith)),
      before_joined 46 (decimal name.life) rest (decimal_lacks 46 name.life (omega arith) (omega arith)),
      behind_joined 46 (decimal name.life) rest (decimal_lacks 46 name.life (omega arith) (omega arith)),
      before_joined 46 (kind_text name.kind) (decimal name.serial) (kind_lacks_dot name.kind),
      behind_joined 46 (kind_text name.kind) (decimal name.serial) (kind_lacks_dot name.kind),
      below_again 16 name.slot is.0 (omega arith),
      u32_again name.life is.1,
      kind_again name.kind,
      number_again name.serial is.2,
    )
    refl

-- what a job does has no space
pub kind_lacks_space : (kind : JobKind) → Lacks 32 (kind_text kind)
kind_lacks_space Ckpt = (refl, (refl, (refl, (refl, tt))))
kind_lacks_space Flush = (refl, (refl, (refl, (refl, (refl, tt)))))

-- a name has no space
pub name_lacks : (name : JobName) → IsName name → Lacks 32 (name_text name)
name_lacks name is =
    lacks_joined 32 (decimal name.slot) _ (decimal_lacks 32 name.slot (omega arith) (omega arith)) (
      refl,
      lacks_joined 32 (decimal name.life) _ (decimal_lacks 32 name.life (omega arith) (omega arith)) (
        refl,
        lacks_joined 32 (kind_text name.kind) _ (kind_lacks_space name.kind)
            (refl, decimal_lacks 32 name.serial (omega arith) is.2),
      ),
    )
