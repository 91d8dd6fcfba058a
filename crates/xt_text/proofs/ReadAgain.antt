-- The text of data, read, gives the data back.
use Rattle.std.proofs.Common.{Bool, List, Some, [], add-one, ap, append-nil, append_assoc, arith, cond, eqb, false, flat_map, length, length-append, ltb, refl, replicate, suc, sym, true, zero, ℕ, ◌&&◌, ◌*◌, ◌++◌, ◌+◌, ◌-◌, ◌/◌, ◌<◌, ◌%◌, ◌∙◌, ◌≡◌, ◌≤◌, ◌∷◌}
use Rattle.std.specs.Fmt.{decimal}
use Rattle.std.specs.List.{AllByRecursion}
use Rattle.std.specs.Str.{bytes_eq}
use Rattle.std.proofs.lemmas.Bool.{cond_both, eqb-true, false_from_ne_true, le-leb, lt-ltb, ne_eqb}
use Rattle.std.proofs.lemmas.Fmt.{decimal_by_steps}
use Rattle.std.proofs.lemmas.Grind.{common_steps}
use Rattle.std.proofs.lemmas.List.Elements.{recursion_from_All}
use Rattle.std.proofs.lemmas.Option.{none-some, same_Some}
use Rattle.std.proofs.lemmas.List.{length-replicate, replicate_more}
use Rattle.xt_text.specs.DataReading.{byte_value, hex_value, is_count, read_data, reads}
use Rattle.xt_text.specs.DataText.{IsData, after_run, hex, hex_digit, onto_runs, run_text, runs, runs_text, spelling}
use Rattle.xt_text.specs.Reading.{number_on}
use Rattle.xt_text.specs.declared.data_text.Place.TheVariants.{Count, Front, Whole}
use Rattle.xt_text.specs.declared.data_text.Run.{Run}

-- ---- digits
-- a hexadecimal digit gives its value
pub digit_again : (d : ℕ) → d < 16 → hex_value (hex_digit d) ≡ Some d
digit_again d small = grind (arith, common_steps)

-- a hexadecimal digit is above a star and a dot
pub digit_high : (d : ℕ) → 48 ≤ hex_digit d
digit_high d = grind (arith, common_steps)

-- so it is no star
pub digit_no_star : (d : ℕ) → eqb (hex_digit d) 42 ≡ false
digit_no_star d = ne_eqb (hex_digit d) 42 (λ e. omega (arith, digit_high d))

-- and no dot
pub digit_no_dot : (d : ℕ) → eqb (hex_digit d) 46 ≡ false
digit_no_dot d = ne_eqb (hex_digit d) 46 (λ e. omega (arith, digit_high d))

-- two digits give their byte
pub byte_again : (b : ℕ) → b < 256 → byte_value (hex_digit (b / 16)) (hex_digit (b % 16)) ≡ Some b
byte_again b small = rw (digit_again (b / 16) (omega arith), digit_again (b % 16) (omega arith)) (ap Some (omega arith))

-- a byte is read from its digits
pub hex_again : (xs : List ℕ) (b : ℕ) (more : List ℕ) → b < 256 → reads xs Front (hex b ++ more) ≡ reads xs (Whole b) more
hex_again xs b more small = rw (digit_no_dot (b / 16), byte_again b small) refl

-- at the first digit of the next byte the byte before it is taken
pub whole_then_hex : (xs : List ℕ) (b d : ℕ) (more : List ℕ) → length xs < 4096 → reads xs (Whole b) (hex_digit d ∷ more) ≡ reads (xs ++ b ∷ []) Front (hex_digit d ∷ more)
whole_then_hex xs b d more room = rw (digit_no_star d, le-leb 1 (4096 - length xs) (omega arith)) refl

-- a character that begins a byte is no dot
pub no_dot : (high low b : ℕ) → byte_value high low ≡ Some b → eqb high 46 ≡ false
no_dot high low b gives = false_from_ne_true (eqb high 46) (λ same. none-some b (sym (ap (λ h. byte_value h low) (eqb-true high 46 same)) ∙ gives))

-- a byte that no count follows is taken
pub plain_more : (high low b : ℕ) (after : List ℕ) → byte_value high low ≡ Some b → is_count after ≡ false → (xs : List ℕ) → length xs < 4096 →
    reads xs Front (high ∷ low ∷ after) ≡ reads (xs ++ b ∷ []) Front after
plain_more high low b [] gives plain xs room = rw (no_dot high low b gives, gives, le-leb 1 (4096 - length xs) (omega arith)) refl
plain_more high low b (c ∷ cs) gives plain xs room = rw (no_dot high low b gives, gives, plain, le-leb 1 (4096 - length xs) (omega arith)) refl

-- ---- runs
-- a run that data can have
abbrev pub IsRun : Run → Type 0
IsRun r = (0 < r.count) × (r.byte < 256)

-- a run's bytes
abbrev pub bytes_of : Run → List ℕ
bytes_of r = replicate r.count r.byte

-- the digits of a byte repeated give all of it but the last, which a count may follow
pub repeated_again : (b k : ℕ) (xs more : List ℕ) → b < 256 → length xs + k < 4096 → reads xs Front (flat_map hex (replicate (suc k) b) ++ more) ≡ reads (xs ++ replicate k b) (Whole b) more
repeated_again b zero xs more small room = hex_again xs b more small ∙ ap (λ ys. reads ys (Whole b) more) (sym (append-nil xs))
repeated_again b (suc k) xs more small room =
    hex_again xs b (flat_map hex (replicate (suc k) b) ++ more) small
    ∙ whole_then_hex xs b (b / 16) (hex_digit (b % 16) ∷ (flat_map hex (replicate k b) ++ more)) (omega arith)
    ∙ repeated_again b k (xs ++ b ∷ []) more small (omega (arith, length-append xs (b ∷ [])))
    ∙ ap (λ ys. reads ys (Whole b) more) (append_assoc xs (b ∷ []) (replicate k b))

-- a decimal digit goes on with a number
pub number_on_digit : (m d : ℕ) → 10 * m + d < 18446744073709551616 → d < 10 → number_on m (48 + d) ≡ Some (10 * m + d)
number_on_digit m d fits small =
    let same : (48 + d) - 48 ≡ d = omega arith in
    rw (le-leb 48 (48 + d) (omega arith), le-leb (48 + d) 57 (omega arith), same, lt-ltb (10 * m + d) 18446744073709551616 fits) refl

-- a decimal digit goes on with a count
pub digit_on : (b m d : ℕ) (xs more : List ℕ) → m ≤ 4096 → d < 10 → reads xs (Count b m) ((48 + d) ∷ more) ≡ reads xs (Count b (10 * m + d)) more
digit_on b m d xs more few small = rw (ne_eqb (48 + d) 46 (λ e. omega arith), number_on_digit m d (omega arith) small) refl

-- the digits of a number give it
pub count_again : (b n : ℕ) (xs more : List ℕ) → n ≤ 4096 → reads xs (Count b 0) (decimal n ++ more) ≡ reads xs (Count b n) more
count_again b n xs more few =
    decimal_by_steps (λ m ds. m ≤ 4096 → (rest : List ℕ) → reads xs (Count b 0) (ds ++ rest) ≡ reads xs (Count b m) rest)
    (λ m small few rest. digit_on b 0 m xs rest (omega arith) small ∙ ap (λ k. reads xs (Count b k) rest) (omega arith))
    (λ m ds big before few rest.
    ap (λ text. reads xs (Count b 0) text) (append_assoc ds ((48 + m % 10) ∷ []) rest)
    ∙ before (omega arith) ((48 + m % 10) ∷ rest)
    ∙ digit_on b (m / 10) (m % 10) xs rest (omega arith) (omega arith)
    ∙ ap (λ k. reads xs (Count b k) rest) (omega arith))
    n (omega arith) few more

-- a byte, a star and a count
pub long_again : (b n : ℕ) (xs more : List ℕ) → b < 256 → n ≤ 4096 → reads xs Front ((hex b ++ 42 ∷ decimal n) ++ more) ≡ reads xs (Count b n) more
long_again b n xs more small few = hex_again xs b (42 ∷ (decimal n ++ more)) small ∙ count_again b n xs more few

-- ---- what may come behind a run: nothing, a dot, or, behind a short one, a digit
-- the last of a short run is taken there
pub short_then : (b k d : ℕ) (xs more : List ℕ) → b < 256 → length xs + suc k ≤ 4096 →
    (reads xs Front (flat_map hex (replicate (suc k) b) ++ []) ≡ Some (xs ++ replicate (suc k) b))
    × (reads xs Front (flat_map hex (replicate (suc k) b) ++ 46 ∷ more) ≡ reads (xs ++ replicate (suc k) b) Front more)
    × (reads xs Front (flat_map hex (replicate (suc k) b) ++ hex_digit d ∷ more) ≡ reads (xs ++ replicate (suc k) b) Front (hex_digit d ∷ more))
short_then b k d xs more small room =
    let fits : length (xs ++ replicate k b) < 4096 = simp (length-append, length-replicate) (omega arith) in
    let whole : (xs ++ replicate k b) ++ b ∷ [] ≡ xs ++ replicate (suc k) b = append_assoc xs (replicate k b) (b ∷ []) ∙ ap (λ ys. xs ++ ys) (replicate_more k b ∙ ap (λ n. replicate n b) (add-one k)) in (
      repeated_again b k xs [] small (omega arith) ∙ rw (le-leb 1 (4096 - length (xs ++ replicate k b)) (omega arith)) (ap Some whole),
      repeated_again b k xs (46 ∷ more) small (omega arith) ∙ rw (le-leb 1 (4096 - length (xs ++ replicate k b)) (omega arith)) (ap (λ ys. reads ys Front more) whole),
      repeated_again b k xs (hex_digit d ∷ more) small (omega arith) ∙ whole_then_hex (xs ++ replicate k b) b d more fits ∙ ap (λ ys. reads ys Front (hex_digit d ∷ more)) whole,
    )

-- a counted run is taken there
pub long_then : (b n : ℕ) (xs more : List ℕ) → b < 256 → length xs + n ≤ 4096 →
    (reads xs Front ((hex b ++ 42 ∷ decimal n) ++ []) ≡ Some (xs ++ replicate n b))
    × (reads xs Front ((hex b ++ 42 ∷ decimal n) ++ 46 ∷ more) ≡ reads (xs ++ replicate n b) Front more)
long_then b n xs more small room = (
  long_again b n xs [] small (omega arith) ∙ rw (le-leb n (4096 - length xs) (omega arith)) refl,
  long_again b n xs (46 ∷ more) small (omega arith) ∙ rw (le-leb n (4096 - length xs) (omega arith)) refl,
)

-- ---- all runs
-- a run's text, plain or counted
abbrev pub text : Bool → ℕ → ℕ → List ℕ
text p b n = cond p (flat_map hex (replicate n b)) (hex b ++ 42 ∷ decimal n)

-- the last run is taken at the end
pub last_again : (p : Bool) (b n : ℕ) (xs : List ℕ) → 0 < n → b < 256 → length xs + n ≤ 4096 → reads xs Front (text p b n ++ []) ≡ Some (xs ++ replicate n b)
last_again p b zero xs some small room = absurd (omega arith)
last_again true b (suc k) xs some small room = (short_then b k 0 xs [] small room).0
last_again false b (suc k) xs some small room = (long_then b (suc k) xs [] small room).0

-- a run before another is taken there
pub joint_again : (p q : Bool) (b n c m : ℕ) (xs tail : List ℕ) → 0 < n → b < 256 → 0 < m → length xs + n ≤ 4096 →
    reads xs Front (text p b n ++ ((cond (p && q) [] (46 ∷ []) ++ text q c m) ++ tail)) ≡ reads (xs ++ replicate n b) Front (text q c m ++ tail)
joint_again p q b zero c m xs tail some small other room = absurd (omega arith)
joint_again p q b (suc k) c zero xs tail some small other room = absurd (omega arith)
joint_again true true b (suc k) c (suc j) xs tail some small other room = (short_then b k (c / 16) xs (hex_digit (c % 16) ∷ (flat_map hex (replicate j c) ++ tail)) small room).2
joint_again true false b (suc k) c (suc j) xs tail some small other room = (short_then b k 0 xs (text false c (suc j) ++ tail) small room).1
joint_again false true b (suc k) c (suc j) xs tail some small other room = (long_then b (suc k) xs (text true c (suc j) ++ tail) small room).1
joint_again false false b (suc k) c (suc j) xs tail some small other room = (long_then b (suc k) xs (text false c (suc j) ++ tail) small room).1

-- runs give their bytes
pub runs_again : (rs : List Run) (r : Run) (xs : List ℕ) → IsRun r → AllByRecursion IsRun rs → length xs + (r.count + length (flat_map bytes_of rs)) ≤ 4096 →
    reads xs Front (run_text r ++ after_run r rs) ≡ Some (xs ++ (bytes_of r ++ flat_map bytes_of rs))
runs_again [] r xs one all room =
    last_again (ltb r.count 4) r.byte r.count xs one.0 one.1 (omega arith)
    ∙ ap (λ ys. Some (xs ++ ys)) (sym (append-nil (bytes_of r)))
runs_again (s ∷ rs) r xs one all room =
    let room_left : length (xs ++ bytes_of r) + (s.count + length (flat_map bytes_of rs)) ≤ 4096 = simp (length-append, length-replicate) (omega (arith, length-append (bytes_of s) (flat_map bytes_of rs), length-replicate s.count s.byte)) in
    joint_again (ltb r.count 4) (ltb s.count 4) r.byte r.count s.byte s.count xs (after_run s rs) one.0 one.1 all.0.0 (omega arith)
    ∙ runs_again rs s (xs ++ bytes_of r) all.0 all.1 room_left
    ∙ ap Some (append_assoc xs (bytes_of r) (bytes_of s ++ flat_map bytes_of rs))

-- ---- bytes and their runs
-- one more byte before runs gives runs
pub onto_runs_are : (x : ℕ) (rs : List Run) → x < 256 → AllByRecursion IsRun rs → AllByRecursion IsRun (onto_runs x rs)
onto_runs_are x [] small all = ((omega arith, small), tt)
onto_runs_are x (r ∷ rs) small all = cond_both (eqb r.byte x) (record { byte = x; count = r.count + 1 } ∷ rs) (record { byte = x; count = 1 } ∷ r ∷ rs) (AllByRecursion IsRun) (λ e. ((omega arith, small), all.1)) (λ e. ((omega arith, small), all))

-- the runs of bytes are runs that data can have
pub runs_are : (xs : List ℕ) → AllByRecursion (λ b. b < 256) xs → AllByRecursion IsRun (runs xs)
runs_are [] all = tt
runs_are (x ∷ xs) all = onto_runs_are x (runs xs) all.0 (runs_are xs all.1)

-- one more byte before runs is one more byte
pub onto_runs_have : (x : ℕ) (rs : List Run) → flat_map bytes_of (onto_runs x rs) ≡ x ∷ flat_map bytes_of rs
onto_runs_have x [] = refl
onto_runs_have x (r ∷ rs) = cond_both (eqb r.byte x) (record { byte = x; count = r.count + 1 } ∷ rs) (record { byte = x; count = 1 } ∷ r ∷ rs) (λ ss. flat_map bytes_of ss ≡ x ∷ (bytes_of r ++ flat_map bytes_of rs)) (λ e. rw (eqb-true r.byte x e, add-one) refl) (λ e. refl)

-- the runs of bytes have those bytes
pub runs_have : (xs : List ℕ) → flat_map bytes_of (runs xs) ≡ xs
runs_have [] = refl
runs_have (x ∷ xs) = onto_runs_have x (runs xs) ∙ ap (λ ys. x ∷ ys) (runs_have xs)

-- ---- the law
-- a run's text is no dash
pub no_dash : (p : Bool) (b n : ℕ) (more : List ℕ) → 0 < n → bytes_eq (text p b n ++ more) (45 ∷ []) ≡ false
no_dash p b zero more some = absurd (omega arith)
no_dash true b (suc k) more some = rw (ne_eqb (hex_digit (b / 16)) 45 (λ e. omega (arith, digit_high (b / 16)))) refl
no_dash false b (suc k) more some = rw (ne_eqb (hex_digit (b / 16)) 45 (λ e. omega (arith, digit_high (b / 16)))) refl

-- the text of runs gives their bytes
pub runs_text_again : (rs : List Run) → AllByRecursion IsRun rs → length (flat_map bytes_of rs) ≤ 4096 → read_data (runs_text rs) ≡ Some (flat_map bytes_of rs)
runs_text_again [] all room = refl
runs_text_again (r ∷ rs) all room =
    let fits : length {A = ℕ} [] + (r.count + length (flat_map bytes_of rs)) ≤ 4096 = omega (arith, length-append (bytes_of r) (flat_map bytes_of rs), length-replicate r.count r.byte) in
    rw (no_dash (ltb r.count 4) r.byte r.count (after_run r rs) all.0.0) (runs_again rs r [] all.0 all.1 fits)

-- a spelling gives its bytes
pub data_again : (bytes : List ℕ) → IsData bytes → read_data (spelling bytes) ≡ Some bytes
data_again bytes is =
    runs_text_again (runs bytes) (runs_are bytes (recursion_from_All (λ b. b < 256) bytes is.are_bytes)) (rw (runs_have bytes) is.few) ∙ ap Some (runs_have bytes)

-- two lists with one spelling are one list
pub same_data : (a b : List ℕ) → IsData a → IsData b → spelling a ≡ spelling b → a ≡ b
same_data a b is_a is_b same = same_Some a b (sym (data_again a is_a) ∙ ap read_data same ∙ data_again b is_b)
