-- Runs of equal bytes.
use Rattle.std.proofs.Common.{ap, ap₂, append-nil, append_assoc, cond, nat_eq, take, take-append-drop, ◌∙◌, Bool, List, [], arith, drop, eqb, false, get_or, length, one-add, refl, suc, sym, subst, replicate, zero, ◌++◌, add-one, true, ℕ, ◌+◌, ◌-◌, ◌<◌, ◌≡◌, ◌≤◌, ◌∷◌}
use Rattle.std.proofs.lemmas.Bool.{eq-eqb, eqb-true, false≢true}
use Rattle.std.proofs.lemmas.Grind.{common_steps}
use Rattle.std.proofs.lemmas.List.Concat.{flat_map-append}
use Rattle.std.proofs.lemmas.List.{length-take-le, replicate_more}
use Rattle.std.proofs.lemmas.List.Folds.{prefix_len-append, prefix_len-replicate}
use Rattle.std.specs.Cmp.Lexicographic.{pointwise, same_text}
use Rattle.std.specs.List.{flat_map, prefix_len}
use Rattle.xt_text.specs.DataText.{grown, hex, onto_runs, run_text, runs, runs_text, spelling}
use Rattle.xt_text.specs.declared.data_text.Run.{Run}

-- the run of x at the front of some bytes
abbrev pub front_run : ℕ → List ℕ → Run
front_run x bytes = record { byte = x; count = prefix_len (λ y. eqb y x) bytes }

-- what is said of the first run of some bytes that begin with x
abbrev pub IsFirst : ℕ → List ℕ → Type 0
IsFirst x xs = runs (x ∷ xs) ≡ front_run x (x ∷ xs) ∷ runs (drop (prefix_len (λ y. eqb y x) (x ∷ xs)) (x ∷ xs))

-- one more of the same byte before it
pub same_before : (x : ℕ) (xs : List ℕ) → IsFirst x xs → IsFirst x (x ∷ xs)
same_before x xs first = rw (first, eq-eqb x x refl, one-add, one-add, add-one) refl

-- another byte before it
pub other_before : (x y : ℕ) (ys : List ℕ) → eqb y x ≡ false → IsFirst y ys → IsFirst x (y ∷ ys)
other_before x y ys other first = rw (eq-eqb x x refl, other, first, other) refl

-- any byte before it
pub any_before : (x y : ℕ) (ys : List ℕ) (b : Bool) → eqb y x ≡ b → IsFirst y ys → IsFirst x (y ∷ ys)
any_before x y ys true same first = subst (λ (z : ℕ). IsFirst z ys → IsFirst x (z ∷ ys)) (sym (eqb-true y x same)) (same_before x ys) first
any_before x y ys false other first = other_before x y ys other first

-- the first run is that of the first byte, and the other runs are those of the bytes behind it
pub first_of : (x : ℕ) (xs : List ℕ) → IsFirst x xs
first_of x [] = rw (eq-eqb x x refl) refl
first_of x (y ∷ ys) = any_before x y ys (eqb y x) refl (first_of y ys)

-- the same where the first byte is read from the list
pub runs_first : (bytes : List ℕ) → 0 < length bytes → runs bytes ≡ front_run (get_or bytes 0 0) bytes ∷ runs (drop (prefix_len (λ y. eqb y (get_or bytes 0 0)) bytes) bytes)
runs_first [] some = absurd (omega arith)
runs_first (y ∷ ys) some = first_of y ys

-- it has at least one byte
pub first_count : (bytes : List ℕ) → 0 < length bytes → 0 < prefix_len (λ y. eqb y (get_or bytes 0 0)) bytes
first_count [] some = absurd (omega arith)
first_count (y ∷ ys) some = rw (eq-eqb y y refl) (omega arith)

-- the digits of a byte repeated once more
pub hex_more : (byte n : ℕ) → flat_map hex (replicate (n + 1) byte) ≡ flat_map hex (replicate n byte) ++ hex byte
hex_more byte n = rw (← replicate_more n byte, flat_map-append hex (replicate n byte) (byte ∷ [])) refl

-- a block of equal bytes at the front counts whole
pub block_more : (byte : ℕ) (block rest after : List ℕ) → rest ≡ block ++ after → block ≡ replicate 128 byte → prefix_len (λ x. eqb x byte) rest ≡ 128 + prefix_len (λ x. eqb x byte) after
block_more byte block rest after is all =
    ap (λ xs. prefix_len (λ x. eqb x byte) xs) (is ∙ ap (λ b. b ++ after) all)
    ∙ prefix_len-append (λ x. eqb x byte) (replicate 128 byte) after
    ∙ ap (λ n. cond (eqb n 128) (128 + prefix_len (λ x. eqb x byte) after) n) (prefix_len-replicate (λ x. eqb x byte) 128 byte (eq-eqb byte byte refl))

-- what starts with a block
pub block_front : (block bytes after : List ℕ) → pointwise nat_eq (take (length block) bytes) block ≡ true → after ≡ drop (length block) bytes → bytes ≡ block ++ after
block_front block bytes after same rest = sym (take-append-drop (length block) bytes) ∙ ap₂ (λ a b. a ++ b) (same_text (take (length block) bytes) block (sym same)) (sym rest)

-- a byte that stands so many times is one run
pub one_run : (x n : ℕ) → runs (x ∷ replicate n x) ≡ record { byte = x; count = n + 1 } ∷ []
one_run x zero = refl
one_run x (suc n) = rw (one_run x n, eq-eqb x x refl, add-one, add-one, add-one) refl

-- and its spelling is that of the run
pub spelling_of_run : (x n : ℕ) → nat_eq n 0 ≡ false → spelling (replicate n x) ≡ run_text (record { byte = x; count = n })
spelling_of_run x zero none = absurd (false≢true (sym none))
spelling_of_run x (suc n) some = ap runs_text (one_run x n) ∙ append-nil (run_text (record { byte = x; count = n + 1 })) ∙ ap (λ k. run_text (record { byte = x; count = k })) (add-one n)

-- ---- runs that grow
-- runs that grow by nothing
pub grown_none : (place : ℕ) (rs : List Run) → grown place 0 rs ≡ rs
grown_none place [] = refl
grown_none place (r ∷ rs) = grind (arith, common_steps, grown_none (place - r.count) rs)

-- one more byte before them
pub onto_grown : (x place more : ℕ) (rs : List Run) → onto_runs x (grown place more rs) ≡ grown (1 + place) more (onto_runs x rs)
onto_grown x place more [] = grind (arith, common_steps)
onto_grown x place more (r ∷ rs) = grind (arith, common_steps)

-- one more of the same byte at the front
pub front_grown : (x more : ℕ) (rs : List Run) → onto_runs x (grown 0 more (onto_runs x rs)) ≡ grown 0 (more + 1) (onto_runs x rs)
front_grown x more [] = grind (arith, common_steps)
front_grown x more (r ∷ rs) = grind (arith, common_steps)

-- the runs of bytes of which the first stands more often
pub front_runs : (b more : ℕ) (c : List ℕ) → runs (replicate (suc more) b ++ c) ≡ grown 0 more (runs (b ∷ c))
front_runs b zero c = sym (grown_none 0 (runs (b ∷ c)))
front_runs b (suc more) c = ap (λ rs. onto_runs b rs) (front_runs b more c) ∙ front_grown b more (runs c) ∙ ap (λ n. grown 0 n (runs (b ∷ c))) (add-one more)

-- the runs of bytes of which one stands more often
pub grown_runs : (a : List ℕ) (b more : ℕ) (c : List ℕ) → runs (a ++ replicate (more + 1) b ++ c) ≡ grown (length a) more (runs (a ++ b ∷ c))
grown_runs [] b more c = ap (λ n. runs (replicate n b ++ c)) (add-one more) ∙ front_runs b more c
grown_runs (x ∷ a) b more c = ap (λ rs. onto_runs x rs) (grown_runs a b more c) ∙ onto_grown x (length a) more (runs (a ++ b ∷ c)) ∙ ap (λ n. grown n more (onto_runs x (runs (a ++ b ∷ c)))) (one-add (length a))

-- the spelling of bytes of which one stands more often
pub grown_spelling : (first count byte : ℕ) (bytes : List ℕ) → first ≤ length bytes → 0 < count →
    runs_text (grown first (count - 1) (runs (take first bytes ++ replicate 1 byte ++ drop first bytes))) ≡ spelling (take first bytes ++ replicate count byte ++ drop first bytes)
grown_spelling first count byte bytes within some =
    let front : length (take first bytes) ≡ first = length-take-le first bytes within in
    let all : count - 1 + 1 ≡ count = omega (arith, some) in
    sym (ap runs_text (
    ap (λ n. runs (take first bytes ++ replicate n byte ++ drop first bytes)) (sym all)
    ∙ grown_runs (take first bytes) byte (count - 1) (drop first bytes)
    ∙ ap (λ n. grown n (count - 1) (runs (take first bytes ++ byte ∷ drop first bytes))) front
    ∙ ap (λ all. grown first (count - 1) (runs all)) (sym (append_assoc (take first bytes) (byte ∷ []) (drop first bytes)))))
