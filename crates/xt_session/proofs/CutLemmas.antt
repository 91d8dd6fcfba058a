-- Texts cut into lines, one after another.
use Rattle.std.proofs.Common.{Bool, List, [], add-one, ap, ap₂, arith, cond, false, le_of_suc-le-suc, length, not-suc-le-zero, one-add, refl, subst, suc, sym, take, drop, true, ℕ, ◌++◌, ◌+◌, ◌-◌, ◌<◌, ◌≡◌, ◌≤◌, ◌∙◌, ◌∷◌, length-append}
use Rattle.std.proofs.Math.Seq.{drop-append_seam}
use Rattle.std.proofs.lemmas.List.{take_rest}
use Rattle.std.specs.List.{AllByRecursion}
use Rattle.std.specs.Prelude.{not, ◌==◌}
use Rattle.xt_session.specs.Cut.{Cut, byte_before, cut, line_end}
use Rattle.xt_session.specs.Turns.{IsFirst}

-- what a byte in front makes of a text that is cut, by whether it is a newline
abbrev pub front : Bool → ℕ → List (List ℕ) → List ℕ → Cut
front true b lines rest = record { lines = [] ∷ lines; rest = rest }
front false b lines rest = byte_before b lines rest

-- the same, in the words of a definition by a test
abbrev pub front_by : Bool → ℕ → List (List ℕ) → List ℕ → Cut
front_by t b lines rest = cond t (record { lines = [] ∷ lines; rest = rest }) (byte_before b lines rest)

-- ---- more behind
-- a text that is cut, with more behind it
abbrev pub cut_with : List (List ℕ) → List ℕ → List ℕ → Cut
cut_with lines rest more = record { lines = lines ++ (cut (rest ++ more)).lines; rest = (cut (rest ++ more)).rest }

-- a byte in front of a text that is cut, with more behind it
byte_with : (b : ℕ) (lines : List (List ℕ)) (rest more : List ℕ) → (b == 10) ≡ false → byte_before b (cut_with lines rest more).lines (cut_with lines rest more).rest ≡ cut_with (byte_before b lines rest).lines (byte_before b lines rest).rest more
byte_with b [] rest more other = rw other refl
byte_with b (line ∷ lines) rest more other = refl

-- one step of the same
step_with : (t : Bool) (b : ℕ) (lines : List (List ℕ)) (rest more : List ℕ) → (b == 10) ≡ t → front_by t b (cut_with lines rest more).lines (cut_with lines rest more).rest ≡ cut_with (front_by t b lines rest).lines (front_by t b lines rest).rest more
step_with true b lines rest more is = refl
step_with false b lines rest more other = byte_with b lines rest more other

-- a text with more behind it is cut where it was cut, and behind that
pub cut_append : (text more : List ℕ) → cut (text ++ more) ≡ cut_with (cut text).lines (cut text).rest more
cut_append [] more = refl
cut_append (b ∷ text) more = ap (λ c. front_by (b == 10) b c.lines c.rest) (cut_append text more) ∙ step_with (b == 10) b (cut text).lines (cut text).rest more refl

-- ---- texts without a newline
-- one step of the next
plain_front : (t : Bool) (b : ℕ) (lines : List (List ℕ)) (rest text : List ℕ) → (lines ≡ [] → rest ≡ text) → (front_by t b lines rest).lines ≡ [] → (front_by t b lines rest).rest ≡ b ∷ text
plain_front true b lines rest text same none = cc
plain_front false b [] rest text same none = ap (λ r. b ∷ r) (same refl)
plain_front false b (line ∷ lines) rest text same none = cc

-- a text that has no line that ends is what stands behind the last newline
pub plain_rest : (text : List ℕ) → (cut text).lines ≡ [] → (cut text).rest ≡ text
plain_rest [] none = refl
plain_rest (b ∷ text) none = plain_front (b == 10) b (cut text).lines (cut text).rest text (plain_rest text) none

-- one step of the next
plain_more : (t : Bool) (b : ℕ) (lines all : List (List ℕ)) (rest end : List ℕ) → (lines ≡ [] → all ≡ []) → (front_by t b lines rest).lines ≡ [] → (front_by t b all end).lines ≡ []
plain_more true b lines all rest end same none = cc
plain_more false b [] all rest end same none = ap (λ a. (byte_before b a end).lines) (same refl)
plain_more false b (line ∷ lines) all rest end same none = cc

-- two texts without a newline are one
pub plain_append : (text more : List ℕ) → (cut text).lines ≡ [] → (cut more).lines ≡ [] → (cut (text ++ more)).lines ≡ []
plain_append [] more none last = last
plain_append (b ∷ text) more none last = plain_more (b == 10) b (cut text).lines (cut (text ++ more)).lines (cut text).rest (cut (text ++ more)).rest (λ first. plain_append text more first last) none

-- one step of the next
rest_front : (t : Bool) (b : ℕ) (lines : List (List ℕ)) (rest : List ℕ) → (b == 10) ≡ t → (cut rest).lines ≡ [] → (cut (front_by t b lines rest).rest).lines ≡ []
rest_front true b lines rest is none = none
rest_front false b [] rest other none = rw other (ap (λ a. (byte_before b a (cut rest).rest).lines) none)
rest_front false b (line ∷ lines) rest other none = none

-- what stands behind the last newline has none
pub rest_plain : (text : List ℕ) → (cut (cut text).rest).lines ≡ []
rest_plain [] = refl
rest_plain (b ∷ text) = rest_front (b == 10) b (cut text).lines (cut text).rest refl (rest_plain text)

-- ---- the first line
-- one step of the next
first_front : (t : Bool) (b m k : ℕ) (text : List ℕ) → m ≡ suc k → cond (not t) m 0 < suc (length text) → (k < length text → IsFirst text (take k text) (drop (suc k) text)) → ((front_by t b (cut text).lines (cut text).rest).lines ≡ take (cond (not t) m 0) (b ∷ text) ∷ (cut (drop (suc (cond (not t) m 0)) (b ∷ text))).lines) × ((front_by t b (cut text).lines (cut text).rest).rest ≡ (cut (drop (suc (cond (not t) m 0)) (b ∷ text))).rest)
first_front true b m k text one less first = (refl, refl)
first_front false b m k text one less first =
    let f = first (le_of_suc-le-suc (subst (λ n. n < suc (length text)) one less)) in
    let c = ap (λ a. byte_before b a (cut text).rest) f.lines in
    subst (λ n. ((byte_before b (cut text).lines (cut text).rest).lines ≡ take n (b ∷ text) ∷ (cut (drop (suc n) (b ∷ text))).lines) × ((byte_before b (cut text).lines (cut text).rest).rest ≡ (cut (drop (suc n) (b ∷ text))).rest)) (sym one) (ap (λ d. d.lines) c, ap (λ d. d.rest) c ∙ f.same)

-- a text up to its first newline is its first line
first_of_text : (text : List ℕ) → line_end text < length text → IsFirst text (take (line_end text) text) (drop (suc (line_end text)) text)
first_of_text [] less = absurd (not-suc-le-zero less)
first_of_text (b ∷ text) less =
    let f = first_front (b == 10) b (1 + line_end text) (line_end text) text (one-add (line_end text)) less (first_of_text text) in
    record { lines = f.0; same = f.1 }

-- the same at a place
first_there : (text : List ℕ) (at : ℕ) → at ≡ line_end text → at < length text → IsFirst text (take at text) (drop (at + 1) text)
first_there text at is less = subst (λ n. IsFirst text (take at text) (drop n text)) (sym (add-one at)) (subst (λ n. IsFirst text (take n text) (drop (suc n) text)) (sym is) (first_of_text text (subst (λ n. n < length text) is less)))

-- the same, in the words of a slice
pub first_at : (text : List ℕ) (at : ℕ) → at ≡ line_end text → at < length text → IsFirst text (take at text) (take (length text - (at + 1)) (drop (at + 1) text))
first_at text at is less = subst (λ after. IsFirst text (take at text) after) (sym (take_rest text (at + 1))) (first_there text at is less)

-- one step of the next
none_front : (t : Bool) (b m k : ℕ) (text : List ℕ) (lines : List (List ℕ)) (rest : List ℕ) → m ≡ suc k → suc (length text) ≤ cond (not t) m 0 → (length text ≤ k → lines ≡ []) → (front_by t b lines rest).lines ≡ []
none_front true b m k text lines rest one long none = absurd (not-suc-le-zero long)
none_front false b m k text lines rest one long none = ap (λ a. (byte_before b a rest).lines) (none (le_of_suc-le-suc (subst (λ n. suc (length text) ≤ n) one long)))

-- a text in which no newline was found has no line that ends
pub none_ends : (text : List ℕ) → length text ≤ line_end text → (cut text).lines ≡ []
none_ends [] long = refl
none_ends (b ∷ text) long = none_front (b == 10) b (1 + line_end text) (line_end text) text (cut text).lines (cut text).rest (one-add (line_end text)) long (none_ends text)

-- the same at a place
pub none_at : (text : List ℕ) (at : ℕ) → at ≡ line_end text → length text ≤ at → (cut text).lines ≡ []
none_at text at is long = none_ends text (subst (λ n. length text ≤ n) is long)

-- ---- lengths
-- one step of the next
counted_front : (t : Bool) (b n : ℕ) (lines : List (List ℕ)) (rest : List ℕ) → length lines + length rest ≤ n → length (front_by t b lines rest).lines + length (front_by t b lines rest).rest ≤ suc n
counted_front true b n lines rest few = omega arith
counted_front false b n [] rest few = omega arith
counted_front false b n (line ∷ lines) rest few = omega arith

-- each line takes a byte at least, its newline
pub counted : (text : List ℕ) → length (cut text).lines + length (cut text).rest ≤ length text
counted [] = omega arith
counted (b ∷ text) = counted_front (b == 10) b (length text) (cut text).lines (cut text).rest (counted text)

-- lines shorter than a length are shorter than the next
longer : (n : ℕ) (lines : List (List ℕ)) → AllByRecursion (λ line. length line < n) lines → AllByRecursion (λ line. length line < suc n) lines
longer n [] are = tt
longer n (line ∷ lines) are = (omega (arith, are.0), longer n lines are.1)

-- one step of the next
short_front : (t : Bool) (b n : ℕ) (lines : List (List ℕ)) (rest : List ℕ) → AllByRecursion (λ line. length line < n) lines → AllByRecursion (λ line. length line < suc n) (front_by t b lines rest).lines
short_front true b n lines rest are = (omega arith, longer n lines are)
short_front false b n [] rest are = tt
short_front false b n (line ∷ lines) rest are = (omega (arith, are.0), longer n lines are.1)

-- a line is shorter than its text
pub shorter : (text : List ℕ) → AllByRecursion (λ line. length line < length text) (cut text).lines
shorter [] = tt
shorter (b ∷ text) = short_front (b == 10) b (length text) (cut text).lines (cut text).rest (shorter text)

-- ---- the end of a text
-- one step of the next
ends_front : (t : Bool) (b : ℕ) (lines : List (List ℕ)) (rest text : List ℕ) → (lines ≡ [] → rest ≡ text) → (start : List ℕ) × (text ≡ start ++ rest) → (start : List ℕ) × (b ∷ text ≡ start ++ (front_by t b lines rest).rest)
ends_front true b lines rest text same parts = (b ∷ parts.0, ap (λ x. b ∷ x) parts.1)
ends_front false b [] rest text same parts = ([], ap (λ x. b ∷ x) (sym (same refl)))
ends_front false b (line ∷ lines) rest text same parts = (b ∷ parts.0, ap (λ x. b ∷ x) parts.1)

-- a text ends with what stands behind its last newline
pub ends_with : (text : List ℕ) → (start : List ℕ) × (text ≡ start ++ (cut text).rest)
ends_with [] = ([], refl)
ends_with (b ∷ text) = ends_front (b == 10) b (cut text).lines (cut text).rest text (plain_rest text) (ends_with text)

-- the last bytes of a text
end_of : (text start rest : List ℕ) → text ≡ start ++ rest → drop (length text - length rest) text ≡ rest
end_of text start rest is =
    let front_long : length text - length rest ≡ length start = omega (arith, ap length is, length-append start rest) in
    ap₂ drop front_long is ∙ drop-append_seam start rest

-- as many as stand behind the last newline are these
pub last_bytes : (text : List ℕ) → drop (length text - length (cut text).rest) text ≡ (cut text).rest
last_bytes text = let parts = ends_with text in end_of text parts.0 (cut text).rest parts.1
