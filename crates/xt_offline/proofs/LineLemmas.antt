-- Where the first line of a text ends.
use Rattle.std.proofs.Common.{Bool, Option, Some, None, List, arith, false, length, refl, sym, ap, subst, true, ℕ, ◌≡◌, ◌≤◌}
use Rattle.std.proofs.lemmas.List.Sums.{prefix_len_is, prefix_len-le-length}
use Rattle.std.specs.Prelude.{not, slice_index, unwrap_or, ◌==◌}
use Rattle.xt_offline.proofs.ScriptLemmas.{line_end}
use Rattle.memchr.specs.Find.{IsFirstByte, is_byte}

-- what a search for the first newline finds, or the length where it finds none
pub found_end : (text : List ℕ) (found : Option ℕ) → IsFirstByte (is_byte 10) text found → unwrap_or found (length text) ≡ line_end text
found_end text None none = sym (prefix_len_is (λ b. not (b == 10)) text (length text) 0 (omega arith) (λ k less. other (slice_index text k == 10) (none k (omega arith) less)) (λ less. absurd (omega arith)))
  where
    other : (b : Bool) → ¬ (b ≡ true) → not b ≡ true
    other true is = absurd (is refl)
    other false is = refl
found_end text (Some at) first = sym (prefix_len_is (λ b. not (b == 10)) text at 0 (omega (arith, first.0.high)) (λ k less. other (slice_index text k == 10) (first.0.before k (omega arith) less)) (λ less. ap not first.1))
  where
    other : (b : Bool) → ¬ (b ≡ true) → not b ≡ true
    other true is = absurd (is refl)
    other false is = refl

-- it is at most the length
pub end_within : (text : List ℕ) (len : ℕ) → len ≡ line_end text → len ≤ length text
end_within text len is = subst (λ n. n ≤ length text) (sym is) (prefix_len-le-length (λ b. not (b == 10)) text)
