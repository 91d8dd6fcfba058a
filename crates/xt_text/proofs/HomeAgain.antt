-- The answers to a flush, read, give themselves back.
use Rattle.std.proofs.Common.{Bool, List, None, Some, [], ap, ap₂, append-nil, arith, drop, false, length, length-append, refl, replicate, suc, sym, take, true, zero, ℕ, ◌++◌, ◌+◌, ◌-◌, ◌<◌, ◌∙◌, ◌≡◌, ◌≤◌, ◌∷◌, ◌⊎◌, inl, inr}
use Rattle.std.specs.Prelude.{slice_index_or}
use Rattle.std.proofs.lemmas.Bool.{le-leb, lt-leb, ne_eqb}
use Rattle.std.proofs.lemmas.List.{length-replicate, length-take-le, take-append-drop}
use Rattle.std.proofs.Math.Seq.{get_or-append_seam, take-append_seam, drop-append_seam}
use Rattle.xt_base.specs.Jobs.{write_answers}
use Rattle.xt_base.specs.declared.names.JobName.{JobName}
use Rattle.xt_base.specs.declared.steps.HomeAnswers.{HomeAnswers}
use Rattle.xt_text.proofs.WordsAgain.{before_joined, before_whole, behind_joined, behind_whole, name_lacks}
use Rattle.xt_text.specs.HomeReading.{flush_answers, given, home_of, named}
use Rattle.xt_text.specs.LineReading.{before, behind}
use Rattle.xt_text.specs.Lines.{IsHomeAnswers, IsName, home_text, name_text, ok_text, oks_text}

-- the text of answers names them
pub named_text : (oks : List Bool) (sync : Bool) → named (oks_text oks ++ 32 ∷ ok_text sync) ≡ oks ++ sync ∷ []
named_text [] true = refl
named_text [] false = refl
named_text (true ∷ oks) sync = ap (λ xs. true ∷ xs) (named_text oks sync)
named_text (false ∷ oks) sync = ap (λ xs. false ∷ xs) (named_text oks sync)

-- some answers and one more, where those are 1 to 8
pub flush_by : (oks : List Bool) (count : ℕ) → length oks ≡ count + 1 → 1 ≤ count → count ≤ 8 → flush_answers oks ≡ Some (given (take count oks) (slice_index_or oks count false))
flush_by oks count e some few =
    let less : length oks - 1 ≡ count = omega arith in
    rw (less, ne_eqb (length oks) 0 (λ none. omega arith), le-leb 1 count some, le-leb count 8 few) refl

-- answers to 1 to 8 writes and to the sync are those to a flush
pub flush_given : (oks writes : List Bool) (sync : Bool) → oks ≡ writes ++ sync ∷ [] → 1 ≤ length writes → length writes ≤ 8 → flush_answers oks ≡ Some (given writes sync)
flush_given oks writes sync e some few =
    ap flush_answers e
    ∙ flush_by (writes ++ sync ∷ []) (length writes) (length-append writes (sync ∷ [])) some few
    ∙ ap₂ (λ ws s. Some (given ws s)) (take-append_seam writes (sync ∷ [])) (get_or-append_seam writes sync [] false)

-- other answers, where there are some, are none
pub flush_none : (oks : List Bool) (count : ℕ) → length oks ≡ count + 1 → (count ≡ 0) ⊎ (8 < count) → flush_answers oks ≡ None
flush_none oks count e (inl none) =
    let less : length oks - 1 ≡ 0 = omega arith in
    rw (less, ne_eqb (length oks) 0 (λ zero. omega arith)) refl
flush_none oks count e (inr many) =
    let less : length oks - 1 ≡ count = omega arith in
    rw (less, ne_eqb (length oks) 0 (λ zero. omega arith), le-leb 1 count (omega arith), lt-leb count 8 many) refl

-- the same of answers and the last of them
pub flush_other : (oks writes : List Bool) (sync : Bool) → oks ≡ writes ++ sync ∷ [] → (length writes ≡ 0) ⊎ (8 < length writes) → flush_answers oks ≡ None
flush_other oks writes sync e other = flush_none oks (length writes) (ap length e ∙ length-append writes (sync ∷ [])) other

-- answers to at most 8 writes have what their types have
pub given_is : (writes : List Bool) (sync : Bool) → length writes ≤ 8 → (length writes ≡ 0 → sync ≡ false) → IsHomeAnswers (given writes sync)
given_is writes sync few unasked = record {
  eight = omega (arith, length-append writes (replicate (8 - length writes) false), length-replicate (8 - length writes) false);
  few = few;
  unused = drop-append_seam writes (replicate (8 - length writes) false);
  unasked = unasked;
}

-- answers are made of those to their writes and to the sync
pub given_again : (answers : HomeAnswers) → IsHomeAnswers answers → given (write_answers answers) answers.sync ≡ answers
given_again answers is =
    let count = length-take-le answers.count answers.writes (omega (arith, is.eight, is.few)) in
    let behind : replicate (8 - length (write_answers answers)) false ≡ drop answers.count answers.writes = ap (λ n. replicate (8 - n) false) count ∙ sym is.unused in
    ap₂ (λ n ws. record { count = n; writes = ws; sync = answers.sync }) count (ap (λ rest. write_answers answers ++ rest) behind ∙ take-append-drop answers.count answers.writes)

-- a name and the answers behind it give the name, and the answers
pub home_again_at : (name : JobName) (count : ℕ) (writes : List Bool) (sync : Bool) → IsName name → IsHomeAnswers (record { count = count; writes = writes; sync = sync }) →
    let answers : HomeAnswers = record { count = count; writes = writes; sync = sync } in
    (before 32 (name_text name ++ home_text answers) ≡ name_text name) × (home_of (behind 32 (name_text name ++ home_text answers)) ≡ Some answers)
unfolding home_of
home_again_at name zero writes sync is_name is =
    let lacks = name_lacks name is_name in
    rw (append-nil (name_text name), behind_whole 32 (name_text name) lacks)
    (before_whole 32 (name_text name) lacks, ap₂ (λ ws s. Some (record { count = 0; writes = ws; sync = s })) (sym is.unused) (sym (is.unasked refl)))
home_again_at name (suc n) [] sync is_name is = absurd (omega (arith, is.eight))
home_again_at name (suc n) (ok ∷ writes) sync is_name is =
    let answers : HomeAnswers = record { count = suc n; writes = ok ∷ writes; sync = sync } in
    let lacks = name_lacks name is_name in
    let tail = (ok_text ok ++ oks_text (take n writes)) ++ 32 ∷ ok_text sync in
    let count : length (ok ∷ take n writes) ≡ suc n = length-take-le (suc n) (ok ∷ writes) (omega (arith, is.eight, is.few)) in
    let text : home_text answers ≡ 32 ∷ tail = rw (ne_eqb (suc n) 0 (λ e. omega arith)) refl in (
      ap (λ t. before 32 (name_text name ++ t)) text ∙ before_joined 32 (name_text name) tail lacks,
      ap (λ t. home_of (behind 32 (name_text name ++ t))) text
          ∙ ap home_of (behind_joined 32 (name_text name) tail lacks)
          ∙ ap flush_answers (named_text (ok ∷ take n writes) sync)
          ∙ flush_given _ (ok ∷ take n writes) sync refl (omega (arith, count)) (omega (arith, count, is.few))
          ∙ ap Some (given_again answers is),
    )

-- the same of any answers
pub home_again : (name : JobName) (answers : HomeAnswers) → IsName name → IsHomeAnswers answers →
    (before 32 (name_text name ++ home_text answers) ≡ name_text name) × (home_of (behind 32 (name_text name ++ home_text answers)) ≡ Some answers)
home_again name answers is_name is = home_again_at name answers.count answers.writes answers.sync is_name is
