-- Each kind of step keeps the rule of the board.
use Rattle.std.proofs.Common.{arith, ap, length, max, refl, replicate, set, subst, suc, sym, zero, List, [], inl, inr, ⊎_elim, ℕ, ◌+◌, ◌<◌, ◌∙◌, ◌≡◌, ◌≢◌, ◌≤◌, ◌∷◌}
use Rattle.std.proofs.lemmas.List.{get_or-set_other, get_or-set_same, length-set}
use Rattle.atomic_table.proofs.Lists.{at_longer, at_set, at_snoc, set_else, set_here}
use Rattle.atomic_table.specs.Table.{Act, Allows, Me, Splits, State}
use Rattle.std.specs.Prelude.{slice_index}
use Rattle.xt_queue.specs.Boards.{BoardRule, Fits, Peeks, Rises, Shows, WasShown, blank_words, board_view, with_seen, with_shown, with_split}
use Rattle.xt_queue.specs.Words.{IsWord}
use Rattle.xt_queue.specs.declared.views.BoardView.{BoardView}
use lib.ListN.{get_elem?}
use mathlib.Core.Logic.{dite}
use mathlib.Core.Option.{some, some-injective, some-ne-none}
use native.Mathlib.Decide.{dec_le, ℕ_discrete}

-- a number of a list that grows leaves none lower
set_rises : (numbers : List ℕ) (slot new : ℕ) → slot < length numbers → slice_index numbers slot ≤ new → Rises numbers (set numbers slot new)
set_rises numbers slot new within grows j = dite (ℕ_discrete j slot)
    (λ here. rw here (rw (get_or-set_same numbers slot new 0 within) grows))
    (λ apart. rw (get_or-set_other numbers slot j new 0 apart) (omega arith))

-- a number of each of two lists is set, and the order stays
both_set : (low high : List ℕ) (slot l h : ℕ) → slot < length low → slot < length high → Rises low high → l ≤ h → Rises (set low slot l) (set high slot h)
both_set low high slot l h in_low in_high rises below j = dite (ℕ_discrete j slot)
    (λ here. rw here (rw (get_or-set_same low slot l 0 in_low, get_or-set_same high slot h 0 in_high) below))
    (λ apart. rw (get_or-set_other low slot j l 0 apart, get_or-set_other high slot j h 0 apart) (rises j))

-- the place of a view lies among them
at_within : (views : List BoardView) (place : ℕ) (v : BoardView) → get_elem? views place ≡ some v → place < length views
at_within [] place v at = absurd (some-ne-none v (sym at))
at_within (u ∷ us) zero v at = omega arith
at_within (u ∷ us) (suc place) v at = let h = at_within us place v at in omega arith

-- a view that fits also fits higher words
fits_higher : (words higher : List ℕ) (v : BoardView) → Rises words higher → Fits words v → Fits higher v
fits_higher words higher v rises fits = record {
  shown_count = fits.shown_count;
  seen_count = fits.seen_count;
  shown_seen = fits.shown_seen;
  seen_word = λ j. (let a = fits.seen_word j in let b = rises j in omega arith);
}

-- a word that was shown still is, where the seat that steps shows no less of it
still_shown : (words after : List ℕ) (views : List BoardView) (place j : ℕ) (v w : BoardView) → get_elem? views place ≡ some v → slice_index after j ≡ slice_index words j → (slice_index v.shown j ≡ slice_index words j → slice_index w.shown j ≡ slice_index after j) → WasShown words views j → WasShown after (set views place w) j
still_shown words after views place j v w at same own (inl none) = inl (same ∙ none)
still_shown words after views place j v w at same own (inr by) = dite (ℕ_discrete by.0 place)
    (λ here.
    let is : by.1 ≡ v = some-injective by.1 v (sym by.2 ∙ ap (get_elem? views) here ∙ at) in
    inr (place, w, set_here views place w (at_within views place v at), own (ap (λ (u : BoardView). slice_index u.shown j) (sym is) ∙ by.3)))
    (λ apart. inr (by.0, by.1, set_else views place by.0 w apart ∙ by.2, by.3 ∙ sym same))

-- the rule after a step that lets no word go down
stepped_rule : (words : List ℕ) (views : List BoardView) (place slot new : ℕ) (v w : BoardView) → slot < 16 → get_elem? views place ≡ some v → BoardRule words views → slice_index words slot ≤ new → IsWord new → Fits (set words slot new) w → ((j : ℕ) → j ≢ slot → slice_index w.shown j ≡ slice_index v.shown j) → WasShown (set words slot new) (set views place w) slot → BoardRule (set words slot new) (set views place w)
stepped_rule words views place slot new v w below at rule grows word fits others mine =
    let within : slot < length words = (let n = rule.count in omega arith) in
    let after : List ℕ = set words slot new in
    record {
      count = length-set words slot new ∙ rule.count;
      fits = λ k u there. ⊎_elim
          (λ (x : (k ≡ place) × (w ≡ u)). subst (Fits after) x.1 fits)
          (λ (x : (k ≢ place) × (get_elem? views k ≡ some u)). fits_higher words after u (set_rises words slot new within grows) (rule.fits k u x.1))
          (at_set views place k w u there);
      formed = λ j. dite (ℕ_discrete j slot)
          (λ here. subst IsWord (sym (ap (slice_index after) here ∙ get_or-set_same words slot new 0 within)) word)
          (λ apart. subst IsWord (sym (get_or-set_other words slot j new 0 apart)) (rule.formed j));
      was_shown = λ j. dite (ℕ_discrete j slot)
          (λ here. subst (WasShown after (set views place w)) (sym here) mine)
          (λ apart.
          let same : slice_index after j ≡ slice_index words j = get_or-set_other words slot j new 0 apart in
          still_shown words after views place j v w at same (λ e. others j apart ∙ e ∙ sym same) (rule.was_shown j));
    }

-- the rule after a look
peeked_rule : (words : List ℕ) (views : List BoardView) (place slot : ℕ) (v : BoardView) → slot < 16 → get_elem? views place ≡ some v → BoardRule words views → BoardRule (set words slot (slice_index words slot)) (set views place (with_seen v slot (slice_index words slot)))
peeked_rule words views place slot v below at rule =
    let found : ℕ = slice_index words slot in
    let w : BoardView = with_seen v slot found in
    let fits = rule.fits place v at in
    let in_seen : slot < length v.seen = (let n = fits.seen_count in omega arith) in
    let in_words : slot < length words = (let n = rule.count in omega arith) in
    let higher = set_rises v.seen slot found in_seen (fits.seen_word slot) in
    let here : slice_index (set words slot found) slot ≡ found = get_or-set_same words slot found 0 in_words in
    stepped_rule words views place slot found v w below at rule (omega arith) (rule.formed slot)
    (record {
      shown_count = fits.shown_count;
      seen_count = length-set v.seen slot found ∙ fits.seen_count;
      shown_seen = λ j. (let a = fits.shown_seen j in let b = higher j in omega arith);
      seen_word = both_set v.seen words slot found found in_seen in_words fits.seen_word (omega arith);
    })
    (λ j apart. refl)
    (still_shown words (set words slot found) views place slot v w at here (λ e. e ∙ sym here) (rule.was_shown slot))

-- the greater of two words is a word
max_word : (a b : ℕ) → IsWord a → IsWord b → IsWord (max a b)
max_word a b first second = dite (dec_le a b)
    (λ less. subst IsWord (omega arith) second)
    (λ more. subst IsWord (omega arith) first)

-- a word that was shown stands at the greater of it and what stood before
shown_here : (words : List ℕ) (views : List BoardView) (place slot word : ℕ) (v : BoardView) → slot < 16 → get_elem? views place ≡ some v → BoardRule words views → WasShown (set words slot (max (slice_index words slot) word)) (set views place (with_shown v slot word (slice_index words slot))) slot
shown_here words views place slot word v below at rule =
    let found : ℕ = slice_index words slot in
    let old : ℕ = slice_index v.shown slot in
    let w : BoardView = with_shown v slot word found in
    let fits = rule.fits place v at in
    let after : List ℕ = set words slot (max found word) in
    let in_shown : slot < length v.shown = (let n = fits.shown_count in omega arith) in
    let in_words : slot < length words = (let n = rule.count in omega arith) in
    let stands : slice_index after slot ≡ max found word = get_or-set_same words slot (max found word) 0 in_words in
    let shows : slice_index w.shown slot ≡ max old word = get_or-set_same v.shown slot (max old word) 0 in_shown in
    let low : old ≤ found = (let a = fits.shown_seen slot in let b = fits.seen_word slot in omega arith) in
    dite (dec_le word found)
    (λ less. still_shown words after views place slot v w at (stands ∙ omega arith) (λ e. shows ∙ (let e' : old ≡ found = e in omega arith) ∙ sym stands) (rule.was_shown slot))
    (λ more. inr (place, w, set_here views place w (at_within views place v at), shows ∙ (omega arith) ∙ sym stands))

-- the rule after a show
showed_rule : (words : List ℕ) (views : List BoardView) (place slot word : ℕ) (v : BoardView) → slot < 16 → IsWord word → get_elem? views place ≡ some v → BoardRule words views → BoardRule (set words slot (max (slice_index words slot) word)) (set views place (with_shown v slot word (slice_index words slot)))
showed_rule words views place slot word v below formed at rule =
    let found : ℕ = slice_index words slot in
    let old : ℕ = slice_index v.shown slot in
    let new : ℕ = max found word in
    let w : BoardView = with_shown v slot word found in
    let fits = rule.fits place v at in
    let in_shown : slot < length v.shown = (let n = fits.shown_count in omega arith) in
    let in_seen : slot < length v.seen = (let n = fits.seen_count in omega arith) in
    let in_words : slot < length words = (let n = rule.count in omega arith) in
    let low : old ≤ found = (let a = fits.shown_seen slot in let b = fits.seen_word slot in omega arith) in
    stepped_rule words views place slot new v w below at rule (omega arith) (max_word found word (rule.formed slot) formed)
    (record {
      shown_count = length-set v.shown slot (max old word) ∙ fits.shown_count;
      seen_count = length-set v.seen slot new ∙ fits.seen_count;
      shown_seen = both_set v.shown v.seen slot (max old word) new in_shown in_seen fits.shown_seen (omega arith);
      seen_word = both_set v.seen words slot new new in_seen in_words fits.seen_word (omega arith);
    })
    (λ j apart. get_or-set_other v.shown slot j (max old word) 0 apart)
    (shown_here words views place slot word v below at rule)

-- the rule of the board as its table keeps it
abbrev Holds : State Unit BoardView → Type 0
Holds s = BoardRule s.words s.views

-- a look keeps the rule
pub peeks : (slots id slot : ℕ) (me : Me Unit BoardView) → slot < 16 → Allows Holds slots id me slot (λ n. n) (λ found after. Peeks me.0 slot found after.0 × (after.1 ≡ me.1))
peeks slots id slot me below s rule homes at fits_word =
    let found : ℕ = slice_index s.words slot in
    let w : BoardView = with_seen me.0 slot found in
    let kept = peeked_rule s.words s.views id slot me.0 below at rule in
    (w, Act.keeps, tt, kept, ((rule.formed slot, (rule.fits id me.0 at).seen_word slot, refl, record { words = s.words; views = s.views; place = id; own = at; here = refl; rule = rule; kept = kept }), refl))

-- a show keeps the rule
pub shows : (slots id slot word : ℕ) (me : Me Unit BoardView) → slot < 16 → IsWord word → Allows Holds slots id me slot (λ n. max n word) (λ found after. Shows me.0 slot word found after.0 × (after.1 ≡ me.1))
shows slots id slot word me below formed s rule homes at fits_word =
    let found : ℕ = slice_index s.words slot in
    let w : BoardView = with_shown me.0 slot word found in
    let kept = showed_rule s.words s.views id slot word me.0 below formed at rule in
    (w, Act.keeps, tt, kept, ((rule.formed slot, (rule.fits id me.0 at).seen_word slot, refl, record { words = s.words; views = s.views; place = id; own = at; here = refl; rule = rule; kept = kept }), refl))

-- no word of the blank ones is above 0
blank_low : (count j : ℕ) → slice_index (replicate count 0) j ≡ 0
blank_low zero j = refl
blank_low (suc count) zero = refl
blank_low (suc count) (suc j) = blank_low count j

-- a split leaves what the seat showed and saw
split_kept : (words : List ℕ) (views : List BoardView) (id : ℕ) (v : BoardView) → get_elem? views id ≡ some v → BoardRule words views → BoardRule words (set views id (with_split v))
split_kept words views id v at rule =
    let w : BoardView = with_split v in
    let old = rule.fits id v at in
    let fits : Fits words w = record { shown_count = old.shown_count; seen_count = old.seen_count; shown_seen = old.shown_seen; seen_word = old.seen_word } in
    record {
      count = rule.count;
      fits = λ k u there. ⊎_elim
          (λ (x : (k ≡ id) × (w ≡ u)). subst (Fits words) x.1 fits)
          (λ (x : (k ≢ id) × (get_elem? views k ≡ some u)). rule.fits k u x.1)
          (at_set views id k w u there);
      formed = rule.formed;
      was_shown = λ j. still_shown words words views id j v w at refl (λ e. e) (rule.was_shown j);
    }

-- a new seat that showed nothing keeps the rule
pub splits : (id : ℕ) (v : BoardView) → Splits Holds id v (with_split v) (board_view blank_words v.seen 0 (v.rank + 1))
splits id v s rule at =
    let r : BoardView = board_view blank_words v.seen 0 (v.rank + 1) in
    let views : List BoardView = set s.views id (with_split v) in
    let kept : BoardRule s.words views = split_kept s.words s.views id v at rule in
    let old = rule.fits id v at in
    let fits : Fits s.words r = record {
      shown_count = refl;
      seen_count = old.seen_count;
      shown_seen = λ j. (let none = blank_low 16 j in omega arith);
      seen_word = old.seen_word;
    } in
    record {
      count = kept.count;
      fits = λ k u there. ⊎_elim (λ (x : get_elem? views k ≡ some u). kept.fits k u x) (λ (x : r ≡ u). subst (Fits s.words) x fits) (at_snoc views r u k there);
      formed = kept.formed;
      was_shown = λ j. ⊎_elim
          (λ (none : slice_index s.words j ≡ 0). inl none)
          (λ (by : (place : ℕ) × (u : BoardView) × (get_elem? views place ≡ some u) × (slice_index u.shown j ≡ slice_index s.words j)). inr (by.0, by.1, at_longer views (r ∷ []) by.0 by.1 by.2, by.3))
          (kept.was_shown j);
    }
