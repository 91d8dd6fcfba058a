-- What the texts of a log say of a chunk, and what recovery makes of it.
use Rattle.std.proofs.Common.{◌≡◌, ◌∙◌, ◌≤◌, ◌∷◌, Bool, List, None, Option, Some, [], ap, arith, false, inl, inr, refl, sym, true, ℕ}
use Rattle.std.proofs.lemmas.Bool.{cases_Bool, leb-true, le-leb}
use Rattle.std.specs.Prelude.{if◌then◌else◌, is_some, nat_le, unwrap_or}
use Rattle.xt_base.proofs.MapLemmas.{some_none}
use Rattle.xt_base.specs.Maps.{has}
use Rattle.xt_base.specs.Sound.{Each}
use Rattle.xt_base.specs.State.{Items}
use Rattle.xt_base.specs.Text.{chunk}
use Rattle.xt_recovery.proofs.Recoverable.{IsRecoverable}
use Rattle.xt_recovery.specs.Disks.{Disks}
use Rattle.xt_recovery.specs.Log.{CheckpointText, HasChunk, chunks_of, is_cancel, logged_chunk, recovered_image, texts_from}

module _ {A : Type 0} where
  -- the first of two where the test holds
  pub first_if : (t : Bool) (x y : A) → t ≡ true → (if t then x else y) ≡ x
  first_if true x y h = refl
  first_if false x y h = absurd (cc)

  -- the second where it does not
  pub second_if : (t : Bool) (x y : A) → t ≡ false → (if t then x else y) ≡ y
  second_if true x y h = absurd (cc)
  second_if false x y h = refl

  -- what is there is some
  pub some_of : (o : Option A) → is_some o ≡ true → (x : A) × (o ≡ Some x)
  some_of None h = absurd (cc)
  some_of (Some x) h = (x, refl)

  -- what a value or its default is, by cases
  pub unwrap_by : (o : Option A) (other v : A) → ((x : A) → o ≡ Some x → x ≡ v) → (o ≡ None → other ≡ v) → unwrap_or o other ≡ v
  unwrap_by None other v some none = none refl
  unwrap_by (Some x) other v some none = some x refl

-- ---- one text more
-- a cancel says nothing, and hides what is older
pub found_cancel : (w : CheckpointText) (ws : List CheckpointText) (b k : ℕ) → is_cancel b w.items ≡ true → logged_chunk (w ∷ ws) b k ≡ None
found_cancel w ws b k h = first_if (is_cancel b w.items) None (if has (chunks_of b w.items) k then Some (chunk (w.contents b) k) else logged_chunk ws b k) h

-- a text that has the chunk says it
pub found_first : (w : CheckpointText) (ws : List CheckpointText) (b k : ℕ) → is_cancel b w.items ≡ false → has (chunks_of b w.items) k ≡ true → logged_chunk (w ∷ ws) b k ≡ Some (chunk (w.contents b) k)
found_first w ws b k h there =
    second_if (is_cancel b w.items) None (if has (chunks_of b w.items) k then Some (chunk (w.contents b) k) else logged_chunk ws b k) h
    ∙ first_if (has (chunks_of b w.items) k) (Some (chunk (w.contents b) k)) (logged_chunk ws b k) there

-- one that has not leaves it to the older ones
pub found_later : (w : CheckpointText) (ws : List CheckpointText) (b k : ℕ) → is_cancel b w.items ≡ false → has (chunks_of b w.items) k ≡ false → logged_chunk (w ∷ ws) b k ≡ logged_chunk ws b k
found_later w ws b k h absent =
    second_if (is_cancel b w.items) None (if has (chunks_of b w.items) k then Some (chunk (w.contents b) k) else logged_chunk ws b k) h
    ∙ second_if (has (chunks_of b w.items) k) (Some (chunk (w.contents b) k)) (logged_chunk ws b k) absent

-- what older texts add, they add below one more text
pub found_under : (w : CheckpointText) (xs ys : List CheckpointText) (b k : ℕ) (v : List ℕ) → (logged_chunk xs b k ≡ Some v → logged_chunk ys b k ≡ Some v) → logged_chunk (w ∷ xs) b k ≡ Some v → logged_chunk (w ∷ ys) b k ≡ Some v
found_under w xs ys b k v more h =
    elim (cases_Bool (is_cancel b w.items)) [
      | inl cancels ↦ some_none v (logged_chunk (w ∷ ys) b k ≡ Some v) (sym h ∙ found_cancel w xs b k cancels)
      | inr other ↦
          elim (cases_Bool (has (chunks_of b w.items) k)) [
            | inl there ↦ found_first w ys b k other there ∙ sym (found_first w xs b k other there) ∙ h
            | inr absent ↦ found_later w ys b k other absent ∙ more (sym (found_later w xs b k other absent) ∙ h)
          ]
    ]

-- ---- the texts from a number on
pub from_first : (n : ℕ) (w : CheckpointText) (ws : List CheckpointText) → n ≤ w.number → texts_from n (w ∷ ws) ≡ w ∷ texts_from n ws
from_first n w ws h = first_if (nat_le n w.number) (w ∷ texts_from n ws) [] (le-leb n w.number h)

-- from a number on that the newest text has not reached there are none
pub from_less : (n : ℕ) (w : CheckpointText) (ws : List CheckpointText) → nat_le n w.number ≡ false → texts_from n (w ∷ ws) ≡ []
from_less n w ws h = second_if (nat_le n w.number) (w ∷ texts_from n ws) [] h

-- a fact of each text is one of each from a number on
pub each_from : (P : CheckpointText → Type 0) (n : ℕ) (log : List CheckpointText) → Each P log → Each P (texts_from n log)
each_from P n [] all = tt
each_from P n (w ∷ ws) all = each_if (nat_le n w.number) (each_from P n ws all.1)
  where
    each_if : (stays : Bool) → Each P (texts_from n ws) → Each P (if stays then w ∷ texts_from n ws else [])
    each_if true rest = (all.0, rest)
    each_if false rest = tt

-- what the texts from a number on say, those from a lower one on say
pub from_wider : (n m : ℕ) (log : List CheckpointText) (b k : ℕ) (v : List ℕ) → n ≤ m → logged_chunk (texts_from m log) b k ≡ Some v → logged_chunk (texts_from n log) b k ≡ Some v
from_wider n m [] b k v le h = h
from_wider n m (w ∷ ws) b k v le h =
    elim (cases_Bool (nat_le m w.number)) [
      | inl stands ↦
          let high : m ≤ w.number = leb-true m w.number stands in
          ap (λ xs. logged_chunk xs b k) (from_first n w ws (omega (arith, le, high)))
          ∙ found_under w (texts_from m ws) (texts_from n ws) b k v (from_wider n m ws b k v le) (sym (ap (λ xs. logged_chunk xs b k) (from_first m w ws high)) ∙ h)
      | inr other ↦ some_none v (logged_chunk (texts_from n (w ∷ ws)) b k ≡ Some v) (sym h ∙ ap (λ xs. logged_chunk xs b k) (from_less m w ws other))
    ]

-- and so do all texts
pub from_all : (m : ℕ) (log : List CheckpointText) (b k : ℕ) (v : List ℕ) → logged_chunk (texts_from m log) b k ≡ Some v → logged_chunk log b k ≡ Some v
from_all m [] b k v h = h
from_all m (w ∷ ws) b k v h =
    elim (cases_Bool (nat_le m w.number)) [
      | inl stands ↦
          found_under w (texts_from m ws) ws b k v (from_all m ws b k v) (sym (ap (λ xs. logged_chunk xs b k) (from_first m w ws (leb-true m w.number stands))) ∙ h)
      | inr other ↦ some_none v (logged_chunk (w ∷ ws) b k ≡ Some v) (sym h ∙ ap (λ xs. logged_chunk xs b k) (from_less m w ws other))
    ]

-- ---- recovery
-- and so does recovery by all texts
pub recovers : (d : Disks) (l : Items) (b k : ℕ) → IsRecoverable d l → HasChunk d.form.size k → recovered_image d.log d.home b k ≡ d.landed b k
recovers d l b k r small =
    unwrap_by (logged_chunk d.log b k) (d.home b k) (d.landed b k)
    (λ x is. r.told b k x small is)
    (λ none.
    elim (r.home b k small) [
      | inl same ↦ same
      | inr logged ↦
          let there = some_of (logged_chunk (texts_from logged.0 d.log) b k) logged.2 in
          some_none there.0 (d.home b k ≡ d.landed b k) (sym (from_all logged.0 d.log b k there.0 there.1) ∙ none)
    ])
