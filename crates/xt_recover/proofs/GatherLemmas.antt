-- A log that is gathered text by text.
use Rattle.std.proofs.Common.{append_assoc, ◌≡◌, ◌∙◌, ◌+◌, ◌∷◌, ◌++◌, ◌≤◌, All, Bool, Err, List, None, Ok, Option, Result, Some, [], ap, append-nil, arith, false, inl, inr, length, refl, subst, suc, sym, true≢false, zero, ℕ}
use Rattle.std.proofs.lemmas.Bool.{eq-eqb, ne_eqb}
use Rattle.std.proofs.lemmas.List.{take-append-drop, drop-drop, length-append, length-take-le}
use Rattle.std.specs.Prelude.{IfErr, IfSome, IsErrAnd, drop, if◌then◌else◌, take, true, ◌==◌}
use Rattle.xt_ckpt.specs.Fields.{IsUnfinished}
use Rattle.xt_base.specs.Form.{is_size}
use Rattle.xt_ckpt.specs.Grammar.{AreItems, Entry, IsItem, IsTextIn, entries, entry}
use Rattle.xt_ckpt.specs.Items.{HasForm}
use Rattle.xt_ckpt.specs.declared.item.Item.{Item}
use Rattle.std.specs.List.{AllByRecursion}
use Rattle.std.proofs.lemmas.List.Elements.{All-from_recursion}
use Rattle.xt_recover.proofs.LaidLemmas.{items_size, read_entry}
use Rattle.xt_recover.specs.Reading.{AreTexts, IsMixedAt, IsStoppedAt, ReadsAs}
use Rattle.xt_recover.specs.Gathering.{IsGathered, IsItemWithin, IsWhyLog, IsWhyNotLaid, SaysAlike, SaysOther, for_text, is_of_log}
use Rattle.xt_recover.specs.declared.gather.LogCounts.{LogCounts}
use Rattle.xt_recover.specs.declared.gather.LogFault.{LogFault}
use Rattle.xt_ckpt.specs.declared.reading.Checkpoint.{Checkpoint}
use Rattle.xt_recover.specs.Overlaid.{Overlaid, nothing, with_items, with_texts}
use Rattle.xt_window.specs.Window.{ahead, unread, Held, IsAhead, IsOfGrammar}
use Rattle.xt_window.specs.declared.window.Found.{Found}

-- what was gathered so far, up to an offset
pub record IsSoFar (log : List ℕ) (at count : ℕ) (now : Overlaid) : Type 0 where
  pub done : List (List Entry)
  pub front : List ℕ
  pub parts : log ≡ front ++ drop at log
  pub place : length front ≡ at
  pub whole : AreTexts now.size front done
  pub counted : count ≡ length done
  pub laid : now ≡ with_texts done (nothing now.size)

pub so_far_none : (log : List ℕ) (size : Option ℕ) → IsSoFar log 0 0 (nothing size)
so_far_none log size = record { done = []; front = []; parts = refl; place = refl; whole = refl; counted = refl; laid = refl }

-- ---- what a text says of the size of a block
-- the overlay for a text has its size
pub size_for : (count : ℕ) (size : Option ℕ) (l : Overlaid) → SaysAlike count size l → (for_text count size l).size ≡ size
size_for count size l (inl first) = ap (λ (t : Bool). (if t then nothing size else l).size) (eq-eqb count 0 first)
size_for count size l (inr same) = by_first (count == 0)
  where
    by_first : (t : Bool) → (if t then nothing size else l).size ≡ size
    by_first true = refl
    by_first false = sym same

-- texts that are none say whatever is wanted
so_far_for : (log : List ℕ) (at count : ℕ) (size : Option ℕ) (now : Overlaid) → IsSoFar log at count now → IsSoFar log at count (for_text count size now)
so_far_for log at zero size now so =
    let none : so.done ≡ [] = nil_of so.done (sym so.counted) in
    let bare : so.front ≡ [] = subst (AreTexts now.size so.front) none so.whole in
    record { done = []; front = so.front; parts = so.parts; place = so.place; whole = bare; counted = refl; laid = refl }
  where
    nil_of : (xs : List (List Entry)) → length xs ≡ 0 → xs ≡ []
    nil_of [] h = refl
    nil_of (x ∷ xs) h = absurd (omega (arith, h))
so_far_for log at (suc n) size now so =
    subst (IsSoFar log at (suc n)) (sym (ap (λ (t : Bool). if t then nothing size else now) (ne_eqb (suc n) 0 (λ same. omega (arith, same))))) so

-- ---- one text more
pub texts_more : (ts : List (List Entry)) (t : List Entry) (l : Overlaid) → with_texts (ts ++ t ∷ []) l ≡ with_items t (with_texts ts l)
texts_more [] t l = refl
texts_more (x ∷ xs) t l = texts_more xs t (with_items x l)

pub whole_more : (size : Option ℕ) (front text : List ℕ) (number : ℕ) (ts : List (List Entry)) (t : List Entry) → AreTexts size front ts → IsTextIn size text number t → AreTexts size (front ++ text) (ts ++ t ∷ [])
whole_more size front text number [] t none is = (text, [], number, is, ap (λ xs. xs ++ text) none ∙ sym (append-nil text), refl)
whole_more size front text number (x ∷ xs) t whole is =
    (whole.0, whole.1 ++ text, whole.2, whole.3, ap (λ ys. ys ++ text) whole.4 ∙ append_assoc whole.0 whole.1 text, whole_more size whole.1 text number xs t whole.5 is)

-- a text of the size behind the others, whose items were laid
so_far_more : (log : List ℕ) (at count len number : ℕ) (items : List Entry) (now new : Overlaid) → IsSoFar log at count now → len ≤ length (drop at log) → IsTextIn now.size (take len (drop at log)) number items → new ≡ with_items items now
    → IsSoFar log (at + len) (count + 1) new
so_far_more log at count len number items now new so within text laid =
    let input : List ℕ = drop at log in
    let behind : take len input ++ drop (at + len) log ≡ input = ap (λ xs. take len input ++ xs) (sym (drop-drop len at log)) ∙ take-append-drop len input in
    let size : new.size ≡ now.size = ap (λ (l : Overlaid). l.size) laid ∙ items_size items now in
    record {
      done = so.done ++ items ∷ [];
      front = so.front ++ take len input;
      parts = so.parts ∙ ap (λ xs. so.front ++ xs) (sym behind) ∙ sym (append_assoc so.front (take len input) (drop (at + len) log));
      place = omega (arith, length-append so.front (take len input), length-take-le len input within, so.place);
      whole = subst (λ s. AreTexts s (so.front ++ take len input) (so.done ++ items ∷ [])) (sym size) (whole_more now.size so.front (take len input) number so.done items so.whole text);
      counted = omega (arith, so.counted, length-append so.done (items ∷ []));
      laid = laid ∙ ap (with_items items) so.laid ∙ sym (texts_more so.done items (nothing now.size)) ∙ ap (λ s. with_texts (so.done ++ items ∷ []) (nothing s)) (sym size);
    }

reads_behind : (size : Option ℕ) (front behind : List ℕ) (ts : List (List Entry)) → AreTexts size front ts → IsUnfinished behind → ReadsAs size (front ++ behind) ts
reads_behind size front behind [] none ends = subst IsUnfinished (sym (ap (λ xs. xs ++ behind) none)) ends
reads_behind size front behind (t ∷ ts) whole ends =
    (whole.0, whole.1 ++ behind, whole.2, whole.3, ap (λ xs. xs ++ behind) whole.4 ∙ append_assoc whole.0 whole.1 behind, reads_behind size whole.1 behind ts whole.5 ends)

-- the end
so_far_end : (log : List ℕ) (at : ℕ) (counts : LogCounts) (now : Overlaid) → IsSoFar log at counts.texts now → counts.rest ≡ length (drop at log) → IsUnfinished (drop at log) → IsGathered log counts now
so_far_end log at counts now so rest ends = record {
  texts = so.done;
  read = subst (λ xs. ReadsAs now.size xs so.done) (sym so.parts) (reads_behind now.size so.front (drop at log) so.done so.whole ends);
  parts = record { front = so.front; behind = drop at log; parts = so.parts; whole = so.whole; unfinished = ends; count = rest };
  count = so.counted;
  laid = so.laid;
}

-- ---- items as they are read
-- an item has its form, and chunks that a block of the size has
read_item : (size : Option ℕ) (here : List ℕ) (item : Item) → IsItem size here (entry item) → HasForm item × IsItemWithin size item
read_item size here item is = let one = read_entry size here (entry item) is in (one.form, one.within)

pub forms_of : (size : Option ℕ) (least : ℕ) (bytes : List ℕ) (items : List Item) → AreItems size least bytes (entries items) → AllByRecursion HasForm items × AllByRecursion (IsItemWithin size) items
forms_of size least bytes [] h = (tt, tt)
forms_of size least bytes (i ∷ is) h =
    let one = read_item size h.0 i h.4 in
    let rest = forms_of size (suc i.block) h.1 is h.5 in
    ((one.0, rest.0), (one.1, rest.1))

-- what holds of a text that was found
pub record IsFoundText (c : Checkpoint) : Type 0 where
  pub one_of : is_size c.size ≡ true
  pub form : All HasForm c.items.items
  pub within : All (IsItemWithin c.size) c.items.items

pub text_found : (found : Found) (c : Checkpoint) → found ≡ Found.Text c → IsOfGrammar found → IsFoundText c
text_found found c is read =
    let one : IsOfGrammar (Found.Text c) = subst IsOfGrammar is read in
    let text = one.1 in
    let items = forms_of c.size 0 text.body c.items.items text.each in
    record { one_of = text.sized; form = All-from_recursion HasForm c.items.items items.0; within = All-from_recursion (IsItemWithin c.size) c.items.items items.1 }

-- the items of a text may be laid on the overlay for it
pub within_text : (count : ℕ) (size : Option ℕ) (old now : Overlaid) (items : List Item) → now ≡ for_text count size old → SaysAlike count size old → All (IsItemWithin size) items → All (IsItemWithin now.size) items
within_text count size old now items is alike all = subst (λ s. All (IsItemWithin s) items) (sym (ap (λ (l : Overlaid). l.size) is ∙ size_for count size old alike)) all

-- ---- a log that is read piece by piece
-- the texts in front of what is held were gathered
pub record Stands (log : List ℕ) (h : Held) (left : Option (List ℕ)) (count : ℕ) (now : Overlaid) : Type 0 where
  pub so : IsSoFar log h.offset count now
  pub same : ahead h left ≡ Some (drop h.offset log)

-- nothing is taken
pub stands_first : (left : Option (List ℕ)) (h : Held) (l : Overlaid) → h.offset ≡ 0 → l ≡ nothing None → IfSome (ahead h left) (λ log. Stands log h left 0 l)
stands_first None h l first none = tt
stands_first (Some xs) h l first none = let log : List ℕ = h.bytes ++ xs in record {
  so = subst (λ n. IsSoFar log n 0 l) (sym first) (subst (IsSoFar log 0 0) (sym none) (so_far_none log None));
  same = ap (λ n. Some (drop n log)) (sym first);
}

-- what is ahead of a window of which nothing is read is the log
pub ahead_unread : (limit : ℕ) (h : Held) (left : Option (List ℕ)) (P : List ℕ → Type 0) → h ≡ unread limit → IfSome (ahead h left) P → IfSome left P
ahead_unread limit h None P is x = tt
ahead_unread limit h (Some log) P is x = subst P (ap (λ w. w.bytes ++ log) is) x

-- what is ahead is the rest of the log
rest_of : (log : List ℕ) (h : Held) (left : Option (List ℕ)) (count : ℕ) (now : Overlaid) (P : List ℕ → Type 0) → Stands log h left count now → IfSome (ahead h left) P → P (drop h.offset log)
rest_of log h left count now P s is = subst (λ o. IfSome o P) s.same is

-- one more text is laid
more_of : (log : List ℕ) (h past : Held) (left has : Option (List ℕ)) (count : ℕ) (now new : Overlaid) (c : Checkpoint) → Stands log h left count now → IsAhead h (drop h.offset log) (Found.Text c) past has → SaysAlike count c.size now
    → new ≡ with_items (entries c.items.items) (for_text count c.size now) → Stands log past has (count + 1) new
more_of log h past left has count now new c s (size, (begins, (place, same))) alike laid =
    let mid : Overlaid = for_text count c.size now in
    let text : IsTextIn mid.size (take size (drop h.offset log)) c.no (entries c.items.items) =
    subst (λ o. IsTextIn o (take size (drop h.offset log)) c.no (entries c.items.items)) (sym (size_for count c.size now alike)) begins.1 in
    record {
      so = subst (λ n. IsSoFar log n (count + 1) new) (sym place) (so_far_more log h.offset count size c.no (entries c.items.items) mid new (so_far_for log h.offset count c.size now s.so) begins.0 text laid);
      same = same ∙ ap Some (drop-drop size h.offset log ∙ ap (λ n. drop n log) (sym place));
    }

pub stands_more : (had : Option (List ℕ)) (h past : Held) (left has : Option (List ℕ)) (count : ℕ) (now new : Overlaid) (found : Found) (c : Checkpoint) → found ≡ Found.Text c → IfSome had (λ log. Stands log h left count now) → IfSome (ahead h left) (λ log. IsAhead h log found past has)
    → SaysAlike count c.size now → new ≡ with_items (entries c.items.items) (for_text count c.size now) → IfSome had (λ log. Stands log past has (count + 1) new)
stands_more None h past left has count now new found c is s next alike laid = tt
stands_more (Some log) h past left has count now new found c is s next alike laid =
    more_of log h past left has count now new c s (subst (λ f. IsAhead h (drop h.offset log) f past has) is (rest_of log h left count now (λ t. IsAhead h t found past has) s next)) alike laid

-- the log ends behind its texts
pub gathered_rest : (had : Option (List ℕ)) (h past : Held) (left has : Option (List ℕ)) (count : ℕ) (now : Overlaid) (found : Found) (rest : ℕ) → found ≡ Found.Rest rest → IfSome had (λ log. Stands log h left count now) → IfSome (ahead h left) (λ log. IsAhead h log found past has)
    → IfSome had (λ log. IsGathered log (record { texts = count; rest = rest }) now)
gathered_rest None h past left has count now found rest is s next = tt
gathered_rest (Some log) h past left has count now found rest is s next =
    let ends : IsAhead h (drop h.offset log) (Found.Rest rest) past has = subst (λ f. IsAhead h (drop h.offset log) f past has) is (rest_of log h left count now (λ t. IsAhead h t found past has) s next) in
    so_far_end log h.offset (record { texts = count; rest = rest }) now s.so ends.1.0 ends.0

-- a field breaks its rule
pub why_broken : (had : Option (List ℕ)) (h past : Held) (left has : Option (List ℕ)) (count : ℕ) (now : Overlaid) (found : Found) (offset : ℕ) → found ≡ Found.Fault offset → IfSome had (λ log. Stands log h left count now) → IfSome (ahead h left) (λ log. IsAhead h log found past has)
    → IfSome had (λ log. IsWhyLog log (LogFault.Broken offset))
why_broken None h past left has count now found offset is s next = tt
why_broken (Some log) h past left has count now found offset is s next =
    let ends : IsAhead h (drop h.offset log) (Found.Fault offset) past has = subst (λ f. IsAhead h (drop h.offset log) f past has) is (rest_of log h left count now (λ t. IsAhead h t found past has) s next) in
    record {
      size = now.size;
      texts = s.so.done;
      front = s.so.front;
      behind = drop h.offset log;
      parts = s.so.parts;
      whole = s.so.whole;
      inside = ends.0;
      broken = ends.1.0;
      place = ends.1.1.0 ∙ ap (λ n. n + ends.0) (sym s.so.place);
    }

-- a text says something else of the size of a block
mixed_of : (log : List ℕ) (h past : Held) (left has : Option (List ℕ)) (count : ℕ) (now : Overlaid) (c : Checkpoint) (offset : ℕ) → Stands log h left count now → IsAhead h (drop h.offset log) (Found.Text c) past has → SaysOther count c.size now → offset ≡ h.offset
    → IsMixedAt offset log
mixed_of log h past left has count now c offset s (len, (begins, goes)) other at = record {
  size = now.size;
  texts = s.so.done;
  front = s.so.front;
  behind = drop h.offset log;
  parts = s.so.parts;
  some = omega (arith, s.so.counted, other.0);
  whole = s.so.whole;
  other = (c.size, take len (drop h.offset log), drop len (drop h.offset log), c.no, entries c.items.items, other.1, begins.1, sym (take-append-drop len (drop h.offset log)));
  place = at ∙ sym s.so.place;
}

-- what holds of a fault that is told on
pub err_then : {A E : Type 0} (r : Result A E) (Q P : E → Type 0) → IsErrAnd r Q → ((e : E) → Q e → P e) → IfErr r P
err_then (Ok x) Q P h f = tt
err_then (Err e) Q P h f = f e h

-- a text was not laid
pub why_not_laid : (had : Option (List ℕ)) (h past : Held) (left has : Option (List ℕ)) (count : ℕ) (now : Overlaid) (found : Found) (c : Checkpoint) (offset : ℕ) (fault : LogFault) → found ≡ Found.Text c → IfSome had (λ log. Stands log h left count now)
    → IfSome (ahead h left) (λ log. IsAhead h log found past has) → offset ≡ h.offset → IsWhyNotLaid count c.size now offset fault → IfSome had (λ log. IsWhyLog log fault)
why_not_laid None h past left has count now found c offset fault is s next at why = tt
why_not_laid (Some log) h past left has count now found c offset fault is s next at (inl memory) = subst (IsWhyLog log) (sym memory) tt
why_not_laid (Some log) h past left has count now found c offset fault is s next at (inr other) =
    subst (IsWhyLog log) (sym other.0)
    (mixed_of log h past left has count now c offset s (subst (λ f. IsAhead h (drop h.offset log) f past has) is (rest_of log h left count now (λ t. IsAhead h t found past has) s next)) other.1 at)

-- another fault
pub why_other : (had : Option (List ℕ)) (fault : LogFault) → is_of_log fault ≡ false → IfSome had (λ log. IsWhyLog log fault)
why_other None fault other = tt
why_other (Some log) (LogFault.Broken offset) other = absurd (true≢false other)
why_other (Some log) (LogFault.Mixed offset) other = absurd (true≢false other)
why_other (Some log) (LogFault.Rotten which offset) other = absurd (true≢false other)
why_other (Some log) LogFault.Strange other = absurd (true≢false other)
why_other (Some log) (LogFault.Foreign whose) other = absurd (true≢false other)
why_other (Some log) LogFault.Memory other = tt
why_other (Some log) LogFault.Read other = tt

-- ---- where recovery stops, whatever the reason
pub broken_stops : (had : Option (List ℕ)) (offset : ℕ) → IfSome had (λ log. IsWhyLog log (LogFault.Broken offset)) → IfSome had (IsStoppedAt offset)
broken_stops None offset why = tt
broken_stops (Some log) offset why = inl why

pub mixed_stops : (had : Option (List ℕ)) (offset : ℕ) → IfSome had (λ log. IsWhyLog log (LogFault.Mixed offset)) → IfSome had (IsStoppedAt offset)
mixed_stops None offset why = tt
mixed_stops (Some log) offset why = inr why
