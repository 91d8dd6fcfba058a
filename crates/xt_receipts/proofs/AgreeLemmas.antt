-- What the comparison finds, in plain words.
use Rattle.std.proofs.Common.{List, None, Option, Some, [], arith, length, refl, replicate, slice_index, subst, sym, ℕ, zero, suc, ap, ◌+◌, ◌<◌, ◌≡◌, ◌≢◌, ◌≤◌, ◌∙◌, ◌∷◌}
use Rattle.std.specs.Prelude.{Err, IfErr, IsSomeAnd, Ok, OnOk, Result, slice_get, ⊤}
use Rattle.xt_receipts.specs.declared.fault.CloseFault.{CloseFault}
use Rattle.std.proofs.Common.{Bool, false, true, ◌==◌}
use Rattle.std.proofs.lemmas.Bool.{eq-eqb, eqb-true, false≢true}
use Rattle.std.proofs.lemmas.List.{get_or-set_other, get_or-set_same, length-set}
use Rattle.std.proofs.lemmas.Option.{none-some, same_Some, slice_get_within}
use Rattle.xt_cell.specs.Accounts.{AccountView, HasEntry}
use Rattle.xt_cell.specs.HostSeats.{HostSeatView}
use Rattle.xt_cell.specs.declared.records.Receipt.{Receipt}
use Rattle.xt_receipts.specs.Closing.{AreApart, AreEven, AreInOrder, AreKept, DoAgree, HasItsEntry, IsAnswered, IsFound, IsFree, MayAllStand, after_receipt, counted_by}

-- ---- callers
free_at : (caller : ℕ) (ss : List HostSeatView) (j : ℕ) (t : HostSeatView) → IsFree caller ss → slice_get ss j ≡ Some t → caller ≢ t.caller
free_at caller [] j t free is = absurd (none-some _ is)
free_at caller (s ∷ ss) zero t free is = λ same. free.0 (ap (λ (u : HostSeatView). u.caller) (same_Some _ _ is) ∙ sym same)
free_at caller (s ∷ ss) (suc j) t free is = free_at caller ss j t free.1 is

pub apart_at : (ss : List HostSeatView) (i j : ℕ) (s t : HostSeatView) → AreApart ss → i < j → slice_get ss i ≡ Some s → slice_get ss j ≡ Some t → s.caller ≢ t.caller
apart_at [] i j s t apart less first second = absurd (none-some _ first)
apart_at (x ∷ xs) i zero s t apart less first second = absurd (omega (arith, less))
apart_at (x ∷ xs) zero (suc j) s t apart less first second = subst (λ (u : HostSeatView). u.caller ≢ t.caller) (same_Some _ _ first) (free_at x.caller xs j t apart.0 second)
apart_at (x ∷ xs) (suc i) (suc j) s t apart less first second = apart_at xs i j s t apart.1 (omega (arith, less)) first second

-- ---- counts
pub even_at : (first : ℕ) (bs : List AccountView) (seats : List HostSeatView) (k : ℕ) (b : AccountView) → AreEven first bs seats → slice_get bs k ≡ Some b → b.count ≡ counted_by (first + k) seats
even_at first [] seats k b even is = absurd (none-some _ is)
even_at first (c ∷ cs) seats zero b even is =
    ap (λ (u : AccountView). u.count) (sym (same_Some _ _ is)) ∙ even.0 ∙ ap (λ n. counted_by n seats) (omega arith)
even_at first (c ∷ cs) seats (suc k) b even is = even_at (first + 1) cs seats k b even.1 is ∙ ap (λ n. counted_by n seats) (omega arith)

-- ---- receipts
pub kept_at : (books : List AccountView) (ss : List HostSeatView) (i : ℕ) (s : HostSeatView) → AreKept books ss → slice_get ss i ≡ Some s → MayAllStand books s.caller (replicate 16 0) s.receipts
kept_at books [] i s kept is = absurd (none-some _ is)
kept_at books (x ∷ xs) zero s kept is = subst (λ (u : HostSeatView). MayAllStand books u.caller (replicate 16 0) u.receipts) (same_Some _ _ is) kept.0
kept_at books (x ∷ xs) (suc i) s kept is = kept_at books xs i s kept.1 is

module _ (books : List AccountView) (caller : ℕ) where
  pub entry_at : (next : List ℕ) (rs : List Receipt) (k : ℕ) (r : Receipt) → MayAllStand books caller next rs → slice_get rs k ≡ Some r → HasItsEntry books caller r
  entry_at next [] k r stand is = absurd (none-some _ is)
  entry_at next (x ∷ xs) zero r stand is = subst (λ (u : Receipt). HasItsEntry books caller u) (same_Some _ _ is) stand.0.0
  entry_at next (x ∷ xs) (suc k) r stand is = entry_at (after_receipt next x) xs k r stand.1 is

  some_book : (o : Option AccountView) (r : Receipt) → IsSomeAnd o (λ b. HasEntry b caller r) → (b : AccountView) × (o ≡ Some b)
  some_book None r has = absurd has
  some_book (Some b) r has = (b, refl)

  -- a receipt that has its entry is of one of the books
  within : (r : Receipt) → HasItsEntry books caller r → r.slot < length books
  within r has = let found = some_book (slice_get books r.slot) r has in slice_get_within books r.slot found.0 found.1

  -- the least that may follow does not go down
  floor_stays : (next : List ℕ) (x : Receipt) (slot : ℕ) → x.slot < length next → slice_index next x.slot ≤ x.number → slice_index next slot ≤ slice_index (after_receipt next x) slot
  floor_stays next x slot inside low = by (slot == x.slot) refl
    where
      by : (b : Bool) → (slot == x.slot) ≡ b → slice_index next slot ≤ slice_index (after_receipt next x) slot
      by true e =
          let same = eqb-true slot x.slot e in
          let now = get_or-set_same next x.slot (x.number + 1) 0 inside in
          subst (λ n. slice_index next n ≤ slice_index (after_receipt next x) n) (sym same) (omega (arith, now, low))
      by false e = let now = get_or-set_other next x.slot slot (x.number + 1) 0 (λ same. false≢true (sym e ∙ eq-eqb slot x.slot same)) in omega (arith, now)

  floor_at : (next : List ℕ) (rs : List Receipt) (k : ℕ) (q : Receipt) → length books ≤ length next → MayAllStand books caller next rs → slice_get rs k ≡ Some q → slice_index next q.slot ≤ q.number
  floor_at next [] k q few stand is = absurd (none-some _ is)
  floor_at next (x ∷ xs) zero q few stand is = subst (λ (u : Receipt). slice_index next u.slot ≤ u.number) (same_Some _ _ is) stand.0.1
  floor_at next (x ∷ xs) (suc k) q few stand is =
      let inside = within x stand.0.0 in
      let after = floor_at (after_receipt next x) xs k q (subst (λ n. length books ≤ n) (sym (length-set next x.slot (x.number + 1))) few) stand.1 is in
      let stays = floor_stays next x q.slot (omega (arith, inside, few)) stand.0.1 in
      omega (arith, after, stays)

  pub rise_at : (next : List ℕ) (rs : List Receipt) (j k : ℕ) (r q : Receipt) → length books ≤ length next → MayAllStand books caller next rs → j < k
      → slice_get rs j ≡ Some r → slice_get rs k ≡ Some q → r.slot ≡ q.slot → r.number < q.number
  rise_at next [] j k r q few stand less first second slots = absurd (none-some _ first)
  rise_at next (x ∷ xs) j zero r q few stand less first second slots = absurd (omega (arith, less))
  rise_at next (x ∷ xs) zero (suc k) r q few stand less first second slots =
      let inside = within x stand.0.0 in
      let after = floor_at (after_receipt next x) xs k q (subst (λ n. length books ≤ n) (sym (length-set next x.slot (x.number + 1))) few) stand.1 second in
      let same = same_Some _ _ first in
      let slot = ap (λ (u : Receipt). u.slot) same ∙ slots in
      let number = ap (λ (u : Receipt). u.number) same in
      let now = get_or-set_same next x.slot (x.number + 1) 0 (omega (arith, inside, few)) in
      let floor = subst (λ n. slice_index (after_receipt next x) n ≤ q.number) (sym slot) after in
      omega (arith, now, floor, number)
  rise_at next (x ∷ xs) (suc j) (suc k) r q few stand less first second slots =
      rise_at (after_receipt next x) xs j k r q (subst (λ n. length books ≤ n) (sym (length-set next x.slot (x.number + 1))) few) stand.1 (omega (arith, less)) first second slots

pub agree : (books : List AccountView) (seats : List HostSeatView) → length books ≤ 16 → AreInOrder books seats → DoAgree books seats
agree books seats few order = record {
  callers = λ i j s t. apart_at seats i j s t order.0;
  counts = λ slot b is. even_at 0 books seats slot b order.1 is ∙ ap (λ n. counted_by n seats) (omega arith);
  entries = λ i k s r seat is. entry_at books s.caller (replicate 16 0) s.receipts k r (kept_at books seats i s order.2 seat) is;
  rise = λ i j k s r q less seat. rise_at books s.caller (replicate 16 0) s.receipts j k r q few (kept_at books seats i s order.2 seat) less;
}

-- what is answered, by whether something is wrong
pub answered : (books : List AccountView) (seats : List HostSeatView) (answer : Result ⊤ CloseFault) → OnOk answer (AreInOrder books seats) → OnOk answer (DoAgree books seats)
    → IfErr answer (λ fault. IsFound books seats fault) → IsAnswered books seats answer
answered books seats (Ok _) order agrees found = (order, agrees)
answered books seats (Err fault) order agrees found = found
