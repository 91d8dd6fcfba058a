-- What the end of a host compares: the sixteen closed books, with what the seats kept.
use Rattle.std.specs.Prelude.{Err, Ok, Result, IsSomeAnd, length, List, Some, [], replicate, slice_get, slice_index, slice_set, ℕ, ⊤, ◌+◌, ◌<◌, ◌≡◌, ◌≢◌, ◌≤◌, ◌⊎◌, ◌∷◌}
use Rattle.xt_base.specs.declared.sizes.TheConstants.{SLOTS}
use Rattle.xt_cell.specs.Accounts.{AccountView, HasEntry, IsTrueAccount}
use Rattle.xt_cell.specs.HostSeats.{HostSeatView}
use Rattle.xt_cell.specs.declared.records.Receipt.{Receipt}
use Rattle.xt_receipts.specs.declared.fault.CloseFault.{CloseFault}
use Rattle.xt_receipts.specs.declared.fault.CloseFault.TheVariants.{Books, Callers, Receipt as Lost}

-- ---- callers
-- no seat has this caller
abbrev pub IsFree : ℕ → List HostSeatView → Type 0
IsFree caller [] = ⊤
IsFree caller (s ∷ ss) = (s.caller ≢ caller) × IsFree caller ss

-- no two seats have one caller
abbrev pub AreApart : List HostSeatView → Type 0
AreApart [] = ⊤
AreApart (s ∷ ss) = IsFree s.caller ss × AreApart ss

-- ---- counts
-- how many events of a slot the seats counted together
abbrev pub counted_by : ℕ → List HostSeatView → ℕ
counted_by slot [] = 0
counted_by slot (s ∷ ss) = slice_index s.counts slot + counted_by slot ss

-- from this slot on, each book has as many events as the seats counted
abbrev pub AreEven : ℕ → List AccountView → List HostSeatView → Type 0
AreEven slot [] seats = ⊤
AreEven slot (b ∷ bs) seats = (b.count ≡ counted_by slot seats) × AreEven (slot + 1) bs seats

-- from this slot on, the first whose book has not
abbrev pub IsFirstUneven : ℕ → List AccountView → List HostSeatView → ℕ → Type 0
IsFirstUneven slot [] seats x = ⊥
IsFirstUneven slot (b ∷ bs) seats x = ((x ≡ slot) × (b.count ≢ counted_by slot seats)) ⊎ ((b.count ≡ counted_by slot seats) × IsFirstUneven (slot + 1) bs seats x)

-- ---- receipts
-- a receipt of a caller has its entry in the book of its slot
abbrev pub HasItsEntry : List AccountView → ℕ → Receipt → Type 0
HasItsEntry books caller r = IsSomeAnd (slice_get books r.slot) (λ b. HasEntry b caller r)

-- it has, and its number is not below the least that may follow there
abbrev pub MayStand : List AccountView → ℕ → List ℕ → Receipt → Type 0
MayStand books caller next r = HasItsEntry books caller r × (slice_index next r.slot ≤ r.number)

-- the least numbers that may follow a receipt
abbrev pub after_receipt : List ℕ → Receipt → List ℕ
after_receipt next r = slice_set next r.slot (r.number + 1)

-- all of them may stand, one after another
abbrev pub MayAllStand : List AccountView → ℕ → List ℕ → List Receipt → Type 0
MayAllStand books caller next [] = ⊤
MayAllStand books caller next (r ∷ rs) = MayStand books caller next r × MayAllStand books caller (after_receipt next r) rs

-- the first that may not
abbrev pub IsFirstStray : List AccountView → ℕ → List ℕ → List Receipt → Receipt → Type 0
IsFirstStray books caller next [] x = ⊥
IsFirstStray books caller next (r ∷ rs) x = ((x ≡ r) × (MayStand books caller next r → ⊥)) ⊎ (MayStand books caller next r × IsFirstStray books caller (after_receipt next r) rs x)

-- all receipts of all seats may stand
abbrev pub AreKept : List AccountView → List HostSeatView → Type 0
AreKept books [] = ⊤
AreKept books (s ∷ ss) = MayAllStand books s.caller (replicate SLOTS 0) s.receipts × AreKept books ss

-- the first of them that may not
abbrev pub IsFirstLost : List AccountView → List HostSeatView → Receipt → Type 0
IsFirstLost books [] x = ⊥
IsFirstLost books (s ∷ ss) x =
    IsFirstStray books s.caller (replicate SLOTS 0) s.receipts x ⊎ (MayAllStand books s.caller (replicate SLOTS 0) s.receipts × IsFirstLost books ss x)

-- ---- what is answered
-- the fault that is found, each only where those before it are not
abbrev pub IsFound : List AccountView → List HostSeatView → CloseFault → Type 0
IsFound books seats Callers = AreApart seats → ⊥
IsFound books seats (Books slot) = AreApart seats × IsFirstUneven 0 books seats slot
IsFound books seats (Lost slot number) = AreApart seats × AreEven 0 books seats × ((r : Receipt) × (r.slot ≡ slot) × (r.number ≡ number) × IsFirstLost books seats r)

-- nothing is wrong
abbrev pub AreInOrder : List AccountView → List HostSeatView → Type 0
AreInOrder books seats = AreApart seats × AreEven 0 books seats × AreKept books seats

-- the same in plain words: of two places in the list of seats no two have one caller; the book of each slot has as many events as the seats counted of it;
-- each receipt of a seat has its entry in the book of its slot; and of two receipts of one seat on one slot, the later one has the greater number
pub record DoAgree (books : List AccountView) (seats : List HostSeatView) : Type 0 where
  pub callers : (i j : ℕ) (s t : HostSeatView) → i < j → slice_get seats i ≡ Some s → slice_get seats j ≡ Some t → s.caller ≢ t.caller
  pub counts : (slot : ℕ) (b : AccountView) → slice_get books slot ≡ Some b → b.count ≡ counted_by slot seats
  pub entries : (i k : ℕ) (s : HostSeatView) (r : Receipt) → slice_get seats i ≡ Some s → slice_get s.receipts k ≡ Some r → HasItsEntry books s.caller r
  pub rise : (i j k : ℕ) (s : HostSeatView) (r q : Receipt) → j < k → slice_get seats i ≡ Some s → slice_get s.receipts j ≡ Some r → slice_get s.receipts k ≡ Some q → r.slot ≡ q.slot → r.number < q.number

-- all books are true ones
abbrev pub AreTrue : List AccountView → Type 0
AreTrue [] = ⊤
AreTrue (b ∷ bs) = IsTrueAccount b × AreTrue bs

-- what is answered of some books and these seats
abbrev pub IsAnswered : List AccountView → List HostSeatView → Result ⊤ CloseFault → Type 0
IsAnswered books seats (Ok _) = AreInOrder books seats × DoAgree books seats
IsAnswered books seats (Err fault) = IsFound books seats fault

-- from this slot on, each book is that of its own slot
abbrev pub AreOwn : ℕ → List AccountView → Type 0
AreOwn slot [] = ⊤
AreOwn slot (b ∷ bs) = (b.base.state.slot ≡ slot) × AreOwn (slot + 1) bs

-- there are sixteen true books, each that of its own slot, of which this was answered
abbrev pub IsClosed : List HostSeatView → Result ⊤ CloseFault → Type 0
IsClosed seats answer = (books : List AccountView) × (length books ≡ SLOTS) × AreOwn 0 books × AreTrue books × IsAnswered books seats answer
