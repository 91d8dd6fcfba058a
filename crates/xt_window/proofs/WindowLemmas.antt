-- A window over a reader: what is ahead of it in a log.
use Rattle.std.proofs.Common.{Bool, [], inl, inr, true, ◌⊎◌, ◌≡◌, ◌∙◌, ◌+◌, ◌<◌, ◌≤◌, ◌++◌, ℕ, List, Option, Some, None, append-nil, append_assoc, ap, arith, drop, false, length, refl, subst, sym, take, true≢false}
use Rattle.std.proofs.lemmas.List.{append_cancel_left, drop-append-le, length-append, take-append-drop, take-append-le, take_at}
use Rattle.std.specs.Io.KnownBytes.{Keeps}
use Rattle.std.specs.Prelude.{IfSome}
use Rattle.xt_ckpt.specs.Fields.{IsFaultAt, IsUnfinished}
use Rattle.xt_ckpt.specs.Grammar.{IsTextIn, entries}
use Rattle.xt_ckpt.specs.Reading.{Begins}
use Rattle.xt_ckpt.specs.declared.reading.Checkpoint.{Checkpoint}
use Rattle.xt_seal.proofs.SealLemmas.{length_seal}
use Rattle.xt_seal.specs.Reading.{IsFoundSealed, IsSealedNext}
use Rattle.xt_seal.specs.declared.reading.Sealed.{Sealed}
use Rattle.xt_seal.specs.Seal.{BeginsNoSealed, Seals, text_seal}
use Rattle.xt_seal.specs.Sums.{Sums}
use Rattle.xt_window.specs.Window.{ahead, is_too_long, unread, Held, IsAhead, IsAheadSealed, IsNext, IsNextSealed, IsOfGrammar, IsRefilled, IsTakenSealed, IsTextSealed, IsTied, IsWhy}
use Rattle.xt_window.specs.declared.fault.LogFault.{LogFault}
use Rattle.xt_window.specs.declared.fault.LogFault.TheVariants.{Io, Memory, TooLong}
use Rattle.xt_window.specs.declared.window.Found.{Found}
use Rattle.xt_window.specs.declared.window.SealedText.{SealedText}

-- ---- a front of a log, and the log
-- a text that begins a front begins the whole
text_of_front : (front more : List ℕ) (c : Checkpoint) (size : ℕ) → Begins front c size → Begins (front ++ more) c size
text_of_front front more c size begins =
    (omega (arith, begins.0, length-append front more), subst (λ t. IsTextIn c.size t c.no (entries c.items.items)) (sym (take-append-le size front more begins.0)) begins.1)

-- a field that breaks its rule in a front breaks it in the whole
fault_of_front : (front more : List ℕ) (at : ℕ) → IsFaultAt at front → IsFaultAt at (front ++ more)
fault_of_front front more at is = record {
  draft = is.draft;
  front = is.front;
  bytes = is.bytes;
  rest = is.rest ++ more;
  parts = ap (λ t. t ++ more) is.parts ∙ append_assoc (is.front ++ is.bytes) is.rest more;
  place = is.place;
  reads = is.reads;
  more = is.more;
  whole = is.whole;
  broken = is.broken;
}

-- it begins within the front
fault_within : (front : List ℕ) (at : ℕ) → IsFaultAt at front → at < length front
fault_within front at is = omega (arith, is.place, ap (λ t. length t) is.parts, length-append (is.front ++ is.bytes) is.rest, length-append is.front is.bytes, is.more, is.whole)

-- ---- reading on
keeps_same : (known : Option (List ℕ)) → Keeps known known
keeps_same None = tt
keeps_same (Some x) = refl

keeps_then : (a b c : Option (List ℕ)) → Keeps a b → Keeps b c → Keeps a c
keeps_then None b c first second = tt
keeps_then (Some x) None c first second = absurd first
keeps_then (Some x) (Some y) None first second = absurd second
keeps_then (Some x) (Some y) (Some z) first second = second ∙ first

-- at the beginning the log goes on
pub tied_first : (limit : ℕ) (h : Held) (left : Option (List ℕ)) → h ≡ unread limit → IsTied h left
tied_first limit h left is over = absurd (true≢false (sym over ∙ ap (λ w. w.is_ended) is))

-- nothing is read
pub refilled_none : (h : Held) (left : Option (List ℕ)) → IsTied h left → IsRefilled h h left left
refilled_none h left tied = record { place = refl; limit = refl; same = keeps_same (ahead h left); tied = tied }

-- some more is read
pub refilled_more : (old mid new : Held) (had left has : Option (List ℕ)) → IsRefilled old mid had left → IsRefilled mid new left has → IsRefilled old new had has
refilled_more old mid new had left has first second = record {
  place = second.place ∙ first.place;
  limit = second.limit ∙ first.limit;
  same = keeps_then (ahead old had) (ahead mid left) (ahead new has) first.same second.same;
  tied = second.tied;
}

-- ---- what is found
-- what comes next of a known log, by what is found in the front that is held
found_known : (old : Held) (log left : List ℕ) (mid new : Held) (found : Found) → mid.offset ≡ old.offset → mid.limit ≡ old.limit → mid.bytes ++ left ≡ log → IsTied mid (Some left) → mid.offset + length mid.bytes ≤ mid.limit → IsNext mid (Some found) new → IsAhead old log found new (Some left)
found_known old log left mid new (Found.Text c) place same joined tied bound (size, (begins, is)) = (
  size,
  (
    subst (λ t. Begins t c size) joined (text_of_front mid.bytes left c size begins),
    (
      ap (λ h. h.offset) is ∙ ap (λ n. n + size) place,
      ap (λ h. Some (h.bytes ++ left)) is ∙ ap Some (sym (drop-append-le size mid.bytes left begins.0) ∙ ap (drop size) joined),
    ),
  ),
)
found_known old log left mid new (Found.Rest count) place same joined tied bound (over, (unfinished, (counted, is))) =
    let whole : mid.bytes ≡ log = sym (append-nil mid.bytes) ∙ (ap (λ t. mid.bytes ++ t) (sym (tied over)) ∙ joined) in
    (subst (λ t. IsUnfinished t) whole unfinished, (counted ∙ ap (λ t. length t) whole, omega (arith, bound, place, same, ap (λ t. length t) whole)))
found_known old log left mid new (Found.Fault at) place same joined tied bound (inside, (is, (told, kept))) = (
  inside,
  (
    subst (λ t. IsFaultAt inside t) joined (fault_of_front mid.bytes left inside is),
    (told ∙ ap (λ n. n + inside) place, omega (arith, told, bound, same, fault_within mid.bytes inside is)),
  ),
)

-- what comes next of a log, where it is known
pub is_ahead : (old mid new : Held) (had left : Option (List ℕ)) (found : Found) → IsRefilled old mid had left → mid.offset + length mid.bytes ≤ mid.limit → IsNext mid (Some found) new → IfSome (ahead old had) (λ log. IsAhead old log found new left)
is_ahead old mid new None left found read bound next = tt
is_ahead old mid new (Some xs) None found read bound next = absurd read.same
is_ahead old mid new (Some xs) (Some ys) found read bound next = found_known old (old.bytes ++ xs) ys mid new found read.place read.limit read.same read.tied bound next

-- what was found leaves the reader as it is
pub is_tied : (mid new : Held) (left : Option (List ℕ)) (found : Found) → IsTied mid left → IsNext mid (Some found) new → IsTied new left
is_tied mid new left (Found.Text c) tied next over = tied (sym (ap (λ h. h.is_ended) next.1.1) ∙ over)
is_tied mid new left (Found.Rest count) tied next over = tied (sym (ap (λ h. h.is_ended) next.1.1.1) ∙ over)
is_tied mid new left (Found.Fault at) tied next over = tied (sym (ap (λ h. h.is_ended) next.1.1.1) ∙ over)

-- and how many bytes the log may have
pub same_limit : (mid new : Held) (found : Found) → IsNext mid (Some found) new → new.limit ≡ mid.limit
same_limit mid new (Found.Text c) next = ap (λ h. h.limit) next.1.1
same_limit mid new (Found.Rest count) next = ap (λ h. h.limit) next.1.1.1
same_limit mid new (Found.Fault at) next = ap (λ h. h.limit) next.1.1.1

-- a text that is found is one of the grammar
pub is_of_grammar : (mid new : Held) (found : Found) → IsNext mid (Some found) new → IsOfGrammar found
is_of_grammar mid new (Found.Text c) (len, (begins, is)) = (take len mid.bytes, begins.1)
is_of_grammar mid new (Found.Rest count) next = tt
is_of_grammar mid new (Found.Fault at) next = tt

-- ---- faults
-- of a fault other than of length nothing is said
pub why_any : (limit size : ℕ) (fault : LogFault) → is_too_long fault ≡ false → IsWhy limit size fault
why_any limit size TooLong other = absurd (true≢false other)
why_any limit size (Io error) other = tt
why_any limit size (Memory error) other = tt

pub why_other : (known : Option (List ℕ)) (limit offset : ℕ) (fault : LogFault) → is_too_long fault ≡ false → IfSome known (λ log. IsWhy limit (offset + length log) fault)
why_other None limit offset fault other = tt
why_other (Some log) limit offset fault other = why_any limit (offset + length log) fault other

-- why a log was not read further
pub why_ahead : (old mid : Held) (had left : Option (List ℕ)) (fault : LogFault) → IsRefilled old mid had left → IfSome (ahead mid left) (λ log. IsWhy mid.limit (mid.offset + length log) fault) → IfSome (ahead old had) (λ log. IsWhy old.limit (old.offset + length log) fault)
why_ahead old mid None left fault read why = tt
why_ahead old mid (Some xs) None fault read why = absurd read.same
why_ahead old mid (Some xs) (Some ys) fault read why =
    subst (λ m. IsWhy m (old.offset + length (old.bytes ++ xs)) fault) read.limit
    (subst (λ n. IsWhy mid.limit n fault) (ap (λ n. n + length (mid.bytes ++ ys)) read.place ∙ ap (λ t. old.offset + length t) read.same) why)

-- ---- a sealed log
-- a text and its seal that begin a front begin the whole
sealed_of_front : (head before front more : List ℕ) (c : Checkpoint) (len : ℕ) (sums : Sums) → IsFoundSealed head before front c len sums → IsFoundSealed head before (front ++ more) c len sums
sealed_of_front head before front more c len sums found =
    let room = found.room in
    let same : take len (front ++ more) ≡ take len front = take-append-le len front more (omega (arith, room)) in
    let left : List ℕ = drop (len + 8) front in
    let seal : List ℕ = text_seal head before (take len front) in
    let parts : front ++ more ≡ take len front ++ (seal ++ drop (len + 8) (front ++ more)) =
    ap (λ t. t ++ more) found.begins.parts ∙ append_assoc (take len front) (seal ++ left) more
    ∙ ap (λ t. take len front ++ t) (append_assoc seal left more ∙ ap (λ t. seal ++ t) (sym (drop-append-le (len + 8) front more room))) in
    record {
      room = omega (arith, room, length-append front more);
      begins = record {
        is = subst (λ t. IsTextIn c.size t c.no (entries c.items.items)) (sym same) found.begins.is;
        parts = parts ∙ ap (λ t. t ++ (text_seal head before t ++ drop (len + 8) (front ++ more))) (sym same);
      };
      next = subst (λ t. Seals sums head (text_seal head before t) []) (sym same) found.next;
    }

text_sealed_of_front : (head before front more : List ℕ) (t : SealedText) (len : ℕ) (sums : Sums) → IsTextSealed head before front t len sums → IsTextSealed head before (front ++ more) t len sums
text_sealed_of_front head before front more t len sums is = record {
  found = sealed_of_front head before front more t.checkpoint len sums is.found;
  seal = is.seal ∙ ap (text_seal head before) (sym (take-append-le len front more (omega (arith, is.found.room))));
}

sealed_known : (head before : List ℕ) (old : Held) (log left : List ℕ) (mid new : Held) (found : Option SealedText) (sums : Sums) → mid.offset ≡ old.offset → mid.bytes ++ left ≡ log → IsTied mid (Some left)
    → IsNextSealed head before mid (Some found) sums new → IsAheadSealed head before old log found sums new (Some left)
sealed_known head before old log left mid new (Some t) sums place joined tied (len, (found, is)) = (
  len,
  (
    subst (λ xs. IsTextSealed head before xs t len sums) joined (text_sealed_of_front head before mid.bytes left t len sums found),
    (
      ap (λ h. h.offset) is ∙ ap (λ n. n + (len + 8)) place,
      ap (λ h. Some (h.bytes ++ left)) is ∙ ap Some (sym (drop-append-le (len + 8) mid.bytes left found.found.room) ∙ ap (drop (len + 8)) joined),
    ),
  ),
)
sealed_known head before old log left mid new None sums place joined tied (inl whatever, is) =
    (subst (BeginsNoSealed head before) joined (whatever left), (ap (λ h. h.offset) is ∙ place, ap (λ h. Some (h.bytes ++ left)) is ∙ ap Some joined))
sealed_known head before old log left mid new None sums place joined tied (inr (over, none), is) = (
  subst (BeginsNoSealed head before) (sym (append-nil mid.bytes) ∙ (ap (λ t. mid.bytes ++ t) (sym (tied over)) ∙ joined)) none,
  (ap (λ h. h.offset) is ∙ place, ap (λ h. Some (h.bytes ++ left)) is ∙ ap Some joined),
)

-- what comes next of a sealed log, where it is known
pub is_ahead_sealed : (head before : List ℕ) (old mid new : Held) (had left : Option (List ℕ)) (found : Option SealedText) (sums : Sums) → IsRefilled old mid had left
    → IsNextSealed head before mid (Some found) sums new → IfSome (ahead old had) (λ log. IsAheadSealed head before old log found sums new left)
is_ahead_sealed head before old mid new None left found sums read next = tt
is_ahead_sealed head before old mid new (Some xs) None found sums read next = absurd read.same
is_ahead_sealed head before old mid new (Some xs) (Some ys) found sums read next = sealed_known head before old (old.bytes ++ xs) ys mid new found sums read.place read.same read.tied next

-- the same for each way in which it is known
pub for_all_sums : (old new : Held) (had left : Option (List ℕ)) (found : Option SealedText) (start sums : Sums)
    → ((head before : List ℕ) → Seals start head before [] → IfSome (ahead old had) (λ log. IsAheadSealed head before old log found sums new left))
    → IfSome (ahead old had) (λ log. (head before : List ℕ) → Seals start head before [] → IsAheadSealed head before old log found sums new left)
for_all_sums old new None left found start sums each = tt
for_all_sums old new (Some xs) left found start sums each = λ head before seals. each head before seals

-- a text that was taken is of the grammar, and summed up
pub taken_sealed : (mid new : Held) (found : Option SealedText) (start sums : Sums) → ((head before : List ℕ) → Seals start head before [] → IsNextSealed head before mid (Some found) sums new)
    → IfSome found (λ t. (head before : List ℕ) → Seals start head before [] → IsTakenSealed head before t sums)
taken_sealed mid new None start sums each = tt
taken_sealed mid new (Some t) start sums each = λ head before seals.
    let next = each head before seals in
    let is : IsTextSealed head before mid.bytes t next.0 sums = next.1.0 in
    (take next.0 mid.bytes, (is.found.begins.is, (is.seal, subst (λ xs. Seals sums head xs []) (sym is.seal) is.found.next)))

-- a text, and the seal that was read behind it
pub text_next : (head before input bytes seal : List ℕ) (found : Sealed) (c : Checkpoint) (len : ℕ) (sums : Sums) → found ≡ Sealed.Text c len → input ≡ bytes → seal ≡ take 8 (drop len bytes) → IsSealedNext head before input found sums
    → IsTextSealed head before bytes (record { checkpoint = c; seal = seal }) len sums
text_next head before input bytes seal found c len sums is same read next =
    let text : IsFoundSealed head before bytes c len sums = subst (λ xs. IsFoundSealed head before xs c len sums) same (subst (λ f. IsSealedNext head before input f sums) is next) in
    let due : List ℕ = text_seal head before (take len bytes) in
    let behind : drop len bytes ≡ due ++ drop (len + 8) bytes = append_cancel_left (take len bytes) (drop len bytes) (due ++ drop (len + 8) bytes) (take-append-drop len bytes ∙ text.begins.parts) in
    record { found = text; seal = read ∙ ap (take 8) behind ∙ take_at due (drop (len + 8) bytes) 8 (length_seal (head ++ before ++ take len bytes)) }

-- no text with its seal, whatever follows
pub nothing_next : (head before input bytes : List ℕ) (found : Sealed) (new : Sums) (ended : Bool) → found ≡ Sealed.Nothing → input ≡ bytes → IsSealedNext head before input found new
    → ((more : List ℕ) → BeginsNoSealed head before (bytes ++ more)) ⊎ ((ended ≡ true) × BeginsNoSealed head before bytes)
nothing_next head before input bytes found new ended is same next =
    let none : (more : List ℕ) → BeginsNoSealed head before (input ++ more) = subst (λ f. IsSealedNext head before input f new) is next in
    inl (λ more. subst (λ t. BeginsNoSealed head before (t ++ more)) same (none more))

-- none yet, and the log ends
pub more_next : (head before input bytes : List ℕ) (found : Sealed) (new : Sums) (ended : Bool) → found ≡ Sealed.More → input ≡ bytes → ended ≡ true → IsSealedNext head before input found new
    → ((more : List ℕ) → BeginsNoSealed head before (bytes ++ more)) ⊎ ((ended ≡ true) × BeginsNoSealed head before bytes)
more_next head before input bytes found new ended is same over next =
    let none : BeginsNoSealed head before input = subst (λ f. IsSealedNext head before input f new) is next in
    inr (over, subst (BeginsNoSealed head before) same none)
