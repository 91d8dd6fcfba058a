-- What stands behind the last text of a sealed log.
use Rattle.std.proofs.Common.{arith, ◌≡◌, ◌∙◌, ◌+◌, ◌++◌, ◌<◌, ◌≤◌, List, None, Option, Some, [], ap, append-nil, append_assoc, drop, inl, inr, length, refl, subst, sym, take, ◌⊎◌, ℕ}
use Rattle.std.proofs.lemmas.List.{drop_at, length-append, length-take-le, take-append-drop, take_all, take_at}
use Rattle.std.proofs.Math.Nat.{eq-or-lt_of_le}
use Rattle.std.specs.Prelude.{Err, IfOk, IfSome, Ok, Result}
use Rattle.xt_seal.proofs.SealLemmas.{length_seal}
use Rattle.xt_seal.specs.Headers.{head_bytes, header_bytes}
use Rattle.xt_seal.specs.declared.header.Header.{Header}
use Rattle.xt_window.specs.declared.fault.LogFault.{LogFault}
use Rattle.xt_ckpt.specs.Grammar.{entries}
use Rattle.xt_ckpt.specs.declared.reading.Checkpoint.{Checkpoint}
use Rattle.xt_seal.specs.Reading.{IsFoundSealed, IsSealedNext}
use Rattle.xt_seal.specs.Seal.{BeginsNoSealed, BeginsSealed, seal_of, text_seal}
use Rattle.xt_seal.specs.Sums.{Sums}
use Rattle.xt_seal.specs.declared.reading.Sealed.{Sealed}
use Rattle.xt_window.specs.Rest.{BeginsLater, HasLater, IsRest}
use Rattle.xt_window.specs.Start.{IsFilled}
use Rattle.xt_window.specs.Window.{ahead, Held, IsRefilled, IsTied}
use Rattle.xt_window.specs.declared.rest.Rest.{Rest}

-- ---- 8 bytes, and what is judged behind them
-- a text with its seal stands there
pub later_begins : (head input before behind : List ℕ) (c : Checkpoint) (len : ℕ) (sums : Sums) → input ≡ before ++ behind → length before ≡ 8 → IsFoundSealed head before behind c len sums → BeginsLater head input
later_begins head input before behind c len sums parts eight found = record {
  before = before;
  behind = behind;
  parts = parts;
  eight = eight;
  size = c.size;
  text = take len behind;
  number = c.no;
  items = entries c.items.items;
  more = drop (len + 8) behind;
  sealed = found.begins;
}

-- none does
pub later_begins_not : (head input before behind : List ℕ) → input ≡ before ++ behind → length before ≡ 8 → BeginsNoSealed head before behind → BeginsLater head input → ⊥
later_begins_not head input before behind parts eight none later =
    let first : later.before ≡ before = sym (take_at later.before later.behind 8 later.eight) ∙ ap (take 8) (sym later.parts ∙ parts) ∙ take_at before behind 8 eight in
    let second : later.behind ≡ behind = sym (drop_at later.before later.behind 8 later.eight) ∙ ap (drop 8) (sym later.parts ∙ parts) ∙ drop_at before behind 8 eight in
    none later.size later.text later.more later.number later.items
    (subst (λ xs. BeginsSealed head xs later.size behind later.text later.number later.items later.more) first
    (subst (λ xs. BeginsSealed head later.before later.size xs later.text later.number later.items later.more) second later.sealed))

-- what is judged behind the first 8 bytes, up to the end
pub later_text : (head input : List ℕ) (found : Sealed) (c : Checkpoint) (len : ℕ) (new : Sums) → found ≡ Sealed.Text c len → 8 ≤ length input → (n : ℕ) → length (drop 8 input) ≤ n → IsSealedNext head (take 8 input) (take n (drop 8 input)) found new → BeginsLater head input
later_text head input found c len new is long n all judged =
    later_begins head input (take 8 input) (drop 8 input) c len new (sym (take-append-drop 8 input)) (length-take-le 8 input long)
    (subst (λ xs. IsFoundSealed head (take 8 input) xs c len new) (take_all n (drop 8 input) all) (subst (λ f. IsSealedNext head (take 8 input) (take n (drop 8 input)) f new) is judged))

pub later_nothing : (head input : List ℕ) (found : Sealed) (new : Sums) → found ≡ Sealed.Nothing → 8 ≤ length input → (n : ℕ) → length (drop 8 input) ≤ n → IsSealedNext head (take 8 input) (take n (drop 8 input)) found new → BeginsLater head input → ⊥
later_nothing head input found new is long n all judged =
    let none : (more : List ℕ) → BeginsNoSealed head (take 8 input) (take n (drop 8 input) ++ more) = subst (λ f. IsSealedNext head (take 8 input) (take n (drop 8 input)) f new) is judged in
    later_begins_not head input (take 8 input) (drop 8 input) (sym (take-append-drop 8 input)) (length-take-le 8 input long) (subst (BeginsNoSealed head (take 8 input)) (append-nil (take n (drop 8 input)) ∙ take_all n (drop 8 input) all) (none []))

pub later_more : (head input : List ℕ) (found : Sealed) (new : Sums) → found ≡ Sealed.More → 8 ≤ length input → (n : ℕ) → length (drop 8 input) ≤ n → IsSealedNext head (take 8 input) (take n (drop 8 input)) found new → BeginsLater head input → ⊥
later_more head input found new is long n all judged =
    later_begins_not head input (take 8 input) (drop 8 input) (sym (take-append-drop 8 input)) (length-take-le 8 input long)
    (subst (BeginsNoSealed head (take 8 input)) (take_all n (drop 8 input) all) (subst (λ f. IsSealedNext head (take 8 input) (take n (drop 8 input)) f new) is judged))

-- so few bytes have none
pub later_room : (head input : List ℕ) → BeginsLater head input → 8 ≤ length input
later_room head input later = omega (arith, later.eight, ap (λ xs. length xs) later.parts, length-append later.before later.behind)

-- ---- all places up to one were judged
pub record IsLookedAt (head bytes : List ℕ) (at : ℕ) : Type 0 where
  none : (front rest : List ℕ) → bytes ≡ front ++ rest → length front < at → BeginsLater head rest → ⊥

pub looked_first : (head bytes : List ℕ) → IsLookedAt head bytes 0
looked_first head bytes = record { none = λ front rest parts less later. absurd (omega (arith, less)) }

pub looked_next : (head bytes : List ℕ) (at n : ℕ) → IsLookedAt head bytes at → length (drop at bytes) ≤ n → (BeginsLater head (take n (drop at bytes)) → ⊥) → IsLookedAt head bytes (at + 1)
looked_next head bytes at n done all none = record { none = λ front rest parts less later. by_place front rest parts (split (length front) less) later }
  where
    split : (n : ℕ) → n < at + 1 → (n ≡ at) ⊎ (n < at)
    split n less = eq-or-lt_of_le (omega (arith, less))

    by_place : (front rest : List ℕ) → bytes ≡ front ++ rest → (length front ≡ at) ⊎ (length front < at) → BeginsLater head rest → ⊥
    by_place front rest parts (inr before) later = done.none front rest parts before later
    by_place front rest parts (inl here) later = none (subst (BeginsLater head) (sym (take_all n (drop at bytes) all ∙ ap (drop at) parts ∙ drop_at front rest at here)) later)

pub looked_all : (head bytes : List ℕ) (at : ℕ) → IsLookedAt head bytes at → length bytes ≤ at → HasLater head bytes → ⊥
looked_all head bytes at done all has =
    done.none has.front has.rest has.parts (omega (arith, all, later_room head has.rest has.later, ap (λ xs. length xs) has.parts, length-append has.front has.rest)) has.later

pub looked_found : (head bytes : List ℕ) (at n : ℕ) → length (drop at bytes) ≤ n → BeginsLater head (take n (drop at bytes)) → HasLater head bytes
looked_found head bytes at n all later =
    record { front = take at bytes; rest = drop at bytes; parts = sym (take-append-drop at bytes); later = subst (BeginsLater head) (take_all n (drop at bytes) all) later }

-- ---- a front, and the whole
later_of_front : (head front more : List ℕ) → HasLater head front → HasLater head (front ++ more)
later_of_front head front more has = record {
  front = has.front;
  rest = has.rest ++ more;
  parts = ap (λ xs. xs ++ more) has.parts ∙ append_assoc has.front has.rest more;
  later = record {
    before = has.later.before;
    behind = has.later.behind ++ more;
    parts = ap (λ xs. xs ++ more) has.later.parts ∙ append_assoc has.later.before has.later.behind more;
    eight = has.later.eight;
    size = has.later.size;
    text = has.later.text;
    number = has.later.number;
    items = has.later.items;
    more = has.later.more ++ more;
    sealed = record {
      is = has.later.sealed.is;
      parts = ap (λ xs. xs ++ more) has.later.sealed.parts ∙ append_assoc has.later.text (text_seal head has.later.before has.later.text ++ has.later.more) more
          ∙ ap (λ xs. has.later.text ++ xs) (append_assoc (text_seal head has.later.before has.later.text) has.later.more more);
    };
  };
}

-- what a front is, the whole is: it is the front, or that has more bytes than may stand there
rest_of_front : (head front more : List ℕ) (rest : Rest) → (263213 ≤ length front) ⊎ (more ≡ []) → IsRest head front rest → IsRest head (front ++ more) rest
rest_of_front head front more rest (inr none) is = subst (λ xs. IsRest head xs rest) (sym (ap (λ xs. front ++ xs) none ∙ append-nil front)) is
rest_of_front head front more (Rest.Torn count) (inl long) is = absurd (omega (arith, long, is.1))
rest_of_front head front more Rest.TooLong (inl long) is = omega (arith, is, length-append front more)
rest_of_front head front more Rest.Later (inl long) is = later_of_front head front more is

pub is_rest : (head : List ℕ) (old mid : Held) (had left : Option (List ℕ)) (rest : Rest) → IsRefilled old mid had left → IsFilled 263213 mid → IsRest head mid.bytes rest → IfSome (ahead old had) (λ log. IsRest head log rest)
is_rest head old mid None left rest read filled is = tt
is_rest head old mid (Some xs) None rest read filled is = absurd read.same
is_rest head old mid (Some xs) (Some ys) rest read filled is = subst (λ log. IsRest head log rest) read.same (rest_of_front head mid.bytes ys rest (enough filled) is)
  where
    enough : IsFilled 263213 mid → (263213 ≤ length mid.bytes) ⊎ (ys ≡ [])
    enough (inl long) = inl long
    enough (inr over) = inr (read.tied over)

-- of whatever is judged
pub rest_known : (head : List ℕ) (old mid : Held) (had left : Option (List ℕ)) (judged : Result Rest LogFault) → IsRefilled old mid had left → IsFilled 263213 mid → IfOk judged (λ rest. IsRest head mid.bytes rest)
    → IfOk judged (λ rest. IfSome (ahead old had) (λ log. IsRest head log rest))
rest_known head old mid had left (Ok rest) read filled is = is_rest head old mid had left rest read filled is
rest_known head old mid had left (Err fault) read filled is = tt

-- the bytes of a header without its seal
pub head_of : (h : Header) (bytes : List ℕ) → length bytes ≡ 64 → bytes ≡ header_bytes h → take 56 bytes ≡ head_bytes h
head_of h bytes long is =
    ap (take 56) is
    ∙ take_at (head_bytes h) (seal_of (head_bytes h)) 56 (omega (arith, long, ap (λ xs. length xs) is, length-append (head_bytes h) (seal_of (head_bytes h)), length_seal (head_bytes h)))

-- what is found in bytes of another name
pub later_as : (head other bytes xs : List ℕ) → head ≡ other → bytes ≡ xs → HasLater head bytes → HasLater other xs
later_as head other bytes xs one two has = subst (λ h. HasLater h xs) one (subst (HasLater head) two has)
