-- What is written one after another.
use Rattle.std.proofs.Common.{◌≡◌, ◌<◌, ◌∙◌, ℕ, suc, List, [], ◌∷◌, ◌++◌, Option, Some, None, sym, ap, subst, refl, append_assoc, append-nil, length, get_or, take, drop, drop-cons}
use Rattle.std.proofs.lemmas.Grind.{flat_map-append}
use Rattle.std.proofs.lemmas.List.{take-append-drop}
use Rattle.std.proofs.lemmas.List.Concat.{flat_map-cons}
use Rattle.std.specs.Prelude.{Err, Ok, OnOk, Result, flat_map}
use Rattle.std.specs.Io.KnownBytes.{Appends, Keeps}
use Rattle.xt_offline.specs.Printing.{Begins, IsWrittenUpTo}

-- two writes are one
pub appends_more : (a b c : Option (List ℕ)) (xs ys : List ℕ) → Appends a b xs → Appends b c ys → Appends a c (xs ++ ys)
appends_more None b c xs ys first second = tt
appends_more (Some held) None c xs ys first second = absurd first
appends_more (Some held) (Some more) None xs ys first second = absurd second
appends_more (Some held) (Some more) (Some all) xs ys first second = second ∙ ap (λ x. x ++ ys) first ∙ append_assoc held xs ys

-- nothing is written
pub appends_none : (a : Option (List ℕ)) → Appends a a []
appends_none None = tt
appends_none (Some held) = sym (append-nil held)

-- what stays has nothing appended
pub appends_kept_none : (a b : Option (List ℕ)) → Keeps a b → Appends a b []
appends_kept_none None b kept = tt
appends_kept_none (Some held) None kept = absurd kept
appends_kept_none (Some held) (Some now) kept = kept ∙ sym (append-nil held)

-- what was appended stays
pub appends_kept : (old between new : Option (List ℕ)) (text : List ℕ) → Appends old between text → Keeps between new → Appends old new text
appends_kept None between new text written kept = tt
appends_kept (Some o) None new text written kept = absurd written
appends_kept (Some o) (Some b) None text written kept = absurd kept
appends_kept (Some o) (Some b) (Some n) text written kept = kept ∙ written

-- what was written stays as it is
pub keeps_same : (old : Option (List ℕ)) → Keeps old old
keeps_same None = tt
keeps_same (Some bytes) = refl

-- all of a text is a beginning of it
pub begins_all : (a b : Option (List ℕ)) (text : List ℕ) → Appends a b text → Begins a b text
begins_all a b text written = record { part = text; rest = []; cut = sym (append-nil text); written = written }

-- and so is nothing
pub begins_none : (a b : Option (List ℕ)) (text : List ℕ) → Keeps a b → Begins a b text
begins_none a b text kept = record { part = []; rest = text; cut = refl; written = appends_kept_none a b kept }

pub begins_same : (a : Option (List ℕ)) (text : List ℕ) → Begins a a text
begins_same a text = begins_none a a text (keeps_same a)

-- a text was written, and then a beginning of what follows it
pub begins_then : (a b c : Option (List ℕ)) (xs ys : List ℕ) → Appends a b xs → Begins b c ys → Begins a c (xs ++ ys)
begins_then a b c xs ys written begun = record {
  part = xs ++ begun.part;
  rest = begun.rest;
  cut = ap (λ t. xs ++ t) begun.cut ∙ sym (append_assoc xs begun.part begun.rest);
  written = appends_more a b c xs begun.part written begun.written;
}

-- a beginning of a text is one of a longer text
pub begins_longer : (a b : Option (List ℕ)) (xs ys : List ℕ) → Begins a b xs → Begins a b (xs ++ ys)
begins_longer a b xs ys begun = record {
  part = begun.part;
  rest = begun.rest ++ ys;
  cut = ap (λ t. t ++ ys) begun.cut ∙ append_assoc begun.part begun.rest ys;
  written = begun.written;
}

-- what was begun stays
pub begins_kept : (a b c : Option (List ℕ)) (text : List ℕ) → Begins a b text → Keeps b c → Begins a c text
begins_kept a b c text begun kept = record { part = begun.part; rest = begun.rest; cut = begun.cut; written = appends_kept a b c begun.part begun.written kept }

-- no byte was written yet
pub written_none : (a : Option (List ℕ)) (bytes : List ℕ) → IsWrittenUpTo a a bytes bytes
written_none a bytes = record { part = []; cut = refl; written = appends_none a }

-- some more bytes were written
pub written_more : (a b c : Option (List ℕ)) (bytes rest after : List ℕ) → IsWrittenUpTo a b bytes rest → IsWrittenUpTo b c rest after → IsWrittenUpTo a c bytes after
written_more a b c bytes rest after first more = record {
  part = first.part ++ more.part;
  cut = first.cut ∙ (ap (λ t. first.part ++ t) more.cut ∙ sym (append_assoc first.part more.part after));
  written = appends_more a b c first.part more.part first.written more.written;
}

-- all bytes were written
pub written_all : (a b : Option (List ℕ)) (bytes rest : List ℕ) → IsWrittenUpTo a b bytes rest → rest ≡ [] → Appends a b bytes
written_all a b bytes rest done none = subst (λ t. Appends a b t) (sym (done.cut ∙ (ap (λ t. done.part ++ t) none ∙ append-nil done.part))) done.written

-- the bytes that were written are a beginning
pub written_begins : (a b : Option (List ℕ)) (bytes rest : List ℕ) → IsWrittenUpTo a b bytes rest → Begins a b bytes
written_begins a b bytes rest done = record { part = done.part; rest = rest; cut = done.cut; written = done.written }

-- the same where a writer then failed
pub written_fails : (a b c : Option (List ℕ)) (bytes rest : List ℕ) → IsWrittenUpTo a b bytes rest → Keeps b c → Begins a c bytes
written_fails a b c bytes rest done kept = begins_kept a b c bytes (written_begins a b bytes rest done) kept

-- ---- texts one after another
-- a second text was written behind a first one, where it was
pub appends_then : {T E : Type 0} (r : Result T E) (a b c : Option (List ℕ)) (xs ys : List ℕ) → Appends a b xs → OnOk r (Appends b c ys) → OnOk r (Appends a c (xs ++ ys))
appends_then (Ok x) a b c xs ys first second = appends_more a b c xs ys first second
appends_then (Err e) a b c xs ys first second = tt

-- the text of a list, cut at an element
pub flat_cut : {X : Type 0} (f : X → List ℕ) (xs : List X) (i : ℕ) (x : X) → i < length xs → x ≡ get_or xs i x → flat_map f xs ≡ flat_map f (take i xs) ++ (f x ++ flat_map f (drop (suc i) xs))
flat_cut f xs i x within at =
    ap (λ t. flat_map f t) (sym (take-append-drop i xs) ∙ ap (λ t. take i xs ++ t) (drop-cons xs i x within ∙ ap (λ y. y ∷ drop (suc i) xs) (sym at)))
    ∙ (flat_map-append f (take i xs) (x ∷ drop (suc i) xs) ∙ ap (λ t. flat_map f (take i xs) ++ t) (flat_map-cons f x (drop (suc i) xs)))

-- the texts before an element were written, and then a beginning of its own
pub begins_at : {X : Type 0} (f : X → List ℕ) (xs : List X) (i : ℕ) (x : X) (a b c : Option (List ℕ)) → i < length xs → x ≡ get_or xs i x → Appends a b (flat_map f (take i xs)) → Begins b c (f x) → Begins a c (flat_map f xs)
begins_at f xs i x a b c within at written begun =
    subst (λ t. Begins a c t) (sym (flat_cut f xs i x within at)) (begins_then a b c (flat_map f (take i xs)) (f x ++ flat_map f (drop (suc i) xs)) written (begins_longer b c (f x) (flat_map f (drop (suc i) xs)) begun))
