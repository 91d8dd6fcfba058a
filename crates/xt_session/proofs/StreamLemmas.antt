-- What is read and written one after another.
use Rattle.std.proofs.Common.{List, None, Option, Some, [], ap, append-nil, append_assoc, length, refl, subst, sym, take, drop, ℕ, ◌++◌, ◌+◌, ◌-◌, ◌∙◌}
use Rattle.std.proofs.Math.Seq.{take-add}
use Rattle.std.proofs.lemmas.List.{take_rest}
use Rattle.std.specs.Io.KnownBytes.{Appends, Consumes, Keeps}

-- two writes are one
pub appends_more : (a b c : Option (List ℕ)) (xs ys : List ℕ) → Appends a b xs → Appends b c ys → Appends a c (xs ++ ys)
appends_more None b c xs ys first second = tt
appends_more (Some held) None c xs ys first second = absurd first
appends_more (Some held) (Some more) None xs ys first second = absurd second
appends_more (Some held) (Some more) (Some all) xs ys first second = second ∙ (ap (λ x. x ++ ys) first ∙ append_assoc held xs ys)

-- nothing is written
pub appends_none : (a : Option (List ℕ)) → Appends a a []
appends_none None = tt
appends_none (Some held) = sym (append-nil held)

-- what keeps what is written adds nothing to it
pub appends_kept : (a b c : Option (List ℕ)) (xs : List ℕ) → Appends a b xs → Keeps b c → Appends a c xs
appends_kept None b c xs first kept = tt
appends_kept (Some held) None c xs first kept = absurd first
appends_kept (Some held) (Some more) None xs first kept = absurd kept
appends_kept (Some held) (Some more) (Some all) xs first kept = kept ∙ first

-- two reads are one
pub consumes_more : (a b c : Option (List ℕ)) (xs ys : List ℕ) → Consumes a b xs → Consumes b c ys → Consumes a c (xs ++ ys)
consumes_more None b c xs ys first second = tt
consumes_more (Some had) None c xs ys first second = absurd first
consumes_more (Some had) (Some has) None xs ys first second = absurd second
consumes_more (Some had) (Some has) (Some left) xs ys first second = first ∙ (ap (λ x. xs ++ x) second ∙ sym (append_assoc xs ys left))

-- nothing is read
pub consumes_none : (a : Option (List ℕ)) → Consumes a a []
consumes_none None = tt
consumes_none (Some had) = refl

-- a read that gives nothing changes nothing of what was read
pub consumes_kept : (a b c : Option (List ℕ)) (xs : List ℕ) → Consumes a b xs → Keeps b c → Consumes a c xs
consumes_kept None b c xs first kept = tt
consumes_kept (Some had) None c xs first kept = absurd first
consumes_kept (Some had) (Some has) None xs first kept = absurd kept
consumes_kept (Some had) (Some has) (Some left) xs first kept = first ∙ ap (λ x. xs ++ x) (sym kept)

-- the same of an end that gives nothing
pub consumes_end : (a b c : Option (List ℕ)) (xs : List ℕ) → Consumes a b xs → Consumes b c [] → Consumes a c xs
consumes_end a b c xs first last = subst (λ ys. Consumes a c ys) (append-nil xs) (consumes_more a b c xs [] first last)

-- a text that was written up to a place, and some more of it
pub sent_more : (a b c : Option (List ℕ)) (text : List ℕ) (sent n : ℕ) → Appends a b (take sent text) → Appends b c (take n (take (length text - sent) (drop sent text))) → Appends a c (take (sent + n) text)
sent_more a b c text sent n first second = subst (λ ys. Appends a c ys) (sym (take-add sent n text)) (appends_more a b c (take sent text) (take n (drop sent text)) first (subst (λ ys. Appends b c (take n ys)) (take_rest text sent) second))
