-- A book with one entry more.
use Rattle.std.proofs.Common.{Bool, List, [], arith, length, not, refl, ◌≤◌, ◌<◌, ◌^◌, ◌∙◌, ap, ℕ, ◌+◌, ◌++◌, ◌∷◌, ◌≡◌, subst, sym}
use Rattle.std.proofs.lemmas.List.{length-append}
use Rattle.std.proofs.lemmas.List.Sums.{sum_by-append}
use Rattle.xt_base.specs.declared.steps.Reply.{Reply}
use Rattle.std.proofs.lemmas.Bool.{false≢true}
use Rattle.std.proofs.Common.{true, false}
use Rattle.std.specs.Prelude.{if◌then◌else◌}
use Rattle.xt_base.specs.declared.steps.Step.{Step}
use Rattle.xt_base.specs.declared.steps.Step.TheVariants.{Begin, Call, End, Flush, Mount, Peek, Post, Show, Take}
use Rattle.xt_base.specs.Steps.{is_call}
use Rattle.xt_cell.specs.Books.{BaseView, IsTrueBook, Replays, count_of, entry, is_post}
use Rattle.xt_cell.specs.declared.records.Entry.{Entry}
use Rattle.xt_mount.specs.Slots.{IsServed, SlotState}

-- the entries lead to the state that a step served last leaves
pub replays_snoc : (s : SlotState) (entries : List Entry) (old new : SlotState) (caller : ℕ) (step : Step) (reply : Reply) → Replays s entries old → IsServed step reply new old → Replays s (entries ++ entry caller step reply ∷ []) new
replays_snoc s [] old new caller step reply same served = (new, subst (λ u. IsServed step reply new u) (sym same) served, refl)
replays_snoc s (e ∷ es) old new caller step reply replays served = (replays.0, replays.1, replays_snoc replays.0 es old new caller step reply replays.2 served)

-- one entry more is counted where it is no post
pub count_snoc : (entries : List Entry) (e : Entry) → count_of (entries ++ e ∷ []) ≡ count_of entries + count_of (e ∷ [])
count_snoc entries e = sum_by-append _ entries (e ∷ [])

-- a call is no post
pub call_counts : (step : Step) → is_call step ≡ true → is_post step ≡ false
call_counts (Mount slot log_bytes blocks size) call = refl
call_counts (Call slot life request answer) call = refl
call_counts (Post name) call = absurd (false≢true call)
call_counts (Take worker name) call = refl
call_counts (Begin worker name) call = refl
call_counts (End worker name answers) call = refl
call_counts (Flush worker name answers) call = refl
call_counts (Show slot) call = refl
call_counts (Peek slot) call = refl

-- one entry more that is no post
pub count_call : (entries : List Entry) (caller : ℕ) (step : Step) (reply : Reply) → is_post step ≡ false → count_of (entries ++ entry caller step reply ∷ []) ≡ count_of entries + 1
count_call entries caller step reply other =
    let more = count_snoc entries (entry caller step reply) in
    let one : count_of (entry caller step reply ∷ []) ≡ 1 = ap (λ b. 0 + (if not b then 1 else 0)) other in
    omega (arith, more, one)

-- one entry more that is a post
pub count_post : (entries : List Entry) (caller : ℕ) (step : Step) (reply : Reply) → is_post step ≡ true → count_of (entries ++ entry caller step reply ∷ []) ≡ count_of entries
count_post entries caller step reply post =
    let more = count_snoc entries (entry caller step reply) in
    let none : count_of (entry caller step reply ∷ []) ≡ 0 = ap (λ b. 0 + (if not b then 1 else 0)) post in
    omega (arith, more, none)

at_most_one : (b : Bool) → 0 + (if b then 1 else 0) ≤ 1
at_most_one true = omega arith
at_most_one false = omega arith

-- no more entries are counted than there are
pub count_few : (entries : List Entry) → count_of entries ≤ length entries
count_few [] = omega arith
count_few (e ∷ es) =
    let split : count_of (e ∷ es) ≡ count_of (e ∷ []) + count_of es = sum_by-append _ (e ∷ []) es in
    let one = at_most_one (not (is_post e.step)) in
    let rest = count_few es in
    omega (arith, split, one, rest)

module _ (slot : ℕ) (base : BaseView) (entries later : List Entry) (old new : SlotState) (total caller : ℕ) (x y : Step) (r q : Reply) where
  written : y ≡ x → q ≡ r → entries ++ entry caller y q ∷ [] ≡ entries ++ entry caller x r ∷ []
  written step_is reply_is = ap (λ z. entries ++ entry caller z q ∷ []) step_is ∙ ap (λ z. entries ++ entry caller x z ∷ []) reply_is

  -- a book with one event more
  pub written_book : (more : ℕ) → IsTrueBook slot base entries old total → IsServed x r new old → is_post x ≡ false → length entries < 2 ^ 62
      → later ≡ entries ++ entry caller y q ∷ [] → y ≡ x → q ≡ r → more ≡ total + 1 → IsTrueBook slot base later new more
  written_book more book served other room is step_is reply_is raised =
      let count = count_call entries caller x r other in
      let size = length-append entries (entry caller x r ∷ []) in
      let was = book.counts in
      subst (λ es. IsTrueBook slot base es new more) (sym (is ∙ written step_is reply_is)) (record {
        replays = replays_snoc base.state entries old new caller x r book.replays served;
        base_number = book.base_number;
        number = served.slot ∙ book.number;
        counts = omega (arith, count, was, raised);
        some_folded = book.some_folded;
        few_folded = book.few_folded;
        few = omega (arith, size, room);
      })

  -- a book with one post more
  pub posted_book : IsTrueBook slot base entries old total → IsServed x r new old → is_post x ≡ true → length entries < 2 ^ 62
      → later ≡ entries ++ entry caller y q ∷ [] → y ≡ x → q ≡ r → IsTrueBook slot base later new total
  posted_book book served post room is step_is reply_is =
      let count = count_post entries caller x r post in
      let size = length-append entries (entry caller x r ∷ []) in
      let was = book.counts in
      subst (λ es. IsTrueBook slot base es new total) (sym (is ∙ written step_is reply_is)) (record {
        replays = replays_snoc base.state entries old new caller x r book.replays served;
        base_number = book.base_number;
        number = served.slot ∙ book.number;
        counts = omega (arith, count, was);
        some_folded = book.some_folded;
        few_folded = book.few_folded;
        few = omega (arith, size, room);
      })

-- there is room for one event more in the ledger
pub few_events : (slot : ℕ) (base : BaseView) (entries : List Entry) (state : SlotState) (total : ℕ) → IsTrueBook slot base entries state total → length entries < 2 ^ 62 → total < 2 ^ 63
few_events slot base entries state total book room =
    let count = count_few entries in let was = book.counts in let some = book.some_folded in let folded_few = book.few_folded in
    omega (arith, count, was, some, folded_few, room)

-- the first entry is counted where it is no post
pub count_first : (e : Entry) (es : List Entry) → count_of (e ∷ es) ≡ (if not (is_post e.step) then 1 else 0) + count_of es
count_first e es =
    let split : count_of (e ∷ es) ≡ 0 + (if not (is_post e.step) then 1 else 0) + count_of es = sum_by-append _ (e ∷ []) es in
    omega (arith, split)

-- a book is true of the number that its base keeps
pub own_number : (slot : ℕ) (base : BaseView) (entries : List Entry) (state : SlotState) (total : ℕ) → IsTrueBook slot base entries state total → IsTrueBook base.state.slot base entries state total
own_number slot base entries state total book = subst (λ n. IsTrueBook n base entries state total) (sym book.base_number) book
