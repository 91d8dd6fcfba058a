-- What steps told one after another is what a run of them tells.
use Rattle.std.proofs.Common.{◌≡◌, ◌∙◌, ◌+◌, ◌<◌, ◌≤◌, ◌++◌, ◌∷◌, List, Option, [], ap, false, get_or, inl, inr, length, refl, subst, sym, take, true≢false, ℕ}
use Rattle.std.proofs.lemmas.Bool.{cases_Bool}
use Rattle.std.proofs.lemmas.List.{take_all, take_more}
use Rattle.std.proofs.lemmas.Option.{get_or_from_slice_get}
use Rattle.std.specs.Prelude.{Err, IfOk, MatchResult, Ok, Result, if◌then◌else◌, is_ok}
use Rattle.xt_base.specs.Alone.{Said, reason_of}
use Rattle.xt_base.specs.Isolation.{BreaksAt, Tells, Told, is_no_memory, told_refused, told_taken, told_then, untold}
use Rattle.xt_base.specs.Steps.{slot_of}
use Rattle.xt_base.specs.declared.outcomes.RunFault.TheVariants.{Disorder}
use Rattle.xt_base.specs.declared.steps.Reason.{Reason}
use Rattle.xt_base.specs.declared.steps.Step.{Step}
use Rattle.xt_core.proofs.HostRunLemmas.{IsHostRun, end_tells, go_on, host_more, host_none, stop}
use Rattle.xt_core.specs.Host.{Host, IsNew, lone_of, may_come}
use Rattle.xt_core.specs.Runs.{AreTurnsOf, IsBarred, IsMore, IsSaid, IsToldBy}

-- a run told these turns, and led to a host
abbrev IsRunOf : List Step → List Said → Host → Type 0
IsRunOf xs turns host = (o : Told) × ((o.turns ≡ turns) × IsHostRun xs o host)

then_turns : (o : Told) (t : Said) (why : Option Reason) → (told_then o t why).turns ≡ o.turns ++ t ∷ []
then_turns o t why =
    elim (cases_Bool (is_no_memory t.reply)) [
      | inl refused ↦ ap (λ b. (if b then told_refused o t why else told_taken o t why).turns) refused
      | inr went ↦ ap (λ b. (if b then told_refused o t why else told_taken o t why).turns) went
    ]

-- what steps told one after another is what a run of them tells
run_of : {xs : List Step} {turns : List Said} {host : Host} → IsToldBy xs turns host → IsRunOf xs turns host
run_of (IsToldBy.none host is) = (untold, (refl, host_none host is))
run_of (IsToldBy.more ys turns x t host old before small said) =
    let b : IsRunOf ys turns old = run_of before in
    let why : Option Reason = reason_of (lone_of host (slot_of x)).mounted in
    (told_then b.0 t why, (then_turns b.0 t why ∙ ap (λ l. l ++ t ∷ []) b.1.0, host_more ys b.0 (told_then b.0 t why) host old x b.1.1 (t, (said, refl, small))))

-- one more step, whose turn is passed on
pub tell_more : {E D : Type 0} (r : Result Said E) (q : Result Said D) (Q : E → Type 0) (xs : List Step) (turns : List Said) (x : Step) (new old : Host) → is_ok q ≡ is_ok r → MatchResult r (λ t. q ≡ Ok t) Q
    → IfOk r (λ t. IsSaid x t new old) → IfOk r (λ _. slot_of x < 16) → IsToldBy xs turns old → IfOk q (λ t. IsToldBy (xs ++ x ∷ []) (turns ++ t ∷ []) new)
tell_more (Ok t) q Q xs turns x new old same cases said small told = subst (λ q. IfOk q (λ t. IsToldBy (xs ++ x ∷ []) (turns ++ t ∷ []) new)) (sym cases) (IsToldBy.more xs turns x t new old told small said)
tell_more (Err e) (Ok t) Q xs turns x new old same cases said small told = absurd (true≢false same)
tell_more (Err e) (Err d) Q xs turns x new old same cases said small told = tt

-- ---- over a list
-- one more step
pub told_next : (steps : List Step) (at : ℕ) (turns : List Said) (x : Step) (t : Said) (host : Host) → at < length steps → x ≡ get_or steps at x → IsToldBy (take at steps ++ x ∷ []) (turns ++ t ∷ []) host → IsToldBy (take (at + 1) steps) (turns ++ t ∷ []) host
told_next steps at turns x t host within is told = subst (λ xs. IsToldBy xs (turns ++ t ∷ []) host) (ap (λ y. take at steps ++ y ∷ []) is ∙ sym (take_more steps at x within)) told

-- all steps were taken
pub told_all : (steps : List Step) (at : ℕ) (turns : List Said) (host : Host) → length steps ≤ at → IsToldBy (take at steps) turns host → (o : Told) × ((o.turns ≡ turns) × Tells steps o)
told_all steps at turns host over told =
    let r : IsRunOf (take at steps) turns host = run_of told in
    (r.0, (r.1.0, end_tells steps at r.0 host r.1.1 over))

-- the next step may not come
pub told_before : (steps : List Step) (at : ℕ) (turns : List Said) (x : Step) (host : Host) → at < length steps → x ≡ get_or steps at x → IsToldBy (take at steps) turns host → may_come host x ≡ false → (o : Told) × ((o.turns ≡ turns) × BreaksAt at steps o)
told_before steps at turns x host within is told cannot =
    let r : IsRunOf (take at steps) turns host = run_of told in
    (r.0, (r.1.0, stop steps at r.0 host r.1.1 x within is cannot))

-- ---- a run, step by step
-- what holds of what was told so far, and its turns were told one after another
pub record IsRunSoFar (done : List Step) (o : Told) (host : Host) : Type 0 where
  pub run : IsHostRun done o host
  pub told : IsToldBy done o.turns host

-- before the first step
pub started : (o : Told) (host : Host) → o ≡ untold → IsNew host → IsRunSoFar [] o host
started o host told new = record {
  run = subst (λ p. IsHostRun [] p host) (sym told) (host_none host new);
  told = subst (λ (p : Told). IsToldBy [] p.turns host) (sym told) (IsToldBy.none host new);
}

module _ (steps : List Step) (at : ℕ) (o : Told) (host : Host) (a : IsRunSoFar (take at steps) o host) where
  -- at the end
  pub end_turns : length steps ≤ at → AreTurnsOf steps o
  end_turns over = (host, subst (λ xs. IsToldBy xs o.turns host) (take_all at steps over) a.told)

  module _ (x : Step) (within : at < length steps) (is : x ≡ get_or steps at x) where
    -- the step there was taken or refused memory
    pub goes_on : (o' : Told) (new : Host) → IsMore x new host o' o → IsRunSoFar (take (at + 1) steps) o' new
    goes_on o' new more =
        let t : Said = more.0 in
        let turns : o'.turns ≡ o.turns ++ t ∷ [] = ap (λ (p : Told). p.turns) more.1.1 ∙ then_turns o t (reason_of (lone_of new (slot_of x)).mounted) in
        record {
          run = go_on steps at o host a.run x within is o' new more;
          told =
              subst (λ l. IsToldBy (take (at + 1) steps) l new) (sym turns)
              (told_next steps at o.turns x t new within is (IsToldBy.more (take at steps) o.turns x t new host a.told more.1.2 more.1.0));
        }

    -- the step there may not come
    pub stop_barred : may_come host x ≡ false → IsBarred steps (Disorder at o)
    stop_barred cannot = (host, (a.told, λ y there. ap (may_come host) (sym (is ∙ get_or_from_slice_get steps at y x there)) ∙ cannot))
