-- A flush, by its plan and its answers.
use Rattle.std.proofs.Common.{◌≡◌, ◌≢◌, ◌∙◌, Bool, List, [], ap, false, length, sym, ℕ}
use Rattle.std.proofs.lemmas.Bool.{ne_eqb}
use Rattle.std.specs.Prelude.{if◌then◌else◌, ◌==◌}
use Rattle.xt_base.specs.Calls.{gives}
use Rattle.xt_base.specs.Jobs.{flush, flush_of, flush_plan, flushed, unflushed}
use Rattle.xt_base.specs.State.{State}
use Rattle.xt_base.specs.declared.steps.HomeAnswers.{HomeAnswers}
use Rattle.xt_base.specs.declared.steps.Reply.TheVariants.{Nothing}

-- a plan of so many blocks that they are not none
pub not_none : (plan : List ℕ) (count : ℕ) → count ≡ length plan → count ≢ 0 → (length plan == 0) ≡ false
not_none plan count is other = ap (λ n. n == 0) (sym is) ∙ ne_eqb count 0 other

-- a flush of a plan that is not empty
pub flush_is : (s : State) (answers : HomeAnswers) (plan : List ℕ) → plan ≡ flush_plan s → (length plan == 0) ≡ false → flushed [] plan answers s ≡ flush [] answers s
flush_is s answers plan is some =
    sym (ap (λ (b : Bool). if b then gives Nothing (unflushed s) else flushed [] plan answers s) some) ∙ ap (flush_of [] answers s) is
