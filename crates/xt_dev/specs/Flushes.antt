-- What a flush offers to a home device, and which of its calls failed.
use Rattle.std.specs.Prelude.{Bool, List, [], count_by, if◌then◌else◌, map, not, ℕ, ◌++◌, ◌+◌, ◌==◌, ◌||◌, ◌∷◌}
use Rattle.std.specs.Borrow.{Bor}
use Rattle.xt_base.specs.Jobs.{sync_offer, write_answers}
use Rattle.xt_base.specs.declared.steps.HomeAnswers.{HomeAnswers}
use Rattle.xt_base.specs.declared.steps.HomeOffer.{HomeOffer}

-- blocks with the contents that stand behind their references
abbrev pub contents : List (ℕ × Bor (List ℕ)) → List (ℕ × List ℕ)
contents writes = map (λ w. (w.0, w.1.now)) writes

-- each write with its answer
abbrev pub answered : List (ℕ × List ℕ) → List Bool → List HomeOffer
answered [] answers = []
answered (w ∷ ws) [] = []
answered (w ∷ ws) (ok ∷ oks) = HomeOffer.Write w.0 w.1 ok ∷ answered ws oks

-- each write with its answer, then one sync where something was written
abbrev pub home_offers_of : HomeAnswers → List (ℕ × List ℕ) → List HomeOffer
home_offers_of answers ws = answered ws (write_answers answers) ++ sync_offer answers

-- how many of the answers are failures
abbrev pub failed_answers : HomeAnswers → ℕ
failed_answers answers = count_by not (write_answers answers) + (if answers.count == 0 || answers.sync then 0 else 1)
