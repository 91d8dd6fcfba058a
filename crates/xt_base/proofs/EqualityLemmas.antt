-- Lists of answers: the comparison of one by one decides whether they are the same.
use Rattle.std.proofs.Common.{◌≡◌, Bool, List, rules, ℕ}
use Rattle.std.specs.Prelude.{◌==◌, ◌&&◌}
use Rattle.std.specs.Bool.{Decides}
use Rattle.std.specs.Cmp.{booleans_Decides}
use Rattle.std.specs.Cmp.Lexicographic.{pointwise, pointwise_decides}
use Rattle.xt_base.specs.declared.steps.HomeAnswers.{HomeAnswers}
use Rattle.xt_base.specs.declared.steps.Step.{Step}
use Rattle.xt_base.specs.declared.steps.Step.TheVariants.{Begin, Call, End, Flush, Mount, Peek, Post, Show, Take}
use Rattle.xt_base.specs.contracts.steps.HomeAnswersPartialEq.TheImpl.{ghosts as answers_words}
use Rattle.xt_base.specs.contracts.steps.AnswerPartialEq.TheImpl.{ghosts as answer_words}
use Rattle.xt_base.specs.contracts.steps.RequestPartialEq.TheImpl.{ghosts as request_words}
use Rattle.xt_base.specs.declared.steps.Answer.{Answer}
use Rattle.xt_base.specs.declared.steps.Request.{Request}
use Rattle.xt_base.specs.contracts.steps.StepPartialEq.TheImpl.{ghosts as step_words}
use mathlib.Core.Bool.{beq}

-- yes and no, one by one
pub flags_decide : (xs ys : List Bool) → Decides (pointwise beq xs ys) (xs ≡ ys)
flags_decide = pointwise_decides booleans_Decides

-- the answers of a flush
pub answers_decide : (a b : HomeAnswers) → Decides (answers_words.eq a b) (a ≡ b)
answers_decide a b = search (flags_decide, rules)

-- requests
requests_decide : (a b : Request) → Decides (request_words.eq a b) (a ≡ b)
requests_decide a b = search rules

-- answers of the home device
contents_decide : (a b : Answer) → Decides (answer_words.eq a b) (a ≡ b)
contents_decide a b = search rules

-- calls, by what decides of requests and of answers
calls_decide : (f : Request → Request → Bool) (g : Answer → Answer → Bool) → ((a b : Request) → Decides (f a b) (a ≡ b)) → ((a b : Answer) → Decides (g a b) (a ≡ b)) → (s l : ℕ) (r : Request) (a : Answer) (t m : ℕ) (q : Request) (b : Answer) → Decides ((s == t) && ((l == m) && (f r q && g a b))) (Call s l r a ≡ Call t m q b)
calls_decide f g same_request same_answer s l r a t m q b = search (same_request, same_answer, rules)

-- steps, by the first of the two
pub steps_decide : (a b : Step) → Decides (step_words.eq a b) (a ≡ b)
steps_decide (Mount slot log_bytes blocks size) b = search rules
steps_decide (Call slot life request answer) (Call other_slot other_life asked got) = calls_decide request_words.eq answer_words.eq requests_decide contents_decide slot life request answer other_slot other_life asked got
steps_decide (Call slot life request answer) b = search rules
steps_decide (Post name) b = search rules
steps_decide (Take worker name) b = search rules
steps_decide (Begin worker name) b = search rules
steps_decide (End worker name answers) b = search rules
steps_decide (Flush worker name answers) b = search (answers_decide, rules)
steps_decide (Show slot) b = search rules
steps_decide (Peek slot) b = search rules
